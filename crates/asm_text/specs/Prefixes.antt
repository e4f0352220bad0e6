-- What a text has become where memory was wanting on the way.
use Rattle.std.specs.Prelude.{ℕ, ◌≡◌, List, ◌++◌}

-- the new text is the old one with a prefix of the whole behind it
pub record AppendsPrefix (old new whole : List ℕ) : Type 0 where
  pub front : List ℕ
  pub rest : List ℕ
  pub parts : whole ≡ front ++ rest
  pub text : new ≡ old ++ front
