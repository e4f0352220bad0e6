-- A number made of its slices.
use Rattle.std.specs.Prelude.{ℕ, ◌+◌, ◌*◌, ◌/◌, ◌%◌, ◌^◌, ◌≡◌, ◌<◌, List, [], ◌∷◌}

-- a slice of a number: `width` bits from bit `low` on
pub record Piece : Type 0 where
  pub low : ℕ
  pub width : ℕ
  pub value : ℕ

-- from the highest down to bit 0, each where the one before ends
abbrev pub IsChain : ℕ → List Piece → Type 0
IsChain top [] = top ≡ 0
IsChain top (p ∷ ps) = (p.low + p.width ≡ top) × IsChain p.low ps

abbrev pub AreSmall : List Piece → Type 0
AreSmall [] = Unit {0}
AreSmall (p ∷ ps) = (p.value < 2 ^ p.width) × AreSmall ps

-- x has these slices
abbrev pub Matches : ℕ → List Piece → Type 0
Matches x [] = Unit {0}
Matches x (p ∷ ps) = (x / 2 ^ p.low % 2 ^ p.width ≡ p.value) × Matches x ps

abbrev pub assembled : ℕ → List Piece → ℕ
assembled high [] = high
assembled high (p ∷ ps) = assembled (high * 2 ^ p.width + p.value) ps
