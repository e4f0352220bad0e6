-- What a reader or a writer that counts its faults is seen as.
use Rattle.std.specs.Prelude.{ℕ, List, Option}

-- the bytes that the reader has left or that the writer holds, where its type tells them, and the faults so far
pub record Stream : Type 0 where
  pub known : Option (List ℕ)
  pub faults : ℕ
