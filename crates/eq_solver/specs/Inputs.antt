-- The operands and labels for which a constructor's equations are solved.
use Rattle.std.specs.Prelude.{ℕ, ◌+◌, ◌^◌, ◌≡◌, ◌<◌, List, length, slice_get, Some, MatchOption, ℤ, pos, ◌≤ℤ◌}
use Rattle.token_bits.specs.declared.tokens.Tokens.{Tokens}
use Rattle.sled_model.specs.declared.constructor.OperandKind.{OperandKind}
use Rattle.sled_model.specs.declared.constructor.Constructor.{Constructor}
use Rattle.sled_model.specs.Equations.{IsBetween}
use Rattle.sled_model.specs.Kinds.{range_of}
use Rattle.sled_model.specs.Linear.{labels_in}
use Rattle.eq_solver.specs.Sums.{at}

-- x is in the range of the kind, and 0 where an operand of the kind is no number
abbrev pub IsInKind : Tokens → OperandKind → ℤ → Type 0
IsInKind tokens kind x = MatchOption (range_of tokens kind) (x ≡ pos 0) (λ r. (r.0 ≤ℤ x) × (x ≤ℤ r.1))

-- one number for each operand, in the range of its kind
pub record AreOperandsOf (tokens : Tokens) (c : Constructor) (operands : List ℤ) : Type 0 where
  pub one_each : length operands ≡ length c.operands
  pub each : (k : ℕ) (kind : OperandKind) → slice_get c.operands k ≡ Some kind → IsInKind tokens kind (at operands k)

-- one number for each label, from 0 to 2 ^ 33
pub record AreLabelsOf (c : Constructor) (labels : List ℤ) : Type 0 where
  pub one_each : length labels ≡ length (labels_in c.body)
  pub each : (l : ℕ) → l < length labels → IsBetween (pos 0) (pos (2 ^ 33 + 1)) (at labels l)
