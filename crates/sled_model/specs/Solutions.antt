-- Whether a constructor's equations have a solution for given operands and labels.
use Rattle.std.specs.Prelude.{ℕ, ◌+◌, ◌≡◌, List, [], ◌∷◌, take, slice_get, Some, ℤ}
use Rattle.std.specs.List.{filter_map}
use Rattle.token_bits.specs.declared.tokens.Tokens.{Tokens}
use Rattle.sled_model.specs.declared.constructor.OperandKind.{OperandKind}
use Rattle.sled_model.specs.declared.constructor.OperandKind.TheVariants.{Plain, Extended}
use Rattle.sled_model.specs.declared.constructor.Equation.{Equation}
use Rattle.sled_model.specs.declared.constructor.Constructor.{Constructor}
use Rattle.sled_model.specs.Equations.{Setting, half_of, sign_extended, AreFieldValues, EachSatisfied}
use Rattle.sled_model.specs.SolvingOrder.{solving_order}

-- the fields that are operands, those of these kinds from number j on, have the values that the operands give
abbrev pub OperandsFit : Setting → (ℕ → ℤ) → ℕ → List OperandKind → Type 0
OperandsFit setting fields j [] = Unit {0}
OperandsFit setting fields j (Plain f ∷ kinds) = (fields f.0 ≡ setting.operands j) × OperandsFit setting fields (j + 1) kinds
OperandsFit setting fields j (Extended f ∷ kinds) = (sign_extended (setting.halves f.0) (fields f.0) ≡ setting.operands j) × OperandsFit setting fields (j + 1) kinds
OperandsFit setting fields j (_ ∷ kinds) = OperandsFit setting fields (j + 1) kinds

-- each field has one of its values, and that of a field operand is the operand's
pub record FieldsFit (setting : Setting) (kinds : List OperandKind) (fields : ℕ → ℤ) : Type 0 where
  pub values : AreFieldValues setting.halves fields
  pub operands : OperandsFit setting fields 0 kinds

-- the hidden fields have values with which all of these equations hold
abbrev pub CanSatisfy : Setting → Constructor → List Equation → Type 0
CanSatisfy setting c es = (fields : ℕ → ℤ) × FieldsFit setting c.operands fields × EachSatisfied setting fields es

abbrev pub equations_at : List Equation → List ℕ → List Equation
equations_at es ks = filter_map (slice_get es) ks

-- the first n equations in solving order
abbrev pub first_equations : Constructor → ℕ → List Equation
first_equations c n = equations_at c.equations (take n (solving_order c))

-- the equation of this number is the first, in solving order, that cannot be satisfied together with all before it
pub record IsFirstUnsolvable (setting : Setting) (c : Constructor) (equation : ℕ) : Type 0 where
  pub place : ℕ
  pub named : slice_get (solving_order c) place ≡ Some equation
  pub before : CanSatisfy setting c (first_equations c place)
  pub after : CanSatisfy setting c (first_equations c (place + 1)) → ⊥

-- the setting of a constructor's equations, for these operands and labels
abbrev pub setting_of : Tokens → (ℕ → ℤ) → (ℕ → ℤ) → Setting
setting_of tokens operands labels = record { halves = half_of tokens; operands = operands; labels = labels }
