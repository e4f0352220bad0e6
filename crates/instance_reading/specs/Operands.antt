-- The operands of an instance, one after the other.
use Rattle.std.specs.Prelude.{ℕ, ◌+◌, ◌≡◌, List, [], ◌∷◌, length, slice_get, Some, ℤ}
use Rattle.token_bits.specs.declared.tokens.FieldId.{FieldId}
use Rattle.token_bits.specs.declared.tokens.Tokens.{Tokens}
use Rattle.sled_model.specs.declared.constructor.OperandKind.{OperandKind}
use Rattle.sled_model.specs.declared.constructor.OperandKind.TheVariants.{Plain, Extended, Typed}
use Rattle.sled_model.specs.declared.constructor.Constructor.{Constructor}
use Rattle.sled_model.specs.declared.instance.Instance.{Instance}
use Rattle.sled_model.specs.declared.instance.Operand.{Operand}
use Rattle.sled_model.specs.declared.instance.Operand.TheVariants.{Num, Sub}
use Rattle.sled_model.specs.declared.raw.RawEntry.{RawEntry}
use Rattle.sled_model.specs.declared.raw.RawEntry.TheVariants.{Choice}
use Rattle.sled_model.specs.declared.spec.Spec.{Spec}
use Rattle.sled_model.specs.Equations.{half_of, sign_extended, EachSatisfied}
use Rattle.sled_model.specs.Instances.{Means, fields_in, labels_at}
use Rattle.sled_model.specs.Results.{choice_of}
use Rattle.sled_model.specs.Solutions.{setting_of}
use Rattle.eq_solver.specs.Inputs.{IsInKind}
use Rattle.eq_solver.specs.Sums.{at}

-- one number for each operand, in the range of its kind: those of fields are as they were read, and with the others every equation holds
pub record AreNumbersOf (tokens : Tokens) (c : Constructor) (location : ℕ) (entries : List RawEntry) (numbers : List ℤ) : Type 0 where
  pub one_each : length numbers ≡ length c.operands
  pub range : (j : ℕ) (kind : OperandKind) → slice_get c.operands j ≡ Some kind → IsInKind tokens kind (at numbers j)
  pub plain : (j : ℕ) (f : FieldId) → slice_get c.operands j ≡ Some (Plain f) → fields_in entries f.0 ≡ at numbers j
  pub extended : (j : ℕ) (f : FieldId) → slice_get c.operands j ≡ Some (Extended f) → sign_extended (half_of tokens f.0) (fields_in entries f.0) ≡ at numbers j
  pub satisfied : EachSatisfied (setting_of tokens (at numbers) (labels_at location entries)) (fields_in entries) c.equations

-- the operand of this number and kind: an instance that its choice means, or this number
abbrev pub IsOperandAt : Spec → ℕ → Constructor → List RawEntry → ℕ → OperandKind → ℤ → Operand → Type 0
IsOperandAt spec location c entries j (Typed t) n o =
    (i : Instance) × (inner : List RawEntry) × (choice_of c entries j ≡ Some (Choice i.constructor (record { entries = inner }) [])) × Means spec location inner i × (o ≡ Sub i)
IsOperandAt spec location c entries j kind n o = o ≡ Num n

-- the operands of these kinds, from number j on
abbrev pub AreOperandsFrom : Spec → ℕ → Constructor → List RawEntry → List ℤ → ℕ → List OperandKind → List Operand → Type 0
AreOperandsFrom spec location c entries numbers j [] [] = Unit {0}
AreOperandsFrom spec location c entries numbers j [] (o ∷ os) = ⊥
AreOperandsFrom spec location c entries numbers j (kind ∷ kinds) [] = ⊥
AreOperandsFrom spec location c entries numbers j (kind ∷ kinds) (o ∷ os) =
    IsOperandAt spec location c entries j kind (at numbers j) o × AreOperandsFrom spec location c entries numbers (j + 1) kinds os
