-- What instances and operands have a text.
use Rattle.std.specs.Prelude.{◌≡◌, true, IsSome, All, slice_get}
use Rattle.sled_model.specs.declared.instance.Instance.{Instance}
use Rattle.sled_model.specs.declared.instance.Operand.{Operand, Row_of-Instance, end_of-Instance, more_of-Instance, Row_of-Operand, end_of-Operand, more_of-Operand}
use Rattle.sled_model.specs.declared.instance.Operand.TheVariants.{Num, Place, Sub, Sub'}
use Rattle.sled_model.specs.declared.spec.Spec.{Spec}
use Rattle.sled_model.specs.Kinds.{admits}

abbrev mutual
  -- neither the operand nor one inside it, at any level, is the address of a label
  pub HasNoPlace : Operand → Type 0
  HasNoPlace (Num n) = Unit {0}
  HasNoPlace (Place label add) = ⊥
  HasNoPlace (Sub' s i) = RowHasNoPlace i

  pub RowHasNoPlace : {n : _} → Row_of-Instance n → Type 0
  RowHasNoPlace end_of-Instance = Unit {0}
  RowHasNoPlace (more_of-Instance k s operands none) = RowsHaveNoPlace operands

  pub RowsHaveNoPlace : {n : _} → Row_of-Operand n → Type 0
  RowsHaveNoPlace end_of-Operand = Unit {0}
  RowsHaveNoPlace (more_of-Operand o os) = HasNoPlace o × RowsHaveNoPlace os

-- where the operand is an instance, the description admits it
abbrev pub IsAdmitted : Spec → Operand → Type 0
IsAdmitted spec o = (i : Instance) → o ≡ Sub i → admits spec i ≡ true

abbrev mutual
  -- the operand is a number, or an instance of a known constructor whose operands are such at every level
  pub HasText : Spec → Operand → Type 0
  HasText spec (Num n) = Unit {0}
  HasText spec (Place label add) = ⊥
  HasText spec (Sub' s i) = RowHasText spec i

  pub RowHasText : {n : _} → Spec → Row_of-Instance n → Type 0
  RowHasText spec end_of-Instance = ⊥
  RowHasText spec (more_of-Instance k s operands none) = IsSome (slice_get spec.constructors k.0) × RowsHaveText spec operands

  pub RowsHaveText : {n : _} → Spec → Row_of-Operand n → Type 0
  RowsHaveText spec end_of-Operand = Unit {0}
  RowsHaveText spec (more_of-Operand o os) = HasText spec o × RowsHaveText spec os

-- the instance is of a known constructor, and each of its operands has a text
pub record InstanceHasText (spec : Spec) (i : Instance) : Type 0 where
  pub known : IsSome (slice_get spec.constructors i.constructor.0)
  pub operands : All (HasText spec) i.operands
