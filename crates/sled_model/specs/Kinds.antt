-- What may stand for an operand of a constructor, and the range of its numbers.
use Rattle.std.specs.Prelude.{ℕ, ◌+◌, ◌-◌, ◌^◌, Bool, true, false, ◌&&◌, List, [], ◌∷◌, Option, Some, None, slice_get, option_map, ℤ, pos, ◌-ℤ◌, int_le, int_lt}
use Rattle.std.specs.Option.{option_map_or}
use Rattle.token_bits.specs.declared.tokens.Tokens.{Tokens}
use Rattle.sled_model.specs.declared.constructor.TypeId.{TypeId}
use Rattle.sled_model.specs.declared.constructor.ConstructorId.{ConstructorId}
use Rattle.sled_model.specs.declared.constructor.OperandKind.{OperandKind}
use Rattle.sled_model.specs.declared.constructor.OperandKind.TheVariants.{Plain, Extended, Typed, Whole, Sliced}
use Rattle.sled_model.specs.declared.constructor.Constructor.{Constructor}
use Rattle.sled_model.specs.declared.instance.Instance.{Instance}
use Rattle.sled_model.specs.declared.instance.Operand.{Operand, Row_of-Instance, end_of-Instance, more_of-Instance, Row_of-Operand, end_of-Operand, more_of-Operand}
use Rattle.sled_model.specs.declared.instance.Operand.TheVariants.{Num, Place, Sub'}
use Rattle.sled_model.specs.declared.spec.Spec.{Spec}
use Rattle.sled_model.specs.Measures.{width_at}
use Rattle.sled_model.specs.Results.{makes}

-- the least and the greatest number that an operand of the kind can be; a typed one is no number
abbrev pub range_of : Tokens → OperandKind → Option (ℤ × ℤ)
range_of tokens (Plain f) = Some (pos 0, pos (2 ^ width_at tokens f - 1))
range_of tokens (Extended f) = Some (pos 0 -ℤ pos (2 ^ (width_at tokens f - 1)), pos (2 ^ (width_at tokens f - 1) - 1))
range_of tokens (Typed t) = None
range_of tokens Whole = Some (pos 0 -ℤ pos (2 ^ 34), pos (2 ^ 34 - 1))
range_of tokens Sliced = Some (pos 0, pos (2 ^ 32 - 1))

-- what is added to a label's address is from -2 ^ 34 to 2 ^ 34 - 1
abbrev pub is_addend : ℤ → Bool
is_addend add = int_le (pos 0 -ℤ pos (2 ^ 34)) add && int_lt add (pos (2 ^ 34))

abbrev pub is_number_kind : OperandKind → Bool
is_number_kind (Typed t) = false
is_number_kind _ = true

abbrev pub type_in : OperandKind → Option TypeId
type_in (Typed t) = Some t
type_in _ = None

abbrev pub is_of : Option TypeId → Constructor → Bool
is_of None c = false
is_of (Some t) c = makes t c.result

-- the instance's constructor is of the type
abbrev pub makes_type : Spec → TypeId → Instance → Bool
makes_type spec t i = option_map_or (is_of (Some t)) (slice_get spec.constructors i.constructor.0) false

-- the kinds of the operands of a known constructor
abbrev pub kinds_of : Spec → ConstructorId → Option (List OperandKind)
kinds_of spec k = option_map (λ (c : Constructor). c.operands) (slice_get spec.constructors k.0)

abbrev mutual
  -- whether the operand is of the kind: a number, or a label's address and a number, or an instance of a constructor of the type
  pub is_of_kind : Spec → OperandKind → Operand → Bool
  is_of_kind spec kind (Num n) = is_number_kind kind
  is_of_kind spec kind (Place label add) = is_number_kind kind && is_addend add
  is_of_kind spec kind (Sub' s i) = row_is_of_type spec (type_in kind) i

  pub row_is_of_type : {n : _} → Spec → Option TypeId → Row_of-Instance n → Bool
  row_is_of_type spec t end_of-Instance = false
  row_is_of_type spec t (more_of-Instance k s operands none) =
      option_map_or (is_of t) (slice_get spec.constructors k.0) false && row_is_of_kinds spec (kinds_of spec k) operands

  pub row_is_of_kinds : {n : _} → Spec → Option (List OperandKind) → Row_of-Operand n → Bool
  row_is_of_kinds spec None operands = false
  row_is_of_kinds spec (Some []) end_of-Operand = true
  row_is_of_kinds spec (Some []) (more_of-Operand o os) = false
  row_is_of_kinds spec (Some (kind ∷ kinds)) end_of-Operand = false
  row_is_of_kinds spec (Some (kind ∷ kinds)) (more_of-Operand o os) = is_of_kind spec kind o && row_is_of_kinds spec (Some kinds) os

-- one operand for each kind, and of that kind
abbrev pub are_of_kinds : Spec → List OperandKind → List Operand → Bool
are_of_kinds spec [] [] = true
are_of_kinds spec (kind ∷ kinds) (o ∷ os) = is_of_kind spec kind o && are_of_kinds spec kinds os
are_of_kinds spec _ _ = false

-- the description admits the instance: at every level the constructor is known, and its operands are of its kinds
abbrev pub admits : Spec → Instance → Bool
admits spec i = option_map_or (λ kinds. are_of_kinds spec kinds i.operands) (kinds_of spec i.constructor) false
