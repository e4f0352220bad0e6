-- Instances as text.
use Rattle.std.specs.Prelude.{ℕ, List, [], ◌∷◌, ◌++◌, ◌==◌, if◌then◌else◌, map, codes, slice_get}
use Rattle.std.specs.List.{flat_map}
use Rattle.std.specs.Option.{option_map_or}
use Rattle.sled_model.specs.declared.constructor.Constructor.{Constructor}
use Rattle.sled_model.specs.declared.constructor.ConstructorId.{ConstructorId}
use Rattle.sled_model.specs.declared.instance.Instance.{Instance}
use Rattle.sled_model.specs.declared.instance.Operand.{Operand, Row_of-Instance, end_of-Instance, more_of-Instance, Row_of-Operand, end_of-Operand, more_of-Operand}
use Rattle.sled_model.specs.declared.instance.Operand.TheVariants.{Num, Place, Sub'}
use Rattle.sled_model.specs.declared.spec.Spec.{Spec}
use Rattle.asm_text.specs.Numbers.{number_text}

-- the name of a known constructor
abbrev pub constructor_name : Spec → ConstructorId → List ℕ
constructor_name spec k = option_map_or (λ (c : Constructor). c.name) (slice_get spec.constructors k.0) []

-- a comma and one space
abbrev pub separator : List ℕ
separator = codes ", "

-- the texts, with a comma and one space between two
abbrev pub joined : List (List ℕ) → List ℕ
joined [] = []
joined (t ∷ ts) = t ++ flat_map (λ u. separator ++ u) ts

-- what stands before the text of this number: nothing before the first
abbrev pub separator_before : ℕ → List ℕ
separator_before number = if number == 0 then [] else separator

-- the constructor's name, and the texts of the operands in parentheses
abbrev pub applied_text : Spec → ConstructorId → List (List ℕ) → List ℕ
applied_text spec k operands = constructor_name spec k ++ codes "(" ++ joined operands ++ codes ")"

abbrev mutual
  -- a number in decimal, or an instance as such; the address of a label has no text
  pub operand_text : Spec → Operand → List ℕ
  operand_text spec (Num n) = number_text n
  operand_text spec (Place label add) = []
  operand_text spec (Sub' s i) = row_text spec i

  pub row_text : {n : _} → Spec → Row_of-Instance n → List ℕ
  row_text spec end_of-Instance = []
  row_text spec (more_of-Instance k s operands none) = applied_text spec k (row_texts spec operands)

  pub row_texts : {n : _} → Spec → Row_of-Operand n → List (List ℕ)
  row_texts spec end_of-Operand = []
  row_texts spec (more_of-Operand o os) = operand_text spec o ∷ row_texts spec os

-- the instance's constructor, and its operands in parentheses
abbrev pub instance_text : Spec → Instance → List ℕ
instance_text spec i = applied_text spec i.constructor (map (operand_text spec) i.operands)
