-- What the definitions say of a few numbers and texts.
use Rattle.std.proofs.Common.{◌≡◌, ℕ, List, [], ◌∷◌, ◌++◌, pos, All, None, ap, refl, arith}
use Rattle.std.proofs.lemmas.List.Elements.{All-nil, All-cons}
use Rattle.std.specs.List.{flat_map}
use Rattle.std.specs.Prelude.{codes, negsuc}
use Rattle.std.specs.Fmt.{digits}
use Rattle.sled_model.specs.declared.constructor.Constructor.{Constructor}
use Rattle.sled_model.specs.declared.pattern.Pattern.TheVariants.{Empty}
use Rattle.sled_model.specs.declared.instance.Instance.{Instance}
use Rattle.sled_model.specs.declared.instance.Operand.TheVariants.{Num, Sub}
use Rattle.sled_model.specs.declared.spec.Spec.{Spec}
use Rattle.sled_model.specs.declared.statement.Piece.TheVariants.{Words, Bound}
use Rattle.asm_text.specs.Actions.{NamesBelow, piece_text}
use Rattle.asm_text.specs.Numbers.{number_text}
use Rattle.asm_text.specs.Instances.{joined, instance_text}
use Rattle.asm_text.proofs.TextLaws.{operand_text-Sub}

nought : number_text (pos 0) ≡ codes "0"
unfolding digits
nought = refl

positive : number_text (pos 4294967295) ≡ codes "4294967295"
unfolding digits
positive = refl

-- `negsuc 31` is -32
negative : number_text (negsuc 31) ≡ codes "-32"
unfolding digits
negative = refl

-- the least number of 64 bits
least : number_text (negsuc 9223372036854775807) ≡ codes "-9223372036854775808"
unfolding digits
least = refl

no_operand : joined [] ≡ codes ""
no_operand = refl

one_operand : joined (codes "5" ∷ []) ≡ codes "5"
one_operand = refl

three_operands : joined (codes "29" ∷ codes "29" ∷ codes "-32" ∷ []) ≡ codes "29, 29, -32"
three_operands = refl

-- the action `load {v}` names none but the first name
pub load_names_known : All (NamesBelow 1) (Words (codes "load ") ∷ Bound 0 ∷ [])
load_names_known =
    All-cons (NamesBelow 1) (Words (codes "load ")) (Bound 0 ∷ []) tt (All-cons (NamesBelow 1) (Bound 0) [] (omega arith) (All-nil (NamesBelow 1)))

-- where the name's value is 5 it reads `load 5`
load_five : (spec : Spec) → flat_map (piece_text spec (Num (pos 5) ∷ [])) (Words (codes "load ") ∷ Bound 0 ∷ []) ≡ codes "load 5"
unfolding digits
load_five spec = refl

-- ---- instances

-- a constructor of this name and no more
named : List ℕ → Constructor
named name = record { name = name; result = None; operands = []; names = []; equations = []; body = Empty }

-- the constructors `addiu`, `at8` and `m`
three : Spec
three = record {
  tokens = record { classes = []; fields = [] };
  class_names = [];
  field_names = [];
  type_names = [];
  constructors = named (codes "addiu") ∷ named (codes "at8") ∷ named (codes "m") ∷ [];
  constructor_names = [];
}

plain : instance_text three (record { constructor = record { 0 = 0 }; operands = Num (pos 29) ∷ Num (pos 29) ∷ Num (negsuc 31) ∷ [] }) ≡ codes "addiu(29, 29, -32)"
unfolding digits three named
plain = refl

inside : Instance
inside = record { constructor = record { 0 = 1 }; operands = Num (pos 5) ∷ Num (negsuc 3) ∷ [] }

nested : instance_text three (record { constructor = record { 0 = 2 }; operands = Sub inside ∷ [] }) ≡ codes "m(at8(5, -4))"
unfolding digits three named inside
nested = ap (λ t. codes "m(" ++ joined (t ∷ []) ++ codes ")") (operand_text-Sub three inside)
