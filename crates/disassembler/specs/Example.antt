-- A description and a statement for the tests.
use Rattle.std.specs.Prelude.{ℕ, [], ◌∷◌, codes, Option, None, Some}
use Rattle.token_bits.specs.declared.tokens.FieldId.{FieldId}
use Rattle.token_bits.specs.declared.tokens.Order.TheVariants.{Big}
use Rattle.token_bits.specs.declared.tokens.Tokens.{Tokens}
use Rattle.sled_model.specs.declared.constructor.Constructor.{Constructor}
use Rattle.sled_model.specs.declared.constructor.ConstructorId.{ConstructorId}
use Rattle.sled_model.specs.declared.constructor.OperandKind.TheVariants.{Plain, Typed}
use Rattle.sled_model.specs.declared.constructor.TypeId.{TypeId}
use Rattle.sled_model.specs.declared.pattern.Argument.TheVariants.{Name, Inner}
use Rattle.sled_model.specs.declared.pattern.Pattern.{Pattern}
use Rattle.sled_model.specs.declared.pattern.Pattern.TheVariants.{Limit, Bind, Operand, Both, Chain, Label, Apply}
use Rattle.sled_model.specs.declared.pattern.Relation.TheVariants.{Equal}
use Rattle.sled_model.specs.declared.spec.Spec.{Spec}
use Rattle.sled_model.specs.declared.statement.Arm.{Arm}
use Rattle.sled_model.specs.declared.statement.Piece.TheVariants.{Words, Bound}
use Rattle.sled_model.specs.declared.statement.Statement.{Statement}

abbrev pub y : FieldId
y = record { 0 = 0 }

abbrev pub z : FieldId
z = record { 0 = 1 }

abbrev pub t : TypeId
t = record { 0 = 0 }

-- `fields of b (8) y 4:7 z 0:3`
abbrev pub tokens : Tokens
tokens = record {
  classes = record { width = 8; order = Big } ∷ [];
  fields = record { class = record { 0 = 0 }; lo = 4; hi = 7 } ∷ record { class = record { 0 = 0 }; lo = 0; hi = 3 } ∷ [];
}

-- `e(y) : t is y`
abbrev pub upper_half : Constructor
upper_half = record { name = codes "e"; result = Some t; operands = Plain y ∷ []; names = codes "y" ∷ []; equations = []; body = Bind y }

-- `f(x : t) is x`
abbrev pub around : Constructor
around = record { name = codes "f"; result = None; operands = Typed t ∷ []; names = codes "x" ∷ []; equations = []; body = Operand 0 }

abbrev pub description : Spec
description = record {
  tokens = tokens;
  class_names = codes "b" ∷ [];
  field_names = codes "y" ∷ codes "z" ∷ [];
  type_names = codes "t" ∷ [];
  constructors = upper_half ∷ around ∷ [];
  constructor_names = codes "e" ∷ codes "f" ∷ [];
}

abbrev pub e : ConstructorId
e = record { 0 = 0 }

abbrev pub f : ConstructorId
f = record { 0 = 1 }

abbrev pub z_is : ℕ → Pattern
z_is value = Limit z Equal value

-- `z = 1 & f(e(v)) => "one {v}"`
abbrev pub inner_arm : Arm
inner_arm = record {
  pattern = Both (z_is 1 ∷ Apply f (Inner (Apply e (Name 0 ∷ [])) ∷ []) ∷ []);
  names = codes "v" ∷ [];
  action = Words (codes "one ") ∷ Bound 0 ∷ [];
}

-- `z = 2 & f(v) => "two {v}"`
abbrev pub outer_arm : Arm
outer_arm = record { pattern = Both (z_is 2 ∷ Apply f (Name 0 ∷ []) ∷ []); names = codes "v" ∷ []; action = Words (codes "two ") ∷ Bound 0 ∷ [] }

-- `z = 3 ; here: y => "three {here} {y}"`
abbrev pub label_arm : Arm
label_arm = record {
  pattern = Chain (z_is 3 ∷ Label 0 (Bind y) ∷ []);
  names = codes "here" ∷ codes "y" ∷ [];
  action = Words (codes "three ") ∷ Bound 0 ∷ Words (codes " ") ∷ Bound 1 ∷ [];
}

-- the three, and so many bytes to skip
abbrev pub three_arms : Option ℕ → Statement
three_arms skip = record { arms = inner_arm ∷ outer_arm ∷ label_arm ∷ []; skip = skip }
