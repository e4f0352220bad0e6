-- The description that the rows are over. Its constructors and operands have no names, since no definition that is held here looks at these.
use Rattle.std.specs.Prelude.{ℕ, List, [], ◌∷◌, Option, Some, None, ℤ, pos, ◌-ℤ◌}
use Rattle.token_bits.specs.declared.tokens.Tokens.{Tokens}
use Rattle.token_bits.specs.declared.tokens.FieldId.{FieldId}
use Rattle.token_bits.specs.declared.tokens.Order.TheVariants.{Big, Little}
use Rattle.sled_model.specs.declared.constructor.Atom.{Atom}
use Rattle.sled_model.specs.declared.constructor.Atom.TheVariants.{Name, Field, Slice, Label as LabelAtom}
use Rattle.sled_model.specs.declared.constructor.TypeId.{TypeId}
use Rattle.sled_model.specs.declared.constructor.Term.{Term}
use Rattle.sled_model.specs.declared.constructor.Equation.{Equation}
use Rattle.sled_model.specs.declared.constructor.Constructor.{Constructor}
use Rattle.sled_model.specs.declared.constructor.OperandKind.{OperandKind}
use Rattle.sled_model.specs.declared.constructor.OperandKind.TheVariants.{Plain, Extended, Typed, Whole, Sliced}
use Rattle.sled_model.specs.declared.instance.Instance.{Instance}
use Rattle.sled_model.specs.declared.instance.Operand.{Operand}
use Rattle.sled_model.specs.declared.instance.Operand.TheVariants.{Place, Sub}
use Rattle.sled_model.specs.declared.pattern.Argument.{Argument}
use Rattle.sled_model.specs.declared.pattern.Pattern.{Pattern}
use Rattle.sled_model.specs.declared.pattern.Pattern.TheVariants.{Limit, Bind, Operand as TypedOperand, Label, Both, Chain, Loose}
use Rattle.sled_model.specs.declared.pattern.Relation.TheVariants.{Equal, Differs}
use Rattle.sled_model.specs.declared.raw.RawEntry.{RawEntry}
use Rattle.sled_model.specs.declared.raw.RawEntry.TheVariants.{Value, Choice}
use Rattle.sled_model.specs.declared.spec.Spec.{Spec}

-- ---- tokens

abbrev pub x : FieldId
x = record { 0 = 0 }

abbrev pub y : FieldId
y = record { 0 = 1 }

abbrev pub v : FieldId
v = record { 0 = 2 }

-- `fields of b (8) x 0:3 y 4:7` and `fields of w (16) little v 0:15`
abbrev pub tokens : Tokens
tokens = record {
  classes = record { width = 8; order = Big } ∷ record { width = 16; order = Little } ∷ [];
  fields = record { class = record { 0 = 0 }; lo = 0; hi = 3 } ∷ record { class = record { 0 = 0 }; lo = 4; hi = 7 } ∷ record { class = record { 0 = 1 }; lo = 0; hi = 15 } ∷ [];
}

-- ---- constructors

abbrev pub term : ℤ → Atom → Term
term n a = record { coefficient = n; atom = a }

-- `t = 2 * x`
abbrev pub twice_x : Equation
twice_x = record { terms = term (pos 1) (Name 0) ∷ term (pos 0 -ℤ pos 2) (Field x) ∷ []; rest = pos 0 }

-- `t = L + x`
abbrev pub label_and_x : Equation
label_and_x = record { terms = term (pos 1) (Name 0) ∷ term (pos 0 -ℤ pos 1) (LabelAtom 0) ∷ term (pos 0 -ℤ pos 1) (Field x) ∷ []; rest = pos 0 }

-- `t@[0:3] = x` and `t@[4:31] = 0`
abbrev pub low_is_x : Equation
low_is_x = record { terms = term (pos 1) (Slice 0 0 3) ∷ term (pos 0 -ℤ pos 1) (Field x) ∷ []; rest = pos 0 }

abbrev pub high_is_zero : Equation
high_is_zero = record { terms = term (pos 1) (Slice 0 4 31) ∷ []; rest = pos 0 }

-- `t = x + y` and `u = 2 * x`
abbrev pub x_and_y : Equation
x_and_y = record { terms = term (pos 1) (Name 0) ∷ term (pos 0 -ℤ pos 1) (Field x) ∷ term (pos 0 -ℤ pos 1) (Field y) ∷ []; rest = pos 0 }

abbrev pub other_twice_x : Equation
other_twice_x = record { terms = term (pos 1) (Name 1) ∷ term (pos 0 -ℤ pos 2) (Field x) ∷ []; rest = pos 0 }

-- `t = L`, where t is operand number 1
abbrev pub is_label : Equation
is_label = record { terms = term (pos 1) (Name 1) ∷ term (pos 0 -ℤ pos 1) (LabelAtom 0) ∷ []; rest = pos 0 }

abbrev pub made : Option TypeId → List OperandKind → List Equation → Pattern → Constructor
made result kinds es p = record { name = []; result = result; operands = kinds; names = []; equations = es; body = p }

abbrev pub half : TypeId
half = record { 0 = 0 }

-- number 0: `c(t) { t = 2 * x } is x`
abbrev pub doubled : Constructor
doubled = made None (Whole ∷ []) (twice_x ∷ []) (Bind x)

-- number 1: `k(t) { t = L + x } is L: x`
abbrev pub labelled : Constructor
labelled = made None (Whole ∷ []) (label_and_x ∷ []) (Label 0 (Bind x))

-- number 2: `d(t) : half { t = 2 * x } is x`
abbrev pub doubled_half : Constructor
doubled_half = made (Some half) (Whole ∷ []) (twice_x ∷ []) (Bind x)

-- number 3: `l(t) : half { t = L + x } is L: x`
abbrev pub labelled_half : Constructor
labelled_half = made (Some half) (Whole ∷ []) (label_and_x ∷ []) (Label 0 (Bind x))

-- number 4: `g(t, a : half) { t = 2 * x } is x ; a`
abbrev pub two_bytes : Constructor
two_bytes = made None (Whole ∷ Typed half ∷ []) (twice_x ∷ []) (Chain (Bind x ∷ TypedOperand 1 ∷ []))

-- number 5: `e(y) is y & y = 3`
abbrev pub only_three : Constructor
only_three = made None (Plain y ∷ []) [] (Both (Bind y ∷ Limit y Equal 3 ∷ []))

-- number 6: `s(x!) is x`
abbrev pub signed : Constructor
signed = made None (Extended x ∷ []) [] (Bind x)

-- number 7: `h(t) { t@[0:3] = x  t@[4:31] = 0 } is x`
abbrev pub sliced : Constructor
sliced = made None (Sliced ∷ []) (low_is_x ∷ high_is_zero ∷ []) (Bind x)

-- number 8: `q(t, u) { t = x + y  u = 2 * x } is x & y`
abbrev pub two_hidden : Constructor
two_hidden = made None (Whole ∷ Whole ∷ []) (x_and_y ∷ other_twice_x ∷ []) (Both (Bind x ∷ Bind y ∷ []))

-- number 9: `z() is v != 0`
abbrev pub not_zero : Constructor
not_zero = made None [] [] (Limit v Differs 0)

abbrev pub wide : TypeId
wide = record { 0 = 1 }

-- number 10: `one() : wide is x = 1`
abbrev pub one_long : Constructor
one_long = made (Some wide) [] [] (Limit x Equal 1)

-- number 11: `two() : wide is x = 2 ; y = 0`
abbrev pub two_long : Constructor
two_long = made (Some wide) [] [] (Chain (Limit x Equal 2 ∷ Limit y Equal 0 ∷ []))

-- number 12: `m(a : wide, t) { t = L } is a ; L: y = 5`
abbrev pub label_behind : Constructor
label_behind = made None (Typed wide ∷ Whole ∷ []) (is_label ∷ []) (Chain (TypedOperand 0 ∷ Label 0 (Limit y Equal 5) ∷ []))

-- number 13: `n(a : wide, t) { t = L } is (a ... & (y = 0 ; x = 3)) ; L: y = 5`
abbrev pub behind_loose : Constructor
behind_loose = made None (Typed wide ∷ Whole ∷ []) (is_label ∷ [])
    (Chain (Both (Loose (TypedOperand 0) ∷ Chain (Limit y Equal 0 ∷ Limit x Equal 3 ∷ []) ∷ []) ∷ Label 0 (Limit y Equal 5) ∷ []))

abbrev pub description : Spec
description = record {
  tokens = tokens;
  class_names = (98 ∷ []) ∷ (119 ∷ []) ∷ [];
  field_names = (120 ∷ []) ∷ (121 ∷ []) ∷ (118 ∷ []) ∷ [];
  type_names = (104 ∷ []) ∷ (119 ∷ 119 ∷ []) ∷ [];
  constructors = doubled ∷ labelled ∷ doubled_half ∷ labelled_half ∷ two_bytes ∷ only_three ∷ signed ∷ sliced ∷ two_hidden ∷ not_zero ∷ one_long ∷ two_long ∷ label_behind ∷ behind_loose ∷ [];
  constructor_names = [];
}

-- ---- instances

abbrev pub instance : ℕ → List Operand → Instance
instance k operands = record { constructor = record { 0 = k }; operands = operands }

abbrev pub c_of : Operand → Instance
c_of o = instance 0 (o ∷ [])

abbrev pub k_of : Operand → Instance
k_of o = instance 1 (o ∷ [])

abbrev pub d_of : Operand → Instance
d_of o = instance 2 (o ∷ [])

abbrev pub l_of : Operand → Instance
l_of o = instance 3 (o ∷ [])

abbrev pub g_of : Operand → Instance → Instance
g_of o i = instance 4 (o ∷ Sub i ∷ [])

abbrev pub e_of : Operand → Instance
e_of o = instance 5 (o ∷ [])

abbrev pub s_of : Operand → Instance
s_of o = instance 6 (o ∷ [])

abbrev pub h_of : Operand → Instance
h_of o = instance 7 (o ∷ [])

abbrev pub q_of : Operand → Operand → Instance
q_of o p = instance 8 (o ∷ p ∷ [])

abbrev pub z_of : Instance
z_of = instance 9 []

abbrev pub one_of : Instance
one_of = instance 10 []

abbrev pub two_of : Instance
two_of = instance 11 []

abbrev pub m_of : Instance → Operand → Instance
m_of i o = instance 12 (Sub i ∷ o ∷ [])

abbrev pub n_of : Instance → Operand → Instance
n_of i o = instance 13 (Sub i ∷ o ∷ [])

-- the label of this number, and what is added to its address
abbrev pub place : ℕ → ℤ → Operand
place label add = Place (record { 0 = label }) add

-- ---- entries

-- the choice of the constructor of this number, with what its body bound
abbrev pub chosen : ℕ → List RawEntry → List Argument → RawEntry
chosen k entries arguments = Choice (record { 0 = k }) (record { entries = entries }) arguments

-- x was read so at this offset
abbrev pub x_read : ℕ → ℕ → RawEntry
x_read value at = Value x value at

abbrev pub y_read : ℕ → ℕ → RawEntry
y_read value at = Value y value at
