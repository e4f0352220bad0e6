-- A small description, and what one byte means in it.
use Rattle.std.specs.Prelude.{ℕ, ◌^◌, ◌<◌, List, [], ◌∷◌, None, pos}
use Rattle.token_bits.specs.declared.tokens.Tokens.{Tokens}
use Rattle.token_bits.specs.declared.tokens.FieldId.{FieldId}
use Rattle.token_bits.specs.declared.tokens.Order.TheVariants.{Big}
use Rattle.sled_model.specs.declared.constructor.Constructor.{Constructor}
use Rattle.sled_model.specs.declared.constructor.ConstructorId.{ConstructorId}
use Rattle.sled_model.specs.declared.constructor.OperandKind.TheVariants.{Plain}
use Rattle.sled_model.specs.declared.instance.Instance.{Instance}
use Rattle.sled_model.specs.declared.instance.Operand.TheVariants.{Num}
use Rattle.sled_model.specs.declared.pattern.Pattern.TheVariants.{Bind}
use Rattle.sled_model.specs.declared.raw.RawEntry.{RawEntry}
use Rattle.sled_model.specs.declared.raw.RawEntry.TheVariants.{Value}
use Rattle.sled_model.specs.declared.spec.Spec.{Spec}
use Rattle.match_meaning.specs.Readable.{IsReadableSpec}
use Rattle.instance_reading.specs.Reading.{IsBodyResult, IsOnlyMeant}

abbrev pub y : FieldId
y = record { 0 = 0 }

-- `fields of b (8) y 4:7`
abbrev pub tokens : Tokens
tokens = record { classes = record { width = 8; order = Big } ∷ []; fields = record { class = record { 0 = 0 }; lo = 4; hi = 7 } ∷ [] }

-- `e(y) is y`
abbrev pub upper_half : Constructor
upper_half = record { name = 101 ∷ []; result = None; operands = Plain y ∷ []; names = (121 ∷ []) ∷ []; equations = []; body = Bind y }

abbrev pub description : Spec
description = record {
  tokens = tokens;
  class_names = (98 ∷ []) ∷ [];
  field_names = (121 ∷ []) ∷ [];
  type_names = [];
  constructors = upper_half ∷ [];
  constructor_names = (101 ∷ []) ∷ [];
}

abbrev pub e : ConstructorId
e = record { 0 = 0 }

-- what `e` reads of the byte 0x35
abbrev pub three_read : List RawEntry
three_read = Value y 3 0 ∷ []

-- `e(3)`
abbrev pub e_of_three : Instance
e_of_three = record { constructor = e; operands = Num (pos 3) ∷ [] }

-- the description can be read, `e` reads 3 of a byte, and that means e(3) alone
abbrev pub ExampleRow : Type 0
ExampleRow = IsReadableSpec description × IsBodyResult description e three_read × ((location : ℕ) → location < 2 ^ 32 → IsOnlyMeant description location e three_read e_of_three)
