-- Tokens of a list of bytes, and the fields that are read from them.
use Rattle.std.specs.Prelude.{ℕ, ◌≡◌, ◌≤◌, ◌<◌, ◌⊎◌, ◌+◌, ◌-◌, ◌*◌, ◌/◌, ◌%◌, ◌^◌, nat_le, List, length, take, drop, reverse, fold, slice_get, All, Option, Some, None, option_and_then, if◌then◌else◌}
use Rattle.std.specs.Option.{option_map, option_map_or, IsSomeAnd}
use Rattle.token_bits.specs.declared.tokens.Order.{Order}
use Rattle.token_bits.specs.declared.tokens.Order.TheVariants.{Big, Little}
use Rattle.token_bits.specs.declared.tokens.Class.{Class}
use Rattle.token_bits.specs.declared.tokens.Field.{Field}
use Rattle.token_bits.specs.declared.tokens.FieldId.{FieldId}
use Rattle.token_bits.specs.declared.tokens.Tokens.{Tokens}

-- the number that the bytes spell, most significant first
abbrev pub number_of : List ℕ → ℕ
number_of bytes = fold (λ n byte. 256 * n + byte) 0 bytes

-- the bytes, most significant first
abbrev pub in_order : Order → List ℕ → List ℕ
in_order Big bytes = bytes
in_order Little bytes = reverse bytes

-- how many bytes a token of the class has
abbrev pub byte_count : Class → ℕ
byte_count class = class.width / 8

-- the token at offset i, where all its bytes exist
abbrev pub token : Class → List ℕ → ℕ → Option ℕ
token class bytes i =
    if nat_le (i + byte_count class) (length bytes)
    then Some (number_of (in_order class.order (take (byte_count class) (drop i bytes)))) else None

-- the number that bits lo to hi of n spell
abbrev pub bits_of : ℕ → ℕ → ℕ → ℕ
bits_of lo hi n = n / 2 ^ lo % 2 ^ (hi - lo + 1)

-- how many bits a field has
abbrev pub width_of : Field → ℕ
width_of field = field.hi - field.lo + 1

-- the class of the field's token
abbrev pub class_of : Tokens → FieldId → Option Class
class_of tokens f = option_and_then (λ (field : Field). slice_get tokens.classes field.class.0) (slice_get tokens.fields f.0)

-- how many bytes a token of the field's class has
abbrev pub token_len : Tokens → FieldId → ℕ
token_len tokens f = option_map_or byte_count (class_of tokens f) 0

-- the field's value in the token at offset i, where the token exists
abbrev pub value_at : Tokens → FieldId → List ℕ → ℕ → Option ℕ
value_at tokens f bytes i =
    option_and_then (λ (field : Field). option_and_then (λ (class : Class). option_map (bits_of field.lo field.hi) (token class bytes i)) (slice_get tokens.classes field.class.0))
    (slice_get tokens.fields f.0)

-- a class is 8, 16 or 32 bits wide
abbrev pub IsWidth : ℕ → Type 0
IsWidth width = (width ≡ 8) ⊎ (width ≡ 16) ⊎ (width ≡ 32)

-- a field's bits stand in order in the tokens of one of the classes
abbrev pub IsFieldOf : List Class → Field → Type 0
IsFieldOf classes field = (field.lo ≤ field.hi) × IsSomeAnd (slice_get classes field.class.0) (λ class. field.hi < class.width)

-- the classes and fields are such as the language admits
pub record AreTokens (tokens : Tokens) : Type 0 where
  pub widths : All (λ class. IsWidth class.width) tokens.classes
  pub fields : All (IsFieldOf tokens.classes) tokens.fields
