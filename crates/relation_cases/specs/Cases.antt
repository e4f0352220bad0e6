-- Cases of the bytes of a window.
use Rattle.std.specs.Prelude.{ℕ, ◌-◌, ◌*◌, ◌/◌, ◌%◌, ◌^◌, Bool, false, List}
use Rattle.std.specs.Option.{option_map_or}
use Rattle.bit_cases.specs.declared.byte_case.ByteCase.{ByteCase}
use Rattle.bit_cases.specs.Bits.{meets}
use Rattle.token_bits.specs.declared.tokens.Order.{Order}
use Rattle.token_bits.specs.declared.tokens.Order.TheVariants.{Big, Little}
use Rattle.token_bits.specs.declared.tokens.Class.{Class}
use Rattle.token_bits.specs.declared.tokens.Field.{Field}
use Rattle.token_bits.specs.Tokens.{token, bits_of}

-- the window meets the case
abbrev pub is_met : List ℕ → ByteCase → Bool
is_met window case = meets case.mask case.value case.len window

-- the window has the token at the offset, and the field's value in it passes the test
abbrev pub field_is : Class → Field → (ℕ → Bool) → ℕ → List ℕ → Bool
field_is class field test at window = option_map_or (λ number. test (bits_of field.lo field.hi number)) (token class window at) false

-- how many bytes of a token of so many are less significant than the one at place k
abbrev pub bytes_below : Order → ℕ → ℕ → ℕ
bytes_below Big count k = count - 1 - k
bytes_below Little count k = k

-- the byte at place k of the token of so many bytes that spells the number
abbrev pub byte_at : Order → ℕ → ℕ → ℕ → ℕ
byte_at order count number k = number / 2 ^ (8 * bytes_below order count k) % 256
