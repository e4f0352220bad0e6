-- What a field's token is after a value is put into the field.
use Rattle.std.specs.Prelude.{ℕ, ◌≡◌, ◌<◌, ◌⊎◌, ◌+◌, List, length, take, drop, slice_get, unwrap_or, Some}
use Rattle.std.specs.Option.{option_map_or, IsSomeAnd}
use Rattle.std.specs.Int.{bit_at}
use Rattle.token_bits.specs.declared.tokens.Class.{Class}
use Rattle.token_bits.specs.declared.tokens.Field.{Field}
use Rattle.token_bits.specs.declared.tokens.FieldId.{FieldId}
use Rattle.token_bits.specs.declared.tokens.Tokens.{Tokens}
use Rattle.token_bits.specs.Tokens.{token, class_of, token_len, value_at}

-- the number of the field's token at offset i, or 0 where the token does not exist
abbrev pub token_number : Tokens → FieldId → List ℕ → ℕ → ℕ
token_number tokens f bytes i = option_map_or (λ (class : Class). unwrap_or (token class bytes i) 0) (class_of tokens f) 0

-- bit j of a token is none of the field's
abbrev pub IsOutside : Tokens → FieldId → ℕ → Type 0
IsOutside tokens f j = IsSomeAnd (slice_get tokens.fields f.0) (λ (field : Field). (j < field.lo) ⊎ (field.hi < j))

-- the new bytes have this value in the field of the token at offset i, and every other bit of the old ones
pub record IsPut (tokens : Tokens) (f : FieldId) (value : ℕ) (old new : List ℕ) (i : ℕ) : Type 0 where
  pub len : length new ≡ length old
  pub reads : value_at tokens f new i ≡ Some value
  pub others : (j : ℕ) → IsOutside tokens f j → bit_at (token_number tokens f new i) j ≡ bit_at (token_number tokens f old i) j
  pub before : take i new ≡ take i old
  pub behind : drop (i + token_len tokens f) new ≡ drop (i + token_len tokens f) old
