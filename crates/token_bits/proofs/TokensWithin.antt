-- A token that is read lies within the bytes.
use Rattle.std.proofs.Common.{◌≡◌, ℕ, ◌+◌, ◌≤◌, List, length, Option, Some, None, leb, option_and_then, slice_get}
use Rattle.std.specs.Option.{option_map, option_map_or}
use Rattle.std.proofs.lemmas.Bool.{leb-true}
use Rattle.std.proofs.lemmas.Option.{cond_some, option_and_then_some}
use Rattle.token_bits.specs.declared.tokens.Class.{Class}
use Rattle.token_bits.specs.declared.tokens.Field.{Field}
use Rattle.token_bits.specs.declared.tokens.FieldId.{FieldId}
use Rattle.token_bits.specs.declared.tokens.Tokens.{Tokens}
use Rattle.token_bits.specs.Tokens.{byte_count, bits_of, token, token_len, value_at}

pub token_within : (class : Class) (bytes : List ℕ) (i n : ℕ) → token class bytes i ≡ Some n → i + byte_count class ≤ length bytes
token_within class bytes i n e = leb-true (i + byte_count class) (length bytes) (cond_some (leb (i + byte_count class) (length bytes)) _ n e).0

in_class : (o : Option Class) (bytes : List ℕ) (i v : ℕ) (f : ℕ → ℕ) → option_and_then (λ (class : Class). option_map f (token class bytes i)) o ≡ Some v → i + option_map_or byte_count o 0 ≤ length bytes
in_class None bytes i v f e = absurd (cc)
in_class (Some class) bytes i v f e = option_and_then_some (λ (n : ℕ). Some (f n)) (token class bytes i) v e (λ n is at. token_within class bytes i n is)

in_field : (tokens : Tokens) (o : Option Field) (bytes : List ℕ) (i v : ℕ)
    → option_and_then (λ (field : Field). option_and_then (λ (class : Class). option_map (bits_of field.lo field.hi) (token class bytes i)) (slice_get tokens.classes field.class.0)) o ≡ Some v
    → i + option_map_or byte_count (option_and_then (λ (field : Field). slice_get tokens.classes field.class.0) o) 0 ≤ length bytes
in_field tokens None bytes i v e = absurd (cc)
in_field tokens (Some field) bytes i v e = in_class (slice_get tokens.classes field.class.0) bytes i v (bits_of field.lo field.hi) e

pub value_at_within : (tokens : Tokens) (f : FieldId) (bytes : List ℕ) (i v : ℕ) → value_at tokens f bytes i ≡ Some v → i + token_len tokens f ≤ length bytes
value_at_within tokens f bytes i v e = in_field tokens (slice_get tokens.fields f.0) bytes i v e
