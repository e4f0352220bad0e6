-- The numbers that a field is compared with.
use Rattle.std.specs.Prelude.{ℕ, ◌+◌, ◌-◌, ◌^◌, Bool, true, false, nat_lt, nat_le, ◌&&◌, List, [], ◌∷◌, map, slice_get}
use Rattle.std.specs.List.{list_all, range_with_len}
use Rattle.std.specs.Option.{option_map_or}
use Rattle.sled_base.specs.declared.limits.TheConstants.{MAX_NUMBER}
use Rattle.sled_lexer.specs.Spelled.{number_value}
use Rattle.sled_parser.specs.declared.tree.ValueTree.{ValueTree}
use Rattle.sled_parser.specs.declared.tree.ValueTree.TheVariants.{One, Range, Listed}
use Rattle.token_bits.specs.declared.tokens.Field.{Field}
use Rattle.token_bits.specs.declared.tokens.FieldId.{FieldId}
use Rattle.token_bits.specs.declared.tokens.Tokens.{Tokens}

-- the numbers, in order: `{a to b}` has none where a is above b
abbrev pub value_numbers : ValueTree → List ℕ
value_numbers (One n) = number_value n ∷ []
value_numbers (Range a b) = range_with_len (number_value a) (number_value b + 1 - number_value a)
value_numbers (Listed ns) = map number_value ns

-- it is a number, and no generating expression
abbrev pub is_one_number : ValueTree → Bool
is_one_number (One n) = true
is_one_number _ = false

-- how many values a field has
abbrev pub value_count : Tokens → FieldId → ℕ
value_count tokens f = option_map_or (λ (field : Field). 2 ^ (field.hi - field.lo + 1)) (slice_get tokens.fields f.0) 0

-- each of the numbers is one of the field's values
abbrev pub all_fit : Tokens → FieldId → ValueTree → Bool
all_fit tokens f value = list_all (λ n. nat_lt n (value_count tokens f)) (value_numbers value)

-- the Number writes at most 4,294,967,295, as each in a text does
abbrev pub is_in_range : List ℕ → Bool
is_in_range number = nat_le (number_value number) MAX_NUMBER

-- each of the Numbers does
abbrev pub has_numbers_in_range : ValueTree → Bool
has_numbers_in_range (One n) = is_in_range n
has_numbers_in_range (Range a b) = is_in_range a && is_in_range b
has_numbers_in_range (Listed ns) = list_all is_in_range ns
