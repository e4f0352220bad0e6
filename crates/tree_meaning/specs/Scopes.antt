-- What names stand for.
use Rattle.std.specs.Prelude.{ℕ, List, Option, Some, None, slice_get, option_and_then}
use Rattle.std.specs.Option.{option_or}
use Rattle.token_bits.specs.declared.tokens.FieldId.{FieldId}
use Rattle.sled_model.specs.declared.constructor.TypeId.{TypeId}
use Rattle.tree_meaning.specs.declared.scope.Meaning.{Meaning}
use Rattle.tree_meaning.specs.declared.scope.Meaning.TheVariants as meaning
use Rattle.tree_meaning.specs.declared.scope.Scope.{Scope}
use Rattle.tree_meaning.specs.NameTables.{table_names}
use Rattle.tree_meaning.specs.Names.{position_of}

-- the names that were declared, each once and in the order of declaration, and what each stands for; and the same of the names that
-- stand only in the constructor's body at hand
pub record Declared : Type 0 where
  pub names : List (List ℕ)
  pub meanings : List Meaning
  pub local_names : List (List ℕ)
  pub local_meanings : List Meaning

-- the meaning at the place that the name has among the names
abbrev pub meaning_among : List (List ℕ) → List Meaning → List ℕ → Option Meaning
meaning_among names meanings name = option_and_then (slice_get meanings) (position_of names name)

-- what the name stands for: a local name hides a declared one
abbrev pub meaning_of : Declared → List ℕ → Option Meaning
meaning_of declared name = option_or (meaning_among declared.local_names declared.local_meanings name) (meaning_among declared.names declared.meanings name)

abbrev pub as_field : Meaning → Option FieldId
as_field (meaning.Field f) = Some f
as_field _ = None

-- the field of that name
abbrev pub field_named : Declared → List ℕ → Option FieldId
field_named declared name = option_and_then as_field (meaning_of declared name)

abbrev pub as_type : Meaning → Option TypeId
as_type (meaning.Type t) = Some t
as_type _ = None

-- the type of that name
abbrev pub type_named : Declared → List ℕ → Option TypeId
type_named declared name = option_and_then as_type (meaning_of declared name)

-- what a scope holds
abbrev pub declared_in : Scope → Declared
declared_in scope = record { names = table_names scope.names; meanings = scope.meanings; local_names = table_names scope.local_names; local_meanings = scope.local_meanings }
