-- What holds of a description that lacks nothing so far.
use Rattle.std.specs.Prelude.{ℕ, ◌≡◌, ◌<◌, true, List, [], length, All}
use Rattle.sled_model.specs.declared.spec.Spec.{Spec}
use Rattle.sled_model.specs.Specs.{IsSpec, names_of}
use Rattle.tree_meaning.specs.declared.scope.Meaning.{Meaning}
use Rattle.tree_meaning.specs.declared.scope.Meaning.TheVariants as meaning
use Rattle.tree_meaning.specs.Names.{is_among, are_distinct}
use Rattle.tree_meaning.specs.Scopes.{Declared}
use Rattle.tree_meaning.specs.Sound.{IsSoundMeaning}

-- a type that the name stands for was declared
abbrev pub NamesKnownType : Spec → Meaning → Type 0
NamesKnownType spec (meaning.Type t) = t.0 < length spec.type_names
NamesKnownType spec _ = Unit {0}

-- the description is one that the language admits; its names are among those that were declared, each once, and each name stands for
-- something of it, outside of any constructor's body
pub record IsSoundScope (description : Spec) (declared : Declared) : Type 0 where
  pub spec : IsSpec description
  pub types : All (NamesKnownType description) declared.meanings
  pub local_names : declared.local_names ≡ []
  pub local_meanings : declared.local_meanings ≡ []
  pub meanings : length declared.meanings ≡ length declared.names
  pub distinct : are_distinct declared.names ≡ true
  pub within : All (λ n. is_among declared.names n ≡ true) (names_of description)
  pub sound : All (IsSoundMeaning description.tokens) declared.meanings
