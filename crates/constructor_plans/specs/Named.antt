-- What is asked of declared names besides, so that a constructor's equations are about its fields.
use Rattle.std.specs.Prelude.{ℕ, ◌≡◌, List, [], Some, All}
use Rattle.token_bits.specs.declared.tokens.FieldId.{FieldId}
use Rattle.sled_model.specs.SolvingOrder.{bare_fields}
use Rattle.tree_meaning.specs.declared.scope.Meaning.{Meaning}
use Rattle.tree_meaning.specs.declared.scope.Meaning.TheVariants as meaning
use Rattle.tree_meaning.specs.Scopes.{Declared, meaning_of}

-- each field has one name
abbrev pub FieldsAreNamed : Declared → Type 0
FieldsAreNamed declared = (v w : List ℕ) (f : FieldId) → meaning_of declared v ≡ Some (meaning.Field f) → meaning_of declared w ≡ Some (meaning.Field f) → v ≡ w

-- the name stands for no pattern in which a field stands bare
abbrev pub BindsNothing : Meaning → Type 0
BindsNothing (meaning.Pattern p) = bare_fields p ≡ []
BindsNothing (meaning.Group ps) = All (λ p. bare_fields p ≡ []) ps
BindsNothing _ = Unit {0}

-- in no declared pattern does a field stand bare
abbrev pub PatternsBindNothing : Declared → Type 0
PatternsBindNothing declared = All BindsNothing declared.meanings
