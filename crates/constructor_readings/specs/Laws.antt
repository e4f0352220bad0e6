-- What acceptance gives: the statements of the laws.
use Rattle.std.specs.Prelude.{ℕ, List, length, All}
use Rattle.token_bits.specs.declared.tokens.Tokens.{Tokens}
use Rattle.sled_model.specs.declared.spec.Spec.{Spec}
use Rattle.sled_model.specs.Specs.{IsSpec}
use Rattle.sled_model.proofs.LeafLemmas.{Grows}
use Rattle.tree_meaning.specs.Scopes.{Declared}
use Rattle.constructor_meaning.specs.Constructing.{Constructing}
use Rattle.constructor_meaning.specs.Sound.{IsSoundScope}
use Rattle.constructor_building.specs.Building.{constructors_of, built_spec}
use Rattle.constructor_plans.specs.Named.{FieldsAreNamed, PatternsBindNothing}
use Rattle.match_meaning.specs.Readable.{IsReadable, IsReadableSpec}
use Rattle.constructor_readings.specs.Accepted.{IsAccepted, TypesAreNamed, HasReadings}

-- each constructor that an accepted declaration makes can be read
abbrev pub AcceptedCanBeRead : Type 0
AcceptedCanBeRead =
    (spec : Spec) (declared : Declared) (c : Constructing) → IsSoundScope spec declared → FieldsAreNamed declared → PatternsBindNothing declared → IsAccepted spec declared c
    → All (IsReadable spec.tokens) (constructors_of spec declared c)

-- a description with readings has readings still with the constructors of an accepted declaration, and their type
abbrev pub AcceptedKeepReadings : Type 0
AcceptedKeepReadings =
    (spec : Spec) (declared : Declared) (c : Constructing) → IsSoundScope spec declared → FieldsAreNamed declared → TypesAreNamed declared → PatternsBindNothing declared
    → IsAccepted spec declared c → HasReadings spec → HasReadings (built_spec spec declared c)

-- and with more classes and fields
abbrev pub TokensKeepReadings : Type 0
TokensKeepReadings =
    (spec : Spec) (tokens : Tokens) (class_names field_names : List (List ℕ)) → IsSpec spec → Grows spec.tokens tokens (length spec.type_names) (length spec.type_names)
    → HasReadings spec → HasReadings (record spec { tokens = tokens; class_names = class_names; field_names = field_names })

-- in a description with readings each result of a constructor's body means one instance
abbrev pub ReadingsAreReadable : Type 0
ReadingsAreReadable = (spec : Spec) → IsSpec spec → HasReadings spec → IsReadableSpec spec
