-- A step through the text of an action.
use Rattle.std.specs.Prelude.{◌≡◌, ℕ, ◌<◌, List, [], length, Option, Some, None}
use Rattle.sled_model.specs.declared.statement.Piece.{Piece}
use Rattle.arm_actions.specs.declared.action.Step.{Step}
use Rattle.arm_actions.specs.declared.action.Step.TheVariants.{End, Wrong, Rest}
use Rattle.arm_actions.specs.Actions.{behind, outside}

-- what a step through the rest of the text adds to what was found
abbrev pub Steps : List (List ℕ) → List ℕ → List Piece → List Piece → Step → Type 0
Steps names rest old new End = behind old (outside names [] rest) ≡ Some new
Steps names rest old new Wrong = outside names [] rest ≡ None
Steps names rest old new (Rest later) = (behind old (outside names [] rest) ≡ behind new (outside names [] later.now)) × (length later.now < length rest)

-- the same behind an opening brace
abbrev pub StepsNamed : List (List ℕ) → Option (List Piece) → ℕ → List Piece → List Piece → Step → Type 0
StepsNamed names wanted limit old new End = ⊥
StepsNamed names wanted limit old new Wrong = wanted ≡ None
StepsNamed names wanted limit old new (Rest later) = (behind old wanted ≡ behind new (outside names [] later.now)) × (length later.now < limit)
