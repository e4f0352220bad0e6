-- Descriptions in which no operand stands twice in a body.
use Rattle.std.specs.Prelude.{ℕ, ◌≡◌, All, AllPairs}
use Rattle.sled_model.specs.declared.constructor.Constructor.{Constructor}
use Rattle.sled_model.specs.declared.spec.Spec.{Spec}
use Rattle.sled_model.specs.Results.{operands_in}
use Rattle.tree_meaning.specs.Scopes.{Declared}
use Rattle.constructor_meaning.specs.Constructing.{Constructing}
use Rattle.constructor_meaning.specs.Sound.{IsSoundScope}
use Rattle.constructor_building.specs.Building.{built_spec}
use Rattle.constructor_plans.specs.Named.{PatternsBindNothing}
use Rattle.constructor_readings.specs.Accepted.{IsAccepted}

-- each operand stands in the body once at most
abbrev pub HasOperandsOnce : Constructor → Type 0
HasOperandsOnce c = AllPairs (λ i j. i ≡ j → ⊥) (operands_in c.body)

-- in each body
abbrev pub OperandsStandOnce : Spec → Type 0
OperandsStandOnce spec = All HasOperandsOnce spec.constructors

-- so it is still with the constructors of an accepted declaration
abbrev pub AcceptedKeepOperandsOnce : Type 0
AcceptedKeepOperandsOnce =
    (spec : Spec) (declared : Declared) (c : Constructing) → IsSoundScope spec declared → PatternsBindNothing declared → IsAccepted spec declared c
    → OperandsStandOnce spec → OperandsStandOnce (built_spec spec declared c)
