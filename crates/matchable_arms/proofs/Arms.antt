-- An arm whose pattern has lengths in range can be matched.
use Rattle.std.proofs.Common.{◌≡◌, ℕ, List, [], length, Contains, refl}
use Rattle.std.specs.Prelude.{All}
use Rattle.std.proofs.lemmas.List.Elements.{All-weaker, All-contains_itself}
use Rattle.sled_model.specs.declared.raw.Match.{Match}
use Rattle.sled_model.specs.declared.spec.Spec.{Spec}
use Rattle.sled_model.specs.declared.statement.Arm.{Arm}
use Rattle.sled_model.specs.PlainStatements.{IsBoundedArm, IsMatchLength}
use Rattle.sled_model.specs.Results.{arm_context, arm_results}
use Rattle.sled_model.specs.Shapes.{spec_shapes}
use Rattle.sled_model.specs.Specs.{IsSpec}
use Rattle.sled_model.proofs.ShapeResults.{results_within}
use Rattle.sled_model.proofs.ShapeSpecs.{arm_shaped}
use Rattle.asm_text.specs.Actions.{NamesBelow}
use Rattle.match_meaning.specs.Matchable.{IsMatchableArm}
use Rattle.constructor_readings.specs.Accepted.{HasReadings}
use Rattle.matchable_arms.specs.Arms.{HasMatchLengths}
use Rattle.matchable_arms.specs.Once.{OperandsStandOnce}
use Rattle.matchable_arms.proofs.Fixed.{bodies_choose}

module _ (spec : Spec) (arm : Arm) (sound : IsSpec spec) (readings : HasReadings spec) (once : OperandsStandOnce spec) (lengths : HasMatchLengths spec arm.pattern) where
  bounded : IsBoundedArm spec arm
  bounded = λ bytes.
      let found : List Match = arm_results spec arm bytes 0 in
      let choose = bodies_choose spec.tokens (length spec.type_names) spec.constructors sound.constructors readings.constructors once in
      let shaped = arm_shaped spec readings.agree choose arm.pattern lengths.applies lengths.agree in
      All-weaker (Contains found) (λ m. IsMatchLength m.len)
      (λ m h. results_within (arm_context spec) (spec_shapes spec) arm.pattern shaped 1 32 lengths.lengths bytes 0 m h)
      found (All-contains_itself found)

  pub arm_matchable : All (NamesBelow (length arm.names)) arm.action → IsMatchableArm spec arm
  arm_matchable action = record { bounded = bounded; fits = lengths.fits; action = action }
