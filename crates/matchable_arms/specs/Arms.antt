-- Patterns of arms whose results have lengths in range.
use Rattle.std.specs.Prelude.{ℕ, ◌≡◌, ◌≤◌, true, length, All}
use Rattle.sled_model.specs.declared.pattern.Pattern.{Pattern}
use Rattle.sled_model.specs.declared.spec.Spec.{Spec}
use Rattle.sled_model.specs.declared.statement.Arm.{Arm}
use Rattle.sled_model.specs.Leaves.{AllLeaves}
use Rattle.sled_model.specs.Measures.{pattern_len}
use Rattle.sled_model.specs.Shapes.{spec_shapes, shapes, conjunctions_agree, lengths_within}
use Rattle.sled_model.specs.Specs.{IsSpec}
use Rattle.sled_model.proofs.ShapeSpecs.{AppliesRightly}
use Rattle.asm_text.specs.Actions.{NamesBelow}
use Rattle.match_meaning.specs.Matchable.{IsMatchableArm}
use Rattle.constructor_readings.specs.Accepted.{HasReadings}
use Rattle.matchable_arms.specs.Once.{OperandsStandOnce}

-- its conjunctions agree, each alternative has 1 to 32 bytes, and the longest no more; each inner argument of an application in it is an
-- application
pub record HasMatchLengths (spec : Spec) (p : Pattern) : Type 0 where
  pub applies : AllLeaves AppliesRightly p
  pub agree : conjunctions_agree (spec_shapes spec) p ≡ true
  pub lengths : lengths_within 1 32 spec.tokens (shapes (spec_shapes spec) p) ≡ true
  pub fits : pattern_len spec p ≤ 32

-- the same of the pattern of an arm
abbrev pub AppliesInside : Arm → Type 0
AppliesInside arm = AllLeaves AppliesRightly arm.pattern

abbrev pub HasLengths : Spec → Arm → Type 0
HasLengths spec arm = HasMatchLengths spec arm.pattern

-- an arm with such a pattern, whose action names its names alone, can be matched
abbrev pub ArmsAreMatchable : Type 0
ArmsAreMatchable =
    (spec : Spec) (arm : Arm) → IsSpec spec → HasReadings spec → OperandsStandOnce spec → HasMatchLengths spec arm.pattern
    → All (NamesBelow (length arm.names)) arm.action → IsMatchableArm spec arm
