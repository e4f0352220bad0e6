-- Statements that are made ready to tell the places of an image.
use Rattle.std.specs.Prelude.{ℕ, ◌≡◌, List, ◌++◌, Some, slice_get}
use Rattle.sled_model.specs.declared.spec.Spec.{Spec}
use Rattle.sled_model.specs.declared.statement.Arm.{Arm}
use Rattle.sled_model.specs.declared.statement.Statement.{Statement}
use Rattle.asm_text.specs.Actions.{action_text}
use Rattle.match_meaning.specs.Taken.{ArmMatch, IsMatchAt}
use Rattle.instance_reading.specs.Plans.{ArePlansOf}
use Rattle.arm_matching.specs.Matcher.{IsReady}
use Rattle.disassembler.specs.declared.ready.Disassembler.{Disassembler}

-- the matcher is of this statement and can be asked, and the plans are the description's
pub record IsPrepared (d : Disassembler) : Type 0 where
  pub spec : d.matcher.spec.now ≡ d.spec.now
  pub statement : d.matcher.statement.now ≡ d.statement.now
  pub ready : IsReady d.matcher
  pub plans : ArePlansOf d.spec.now d.plans

-- the first arm with a result on the bytes takes so many of them, and the text of its action was appended
pub record IsArmTaken (spec : Spec) (statement : Statement) (place : ℕ) (bytes : List ℕ) (n : ℕ) (old new : List ℕ) : Type 0 where
  pub found : ArmMatch
  pub is : IsMatchAt spec statement place bytes (Some found)
  pub len : found.len ≡ n
  pub arm : Arm
  pub of : slice_get statement.arms found.arm ≡ Some arm
  pub text : new ≡ old ++ action_text spec arm found.values
