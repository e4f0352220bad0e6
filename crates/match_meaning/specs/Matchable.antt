-- Statements that can be matched.
use Rattle.std.specs.Prelude.{ℕ, ◌≤◌, length, All, IfSome}
use Rattle.asm_text.specs.Actions.{NamesBelow}
use Rattle.sled_model.specs.declared.spec.Spec.{Spec}
use Rattle.sled_model.specs.declared.statement.Arm.{Arm}
use Rattle.sled_model.specs.declared.statement.Statement.{Statement}
use Rattle.sled_model.specs.Measures.{pattern_len}
use Rattle.sled_model.specs.PlainStatements.{IsBoundedArm, IsMatchLength}
use Rattle.match_meaning.specs.Readable.{IsReadableSpec}

-- whatever the bytes are, each result of the arm takes 1 to 32 of them, no alternative is longer, and the action names the arm's names alone
pub record IsMatchableArm (spec : Spec) (arm : Arm) : Type 0 where
  pub bounded : IsBoundedArm spec arm
  pub fits : pattern_len spec arm.pattern ≤ 32
  pub action : All (NamesBelow (length arm.names)) arm.action

-- the instances of the description can be read, each arm can be matched, and a skip takes 1 to 32 bytes
pub record IsMatchable (spec : Spec) (statement : Statement) : Type 0 where
  pub readable : IsReadableSpec spec
  pub arms : All (IsMatchableArm spec) statement.arms
  pub skip : IfSome statement.skip IsMatchLength
