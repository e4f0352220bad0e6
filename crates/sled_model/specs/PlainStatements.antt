-- Statements whose arms name no constructor.
use Rattle.std.specs.Prelude.{ℕ, ◌≤◌, List, All, IfSome}
use Rattle.sled_model.specs.declared.raw.Match.{Match}
use Rattle.sled_model.specs.declared.spec.Spec.{Spec}
use Rattle.sled_model.specs.declared.statement.Arm.{Arm}
use Rattle.sled_model.specs.declared.statement.Statement.{Statement}
use Rattle.token_bits.specs.Tokens.{AreTokens}
use Rattle.sled_model.specs.Leaves.{AllLeaves, NamesNoConstructor}
use Rattle.sled_model.specs.Measures.{pattern_len}
use Rattle.sled_model.specs.Results.{arm_results}

-- so many bytes may be taken at one place
abbrev pub IsMatchLength : ℕ → Type 0
IsMatchLength n = (1 ≤ n) × (n ≤ 32)

-- whatever the bytes are, each result of the arm takes some of them, and not too many
abbrev pub IsBoundedArm : Spec → Arm → Type 0
IsBoundedArm spec arm = (bytes : List ℕ) → All (λ (m : Match). IsMatchLength m.len) (arm_results spec arm bytes 0)

-- the arm takes some bytes at a place, and not too many, and its pattern names no constructor
pub record IsPlainArm (spec : Spec) (arm : Arm) : Type 0 where
  pub bounded : IsBoundedArm spec arm
  pub plain : AllLeaves NamesNoConstructor arm.pattern
  pub fits : pattern_len spec arm.pattern ≤ 32

pub record IsPlainStatement (spec : Spec) (statement : Statement) : Type 0 where
  pub tokens : AreTokens spec.tokens
  pub arms : All (IsPlainArm spec) statement.arms
  pub skip : IfSome statement.skip IsMatchLength
