-- What refusals say.
use Rattle.std.specs.Prelude.{◌≡◌, ℕ, Option, Some}
use Rattle.sled_model.specs.declared.pattern.Pattern.{Pattern}
use Rattle.sled_model.specs.declared.spec.Spec.{Spec}
use Rattle.sled_model.specs.declared.statement.Arm.{Arm}
use Rattle.sled_model.specs.Leaves.{AllLeaves}
use Rattle.sled_model.specs.Shapes.{spec_shapes, shapes, conjunctions_agree, lengths_within}
use Rattle.sled_model.specs.Measures.{pattern_len}
use Rattle.statement_building.specs.declared.fault.ArmFault.{ArmFault}
use Rattle.statement_building.specs.declared.fault.ArmFault.TheVariants as arm
use Rattle.statement_building.specs.declared.fault.StatementFault.{StatementFault}
use Rattle.statement_building.specs.declared.fault.StatementFault.TheVariants as statement

-- the refusal names the condition that is the first unmet
abbrev pub IsUnmetAs : ArmFault → Option ℕ → Type 0
IsUnmetAs (arm.Unmet condition) first = first ≡ Some condition
IsUnmetAs arm.NoMemory first = Unit {0}

-- the refusal names the first arm that does not meet a condition, and the condition
abbrev pub IsRefusedAt : StatementFault → Option (ℕ × ℕ) → Type 0
IsRefusedAt (statement.Unmet number condition) first = first ≡ Some (number, condition)
IsRefusedAt statement.NoMemory first = Unit {0}
