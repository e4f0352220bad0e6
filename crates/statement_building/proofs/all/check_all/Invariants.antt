use Rattle.std.proofs.Common.{◌≡◌, ℕ, ◌+◌, ◌≤◌, List, take, drop, Option, All}
use Rattle.matchable_arms.specs.Arms.{HasLengths}
use Rattle.statement_building.specs.Conditions.{arms_unmet, made_unmet, arm_weight}
use Rattle.statement_building.proofs.all.check_all.Given as goal

abbrev pub invariant-loop-i : goal.invariant-loop-i
invariant-loop-i l = record {
  light : l.before ≤ 16384;
  lengths : All (HasLengths l.spec) (take l.i l.arms);
  met : (skip : Option (List ℕ))
      → arms_unmet (made_unmet l.spec) (arm_weight l.spec) 1 0 l.arms skip ≡ arms_unmet (made_unmet l.spec) (arm_weight l.spec) (l.i + 1) l.before (drop l.i l.arms) skip;
}
