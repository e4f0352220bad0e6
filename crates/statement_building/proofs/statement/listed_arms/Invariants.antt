use Rattle.std.proofs.Common.{◌≡◌, ℕ, ◌+◌, ◌≤◌, List, map, take, drop, Option, All}
use Rattle.match_meaning.specs.Matchable.{IsMatchableArm}
use Rattle.tree_meaning.specs.Scopes.{declared_in}
use Rattle.statement_building.specs.Conditions.{arms_unmet, arm_unmet, tree_weight}
use Rattle.statement_building.specs.Statements.{arm_of}
use Rattle.statement_building.proofs.statement.listed_arms.Given as goal

abbrev pub invariant-loop-i : goal.invariant-loop-i
invariant-loop-i l = record {
  light : l.before ≤ 16384;
  made : l.arms ≡ map (arm_of l.spec (declared_in l.scope)) (take l.i l.trees);
  matchable : All (IsMatchableArm l.spec) l.arms;
  met : (skip : Option (List ℕ))
      → arms_unmet (arm_unmet l.spec (declared_in l.scope)) (tree_weight l.spec (declared_in l.scope)) 1 0 l.trees skip
      ≡ arms_unmet (arm_unmet l.spec (declared_in l.scope)) (tree_weight l.spec (declared_in l.scope)) (l.i + 1) l.before (drop l.i l.trees) skip;
}
