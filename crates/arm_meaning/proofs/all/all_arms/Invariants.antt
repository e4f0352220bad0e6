use Rattle.std.proofs.Common.{◌≡◌, ◌++◌, drop}
use Rattle.arm_meaning.specs.All.{all_arms, all_arms_from}
use Rattle.arm_meaning.proofs.all.all_arms.Given as goal

abbrev pub invariant-loop-number : goal.invariant-loop-number
invariant-loop-number l = all_arms l.spec ≡ l.arms ++ all_arms_from l.number (drop l.number l.spec.constructors)
