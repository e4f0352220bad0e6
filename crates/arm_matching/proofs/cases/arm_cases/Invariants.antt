use Rattle.std.proofs.Common.{take}
use Rattle.arm_matching.specs.Matcher.{AreCasesOfArms}
use Rattle.arm_matching.proofs.cases.arm_cases.Given as goal

abbrev pub invariant-loop-k : goal.invariant-loop-k
invariant-loop-k l = AreCasesOfArms l.spec (take l.k l.arms) l.all.arms l.all.cases
