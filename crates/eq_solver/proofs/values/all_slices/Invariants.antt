use Rattle.eq_solver.proofs.Chains.{AreSlicesSoFar}
use Rattle.eq_solver.proofs.values.all_slices.Given as goal

abbrev pub invariant-loop-operand : goal.invariant-loop-operand
invariant-loop-operand l = AreSlicesSoFar l.targets l.kinds l.slices l.operand
