use Rattle.eq_solver.proofs.Chains.{IsChainSoFar}
use Rattle.eq_solver.proofs.values.push_slices.Given as goal

abbrev pub invariant-loop-top : goal.invariant-loop-top
invariant-loop-top l = IsChainSoFar l.targets l.operand l.fn.slices l.slices l.top

abbrev pub decreases-loop-top : goal.decreases-loop-top
decreases-loop-top l = l.top
