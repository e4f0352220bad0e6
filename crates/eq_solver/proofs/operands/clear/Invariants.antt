use Rattle.std.proofs.Common.{ℕ, ◌≡◌, ◌<◌, pos}
use Rattle.eq_solver.specs.Sums.{at}
use Rattle.eq_solver.proofs.operands.clear.Given as goal

abbrev pub invariant-loop-operand : goal.invariant-loop-operand
invariant-loop-operand l = (k : ℕ) → k < l.operand → at l.out k ≡ pos 0
