use Rattle.std.proofs.Common.{ℕ, ◌<◌}
use Rattle.eq_solver.specs.Values.{IsFound}
use Rattle.eq_solver.proofs.values.slice_below.Given as goal

abbrev pub invariant-loop-number : goal.invariant-loop-number
invariant-loop-number l = (i : ℕ) → i < l.number → IsFound l.targets l.operand l.top i → ⊥
