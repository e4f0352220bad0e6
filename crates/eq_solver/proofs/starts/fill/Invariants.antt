use Rattle.std.proofs.Common.{ℕ, ◌<◌}
use Rattle.eq_solver.specs.Sums.{at}
use Rattle.eq_solver.specs.Plans.{source_at}
use Rattle.eq_solver.specs.Starts.{IsStart}
use Rattle.eq_solver.proofs.starts.fill.Given as goal

abbrev pub invariant-loop-cell : goal.invariant-loop-cell
invariant-loop-cell l = (f : ℕ) → f < l.cell → IsStart (at l.halves f) (at l.operands) (source_at l.sources f) (at l.out f)
