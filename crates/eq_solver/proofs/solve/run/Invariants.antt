use Rattle.eq_solver.proofs.Runs.{Running}
use Rattle.eq_solver.proofs.solve.run.Given as goal

abbrev pub invariant-loop-made : goal.invariant-loop-made
invariant-loop-made l = Running l.halves l.operands l.labels l.hidden l.equations l.steps l.initial.out l.made-index l.out
