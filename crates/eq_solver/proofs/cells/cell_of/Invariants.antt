use Rattle.std.proofs.Common.{◌≡◌, ◌+◌, drop}
use Rattle.eq_solver.specs.Cells as spec
use Rattle.eq_solver.proofs.cells.cell_of.Given as goal

abbrev pub invariant-loop-cell : goal.invariant-loop-cell
invariant-loop-cell l = l.cell + spec.cell_of (drop l.cell l.fields) l.field ≡ spec.cell_of l.fields l.field
