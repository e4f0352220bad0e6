use Rattle.std.proofs.Common.{◌≡◌, map, take}
use Rattle.eq_solver.specs.Cells.{celled_value}
use Rattle.eq_solver.proofs.cells.celled_values.Given as goal

abbrev pub invariant-loop-number : goal.invariant-loop-number
invariant-loop-number l = l.found ≡ map (celled_value l.fields) (take l.number l.values)
