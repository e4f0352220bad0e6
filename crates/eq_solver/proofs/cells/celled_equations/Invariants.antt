use Rattle.std.proofs.Common.{◌≡◌, map, take}
use Rattle.eq_solver.specs.Cells.{celled}
use Rattle.eq_solver.proofs.cells.celled_equations.Given as goal

abbrev pub invariant-loop-equation : goal.invariant-loop-equation
invariant-loop-equation l = l.found ≡ map (celled l.fields) (take l.equation-index l.equations)
