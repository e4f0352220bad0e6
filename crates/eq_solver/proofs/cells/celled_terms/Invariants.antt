use Rattle.std.proofs.Common.{◌≡◌, map, take}
use Rattle.eq_solver.specs.Cells.{celled_term}
use Rattle.eq_solver.proofs.cells.celled_terms.Given as goal

abbrev pub invariant-loop-term : goal.invariant-loop-term
invariant-loop-term l = l.found ≡ map (celled_term l.fields) (take l.term-index l.terms)
