use Rattle.std.proofs.Common.{◌≡◌, ◌++◌, drop}
use Rattle.eq_solver.specs.Isolated.{others}
use Rattle.eq_solver.proofs.isolate.others.Given as goal

abbrev pub invariant-loop-term : goal.invariant-loop-term
invariant-loop-term l = l.found ++ others l.turn (drop l.term-index l.terms) ≡ others l.turn l.terms
