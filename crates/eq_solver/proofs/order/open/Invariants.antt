use Rattle.std.proofs.Common.{◌≡◌, drop, length}
use Rattle.eq_solver.specs.Solving.{open_from, open_of, IsOpenOf}
use Rattle.eq_solver.proofs.order.open.Given as goal

abbrev pub invariant-loop-term : goal.invariant-loop-term
invariant-loop-term l = record {
  value : open_from l.left l.found (drop l.term-index l.terms) ≡ open_of l.left l.terms;
  within : IsOpenOf (length l.left) l.found;
}
