use Rattle.std.proofs.Common.{◌≡◌, drop}
use Rattle.eq_solver.specs.Solving.{none_open}
use Rattle.eq_solver.proofs.order.is_closed.Given as goal

abbrev pub invariant-loop-open : goal.invariant-loop-open
invariant-loop-open l = none_open (drop l.open-index l.left) ≡ none_open l.left
