use Rattle.std.proofs.Common.{◌≡◌, drop}
use Rattle.eq_solver.specs.Solving.{next_open_equation}
use Rattle.eq_solver.proofs.order.next.Given as goal

abbrev pub invariant-loop-number : goal.invariant-loop-number
invariant-loop-number l = next_open_equation l.taken l.left l.number (drop l.number l.equations) ≡ next_open_equation l.taken l.left 0 l.equations
