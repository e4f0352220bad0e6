use Rattle.std.proofs.Common.{◌≡◌, ◌-◌, ◌++◌, length, replicate, false, option_map}
use Rattle.eq_solver.specs.Solving.{plan_from}
use Rattle.eq_solver.proofs.order.steps_of.Given as goal

abbrev pub invariant-loop-round : goal.invariant-loop-round
invariant-loop-round l = record {
  left : length l.left ≡ length l.hidden;
  taken : length l.taken ≡ length l.equations;
  plan : plan_from (length l.equations) l.equations (replicate (length l.equations) false) l.hidden
      ≡ option_map (λ rest. l.steps ++ rest) (plan_from (length l.equations - l._round) l.equations l.taken l.left);
}
