use Rattle.eq_solver.proofs.Worked.{sum_linear}
use Rattle.eq_solver.proofs.tests.undetermined.Goals as goal

pub plan_of-plan-requires-clause-linear : goal.plan_of-plan-requires-clause-linear
plan_of-plan-requires-clause-linear g c = sum_linear c.in_ok-spec.spec.tokens c.in_ok-constructor.constructor c.in_ok-constructor.ensures c.in_ok-spec.ensures.low c.in_ok-spec.ensures.high
