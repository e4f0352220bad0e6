use Rattle.eq_solver.proofs.WorkedOperands.{twice_field_linear}
use Rattle.eq_solver.proofs.operand_tests.twice_the_field.Goals as goal

pub plan_of-requires-clause-linear : goal.plan_of-requires-clause-linear
plan_of-requires-clause-linear c = twice_field_linear c.in_ok-spec.spec.tokens c.in_ok-constructor.constructor c.in_ok-constructor.ensures c.in_ok-spec.ensures.low
