use Rattle.eq_solver.proofs.WorkedOperands.{low_byte_linear}
use Rattle.eq_solver.proofs.operand_tests.low_byte_alone.Goals as goal

pub plan_of-requires-clause-linear : goal.plan_of-requires-clause-linear
plan_of-requires-clause-linear c = low_byte_linear c.in_ok-spec.spec.tokens c.in_ok-constructor.constructor c.in_ok-constructor.ensures c.in_ok-spec.ensures.low
