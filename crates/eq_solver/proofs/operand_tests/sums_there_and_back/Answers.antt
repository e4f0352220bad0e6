use Rattle.std.proofs.Common.{sym, subst, pos, ◌^◌, ◌-ℤ◌, w64}
use Rattle.std.proofs.lemmas.Int.{to_z-of_z}
use Rattle.sled_model.specs.Equations.{IsBetween}
use Rattle.eq_solver.proofs.Linears.{sound_of}
use Rattle.eq_solver.proofs.WorkedOperands.{sums_with, sums_cells}
use Rattle.eq_solver.proofs.Worked.{sums_linear, sums_suit, sums_size}
use Rattle.eq_solver.proofs.operand_tests.sums_there_and_back.Goals as goal

pub plan_of-requires-clause-linear : goal.plan_of-requires-clause-linear
plan_of-requires-clause-linear c = sums_linear c.in_ok-spec.spec.tokens c.in_ok-constructor.constructor c.in_ok-constructor.ensures c.in_ok-spec.ensures.low c.in_ok-spec.ensures.high

pub fields-requires-clause-sound : goal.fields-requires-clause-sound
fields-requires-clause-sound c = sound_of c.in_ok-spec.spec.tokens c.in_ok-constructor.constructor c.in_ok-plan.plan c.in_ok-plan.ensures.plan

pub fields-requires-clause-suits : goal.fields-requires-clause-suits
fields-requires-clause-suits c =
    sums_suit c.in_ok-spec.spec.tokens c.in_ok-constructor.constructor c.in_ok-plan.plan _ _ _ c.in_ok-constructor.ensures c.in_ok-plan.ensures.plan
    (subst (IsBetween (pos 0 -ℤ pos (2 ^ 34)) (pos (2 ^ 34))) (sym (to_z-of_z w64 c.args.a c.ranges.a)) c.requires.a)
    (subst (IsBetween (pos 0 -ℤ pos (2 ^ 34)) (pos (2 ^ 34))) (sym (to_z-of_z w64 c.args.b c.ranges.b)) c.requires.b)
    (subst (IsBetween (pos 0 -ℤ pos (2 ^ 34)) (pos (2 ^ 34))) (sym (to_z-of_z w64 c.args.c c.ranges.c)) c.requires.c)

pub fields-requires-clause-out : goal.fields-requires-clause-out
fields-requires-clause-out c = sums_size c.in_ok-spec.spec.tokens c.in_ok-constructor.constructor c.in_ok-plan.plan c.in_ok-constructor.ensures c.in_ok-plan.ensures.plan

pub operands-requires-clause-plan : goal.operands-requires-clause-plan
operands-requires-clause-plan c = sums_with c.in_ok-spec.spec.tokens c.in_ok-constructor.constructor c.in_ok-plan.plan c.in_ok-constructor.ensures c.in_ok-plan.ensures.plan

pub operands-requires-clause-fields : goal.operands-requires-clause-fields
operands-requires-clause-fields c =
    sums_cells c.in_ok-spec.spec.tokens c.in_ok-constructor.constructor c.in_ok-plan.plan _ c.in_ok-constructor.ensures c.in_ok-plan.ensures.plan c.fields.auto.out c.in-Ok.ensures.solved.fit.fields
