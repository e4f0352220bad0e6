use Rattle.std.proofs.Common.{◌≡◌, length, ap, subst, arith}
use Rattle.eq_solver.specs.Operands.{IsPlanWith}
use Rattle.instance_reading.proofs.plans.BodyPlan.numbers.Goals as goal

pub operands-requires-clause-plan : goal.operands-requires-clause-plan
operands-requires-clause-plan c =
    let held = ap length c.as_mut_slice.ensures.value in let made = c.in_ok-numbers.ensures.len in
    let many : c.args.operands ≡ length c.as_mut_slice.result.now = omega (arith, held, made) in
    subst (IsPlanWith c.args.self.now.plan (length c.args.labels.now)) many c.requires.plan
