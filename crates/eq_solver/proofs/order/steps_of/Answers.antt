use Rattle.std.proofs.Common.{◌∙◌, ap, length, length-set, true}
use Rattle.eq_solver.specs.Solving as spec
use Rattle.eq_solver.proofs.Rounds.{plan_more, length_closed}
use Rattle.eq_solver.proofs.order.steps_of.Goals as goal

pub loop-round-preserved : goal.loop-round-preserved
loop-round-preserved c =
    let p = c.in_ok-push.ensures.ok in
    let t = c.set.ensures in
    let l = c.close.ensures in
    let q = c.in-Some.ensures.is in
    let a = c.as_slice.ensures in
    let b = c.as_slice-in-loop-round.ensures in
    record {
      left = ap length l ∙ length_closed c.loop-round.left c.in-Some.step.work ∙ c.loop-round.invariant.left;
      taken = ap length t ∙ length-set c.loop-round.taken c.in-Some.step.equation true ∙ c.loop-round.invariant.taken;
      plan = plan_more _ c.loop-round._round _ c.args.equations.now c.loop-round.taken c.loop-round.left _ _ c.loop-round.steps _ c.in-Some.step c.loop-round-test.true c.loop-round.invariant.plan
          (q ∙ ap (λ z. spec.next_step c.args.equations.now z c.as_slice-in-loop-round.result.now) a ∙ ap (λ z. spec.next_step c.args.equations.now c.loop-round.taken z) b) t l p;
    }
