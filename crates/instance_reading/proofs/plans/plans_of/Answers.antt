use Rattle.std.proofs.Common.{◌≡◌, ◌<◌, length, get_or, subst}
use Rattle.instance_reading.specs.Plans.{IsBodyPlan}
use Rattle.instance_reading.proofs.Lookups.{zip_more}
use Rattle.instance_reading.proofs.plans.plans_of.Goals as goal

pub loop-constructor-preserved : goal.loop-constructor-preserved
loop-constructor-preserved c =
    let cs = c.args.spec.now.constructors in let i = c.loop-constructor.constructor-index in let x = c.constructor-item.result in let held = c.as_slice-constructor-items in
    zip_more (IsBodyPlan c.args.spec.now.tokens) cs i x c.loop-constructor.each c.push.new.self c.in_ok-plan.plan
    (subst (λ xs. i < length xs) held.ensures c.loop-constructor-test.true) (subst (λ xs. x ≡ get_or xs i x) held.ensures c.constructor-item.is)
    c.loop-constructor.invariant c.in_ok-plan.ensures c.in_ok-push.ensures.ok
