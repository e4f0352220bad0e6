use Rattle.std.proofs.Common.{◌≡◌, true, Some, None, arith}
use Rattle.constructor_plans.proofs.PlanLemmas.{more_met, more_partial, at_end_partial, at_end_met}
use Rattle.constructor_plans.proofs.plans.unmet_plans.Goals as goal
use Rattle.constructor_plans.proofs.plans.unmet_plans.Goals.{in-None, in-Some-eq13}

pub loop-constructor-preserved : goal.loop-constructor-preserved
loop-constructor-preserved c =
    elim c.match-branch-2.branch [
      | in-None w ↦
          let none : c.in_ok-unmet_plan.field-0 ≡ None = cc in
          let same : c.match-branch-2.partial ≡ c.loop-constructor.partial = cc in
          more_met c.args.spec.now.tokens c.args.constructors.now c.loop-constructor.constructor-index c.loop-constructor.partial c.match-branch-2.partial c.constructor-item.result
          c.in_ok-unmet_plan.field-0 (omega arith) c.constructor-item.is c.loop-constructor.invariant c.in_ok-unmet_plan.ensures none same
      | in-Some-eq13 w ↦
          let some : c.in_ok-unmet_plan.field-0 ≡ Some 13 = cc in
          let same : c.match-branch-2.partial ≡ true = cc in
          more_partial c.args.spec.now.tokens c.args.constructors.now c.loop-constructor.constructor-index c.loop-constructor.partial c.match-branch-2.partial c.constructor-item.result
          c.in_ok-unmet_plan.field-0 (omega arith) c.constructor-item.is c.loop-constructor.invariant c.in_ok-unmet_plan.ensures some same
    ]

pub returns-then-partial : goal.returns-then-partial
returns-then-partial c =
    at_end_partial c.args.spec.now.tokens c.args.constructors.now c.loop-constructor.constructor-index c.loop-constructor.partial (omega arith) c.loop-constructor.invariant c.if-partial.true

pub returns-else-partial : goal.returns-else-partial
returns-else-partial c =
    at_end_met c.args.spec.now.tokens c.args.constructors.now c.loop-constructor.constructor-index c.loop-constructor.partial (omega arith) c.loop-constructor.invariant c.if-partial.false
