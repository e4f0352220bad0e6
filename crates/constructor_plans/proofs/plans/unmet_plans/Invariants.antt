use Rattle.constructor_plans.proofs.PlanLemmas.{ArePlansUpTo}
use Rattle.constructor_plans.proofs.plans.unmet_plans.Given as goal

abbrev pub invariant-loop-constructor : goal.invariant-loop-constructor
invariant-loop-constructor l = ArePlansUpTo l.spec.tokens l.constructors l.constructor-index l.partial
