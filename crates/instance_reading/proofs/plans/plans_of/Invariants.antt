use Rattle.std.proofs.Common.{take}
use Rattle.std.specs.List.{AllZip}
use Rattle.instance_reading.specs.Plans.{IsBodyPlan}
use Rattle.instance_reading.proofs.plans.plans_of.Given as goal

abbrev pub invariant-loop-constructor : goal.invariant-loop-constructor
invariant-loop-constructor l = AllZip (IsBodyPlan l.spec.tokens) (take l.constructor-index l.spec.constructors) l.each
