-- The plans by which instances are read.
use Rattle.std.specs.Prelude.{◌≡◌}
use Rattle.std.specs.List.{AllZip}
use Rattle.token_bits.specs.declared.tokens.Tokens.{Tokens}
use Rattle.sled_model.specs.declared.constructor.Constructor.{Constructor}
use Rattle.sled_model.specs.declared.spec.Spec.{Spec}
use Rattle.sled_model.specs.Linear.{labels_in}
use Rattle.sled_model.specs.Results.{operands_in}
use Rattle.eq_solver.specs.Cells.{IsPlanOf}
use Rattle.instance_reading.specs.declared.plans.BodyPlan.{BodyPlan}
use Rattle.instance_reading.specs.declared.plans.Plans.{Plans}

-- the plan is one of the constructor's equations, with the labels of its body and the operands that stand there, in order
pub record IsBodyPlan (tokens : Tokens) (c : Constructor) (p : BodyPlan) : Type 0 where
  pub plan : IsPlanOf tokens c p.plan
  pub labels : p.labels ≡ labels_in c.body
  pub standing : p.standing ≡ operands_in c.body

-- one plan for each constructor, in order
abbrev pub ArePlansOf : Spec → Plans → Type 0
ArePlansOf spec plans = AllZip (IsBodyPlan spec.tokens) spec.constructors plans.each
