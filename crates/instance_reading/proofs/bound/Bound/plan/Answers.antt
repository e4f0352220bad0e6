use Rattle.instance_reading.proofs.Lookups.{plan_within, plan_at, read_is}
use Rattle.instance_reading.proofs.bound.Bound.plan.Goals as goal

pub bounds-as_slice-self : goal.bounds-as_slice-self
bounds-as_slice-self c = plan_within c.args.self.now c.requires c.as_slice.result.now c.as_slice.ensures

pub returns : goal.returns
returns c =
    let b = c.args.self.now in
    plan_at b c.requires c.index-as_slice-self.result
    (read_is b.plans.now.each c.as_slice.result.now b.constructor.0 c.index-as_slice-self.result c.as_slice.ensures (plan_within b c.requires c.as_slice.result.now c.as_slice.ensures) c.index-as_slice-self.is)
