use Rattle.std.proofs.Common.{length, replicate, false}
use Rattle.eq_solver.proofs.Orders.{planned}
use Rattle.eq_solver.proofs.Converse.{determined, no_plan}
use Rattle.eq_solver.proofs.order.solving_steps.Goals as goal

pub returns-in-Ok-clause-plan : goal.returns-in-Ok-clause-plan
returns-in-Ok-clause-plan c halves = planned halves (length c.args.equations.now) c.args.equations.now (replicate (length c.args.equations.now) false) c.args.hidden.now c.in-Ok.steps c.requires.good c.in-Ok.ensures.steps

pub returns-in-Ok-clause-determined : goal.returns-in-Ok-clause-determined
returns-in-Ok-clause-determined c = determined (length c.args.equations.now) c.args.equations.now (replicate (length c.args.equations.now) false) c.args.hidden.now c.in-Ok.steps c.in-Ok.ensures.steps

pub returns-in-Err-clause-undetermined : goal.returns-in-Err-clause-undetermined
returns-in-Err-clause-undetermined c e d = no_plan (length c.args.equations.now) c.args.equations.now (replicate (length c.args.equations.now) false) c.args.hidden.now (c.in-Err.ensures.fault e) d
