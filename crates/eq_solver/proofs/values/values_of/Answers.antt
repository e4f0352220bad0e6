use Rattle.eq_solver.specs.declared.fault.PlanFault.TheVariants.{Partial}
use Rattle.eq_solver.proofs.Conditions.{targets_order, is_solved, not_held_once, not_given, ok_then, same_err}
use Rattle.eq_solver.proofs.values.values_of.Goals as goal

pub ordered-requires : goal.ordered-requires
ordered-requires c = record { orders = targets_order c.args.tokens.now c.as_slice.result.now c.in-Ok.values c.in-Ok.ensures.values }

pub returns-in-Ok-clause-solved : goal.returns-in-Ok-clause-solved
returns-in-Ok-clause-solved c =
    ok_then c.ordered.result (is_solved c.args.tokens.now c.args.constructor.now c.as_slice.result.now c.as_slice-in-Ok.result.now c.in-Ok.values c.as_slice.ensures c.as_slice-in-Ok.ensures c.in-Ok.ensures.values) c.ordered.ensures.held

pub returns-in-Ok-clause-partial : goal.returns-in-Ok-clause-partial
returns-in-Ok-clause-partial c = λ p s.
    not_held_once c.args.tokens.now c.args.constructor.now c.as_slice.result.now c.as_slice-in-Ok.result.now c.in-Ok.values c.as_slice.ensures c.as_slice-in-Ok.ensures c.in-Ok.ensures.values (c.ordered.ensures.partial p) s

pub returns-in-Err-clause-partial : goal.returns-in-Err-clause-partial
returns-in-Err-clause-partial c = λ p s. not_given c.args.tokens.now c.args.constructor.now c.as_slice.result.now c.as_slice.ensures (c.in-Err.ensures.partial (same_err c.in-Err.fault Partial p)) s
