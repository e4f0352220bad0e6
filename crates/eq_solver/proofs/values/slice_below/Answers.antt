use Rattle.std.proofs.Common.{below_more, arith, sym, ◌<◌, ◌∙◌}
use Rattle.std.proofs.lemmas.Option.{slice_get_within, slice_get-get_or}
use Rattle.eq_solver.proofs.Chains.{not_found}
use Rattle.eq_solver.proofs.values.slice_below.Goals as goal

pub loop-number-preserved : goal.loop-number-preserved
loop-number-preserved c =
    below_more _ _ c.loop-number.invariant (not_found c.args.targets.now c.args.operand c.args.top c.loop-number.number _ (slice_get-get_or c.args.targets.now c.loop-number.number _ c.loop-number-test.true) (sym c.is_ending.ensures ∙ c.if-is_ending.false))

pub returns-clause-is : goal.returns-clause-is
returns-clause-is c = λ i f. let l : i < c.loop-number.number = (let w = slice_get_within c.args.targets.now i f.0 f.1 in omega arith) in c.loop-number.invariant i l f
