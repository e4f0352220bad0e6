use Rattle.std.proofs.Common.{arith}
use Rattle.std.proofs.lemmas.Option.{slice_get-get_or}
use Rattle.eq_solver.proofs.Chains.{slices_more, slices_end}
use Rattle.eq_solver.proofs.values.all_slices.Goals as goal

pub loop-operand-preserved : goal.loop-operand-preserved
loop-operand-preserved c =
    slices_more c.args.targets.now c.args.kinds.now c.loop-operand.slices c.add_slices.new.slices c.loop-operand.operand _ c.loop-operand.invariant (slice_get-get_or c.args.kinds.now c.loop-operand.operand _ c.loop-operand-test.true) c.in_ok-add_slices.ensures.added

pub returns-clause-slices : goal.returns-clause-slices
returns-clause-slices c = slices_end c.args.targets.now c.args.kinds.now c.loop-operand.slices c.loop-operand.operand c.loop-operand.invariant c.loop-operand-test.false
