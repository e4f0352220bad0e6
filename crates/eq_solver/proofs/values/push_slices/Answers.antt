use Rattle.std.proofs.Common.{arith, ap, ◌∙◌, ◌<◌}
use Rattle.std.proofs.lemmas.Option.{get_or_from_slice_get}
use Rattle.eq_solver.specs.Values.{low_of}
use Rattle.eq_solver.proofs.Held.{order_at, ending_below}
use Rattle.eq_solver.proofs.Chains.{not_held, chain_goes_on}
use Rattle.eq_solver.proofs.values.push_slices.Goals as goal

pub returns-in_default-clause-partial : goal.returns-in_default-clause-partial
returns-in_default-clause-partial c = λ p h.
    not_held c.args.targets.now c.args.operand c.args.slices.now c.loop-top.slices c.loop-top.top c.requires.orders c.loop-top.invariant c.loop-top-test.true c.in_default.ensures.is h

pub loop-top-smaller : goal.loop-top-smaller
loop-top-smaller c =
    let f = c.in-Some.ensures.is in
    let same = c.low_of-top.ensures ∙ ap low_of (get_or_from_slice_get c.args.targets.now c.in-Some.number f.0 _ f.1) in
    let below = ending_below c.args.operand c.loop-top.top f.0 (order_at c.args.targets.now c.in-Some.number f.0 c.requires.orders f.1) f.2 in
    omega (arith, same, below)

pub loop-top-preserved : goal.loop-top-preserved
loop-top-preserved c =
    let f = c.in-Some.ensures.is in
    chain_goes_on c.args.targets.now c.args.operand c.args.slices.now c.loop-top.slices c.push.new.self c.loop-top.top c.low_of-top.result c.in-Some.number f.0 c.requires.orders c.loop-top.invariant f.1 f.2 c.in_ok-push.ensures.ok
    (c.low_of-top.ensures ∙ ap low_of (get_or_from_slice_get c.args.targets.now c.in-Some.number f.0 _ f.1))
