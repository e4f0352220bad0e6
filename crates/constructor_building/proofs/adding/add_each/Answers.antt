use Rattle.constructor_building.proofs.AddedLemmas.{next_of, next_known, added_next}
use Rattle.std.proofs.Common.{reverse}
use Rattle.constructor_building.proofs.adding.add_each.Goals as goal

pub add_one-requires-clause-known : goal.add_one-requires-clause-known
add_one-requires-clause-known c =
    let before = c.args.spec.now in let all = c.args.constructors in let spec = c.loop-constructor.spec in let table = c.loop-constructor.types in
    next_known before all spec table c.in-Some.constructor (reverse c.pop.new.self)
    (next_of before all spec table c.loop-constructor.left c.pop.new.self c.in-Some.constructor c.loop-constructor.invariant c.in-Some.ensures)

pub loop-constructor-preserved : goal.loop-constructor-preserved
loop-constructor-preserved c =
    let before = c.args.spec.now in let all = c.args.constructors in let spec = c.loop-constructor.spec in let table = c.loop-constructor.types in
    added_next before all spec c.add_one.new.spec table c.add_one.new.types c.in-Some.constructor (reverse c.pop.new.self)
    (next_of before all spec table c.loop-constructor.left c.pop.new.self c.in-Some.constructor c.loop-constructor.invariant c.in-Some.ensures)
    c.in_ok-add_one.ensures.spec c.in_ok-add_one.ensures.sound c.in_ok-add_one.ensures.types
