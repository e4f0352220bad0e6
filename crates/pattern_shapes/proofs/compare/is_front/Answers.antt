use Rattle.std.proofs.Common.{sym, ◌∙◌, length}
use Rattle.std.proofs.lemmas.Bool.{ltb-false}
use Rattle.pattern_shapes.proofs.CompareLemmas.{past_whole}
use Rattle.pattern_shapes.proofs.compare.is_front.Goals as goal

pub returns-in_default : goal.returns-in_default
returns-in_default c =
    let a = c.args in
    let found = c.in_default.ensures in
    sym (past_whole a.front.now a.whole.now c.loop-i.i c.loop-i-test.true (ltb-false c.loop-i.i (length a.whole.now) (sym found.lookup.0))) ∙ c.loop-i.invariant
