use Rattle.std.proofs.Common.{◌++◌, ◌∷◌, [], map, sym, ap, ◌∙◌}
use Rattle.tree_meaning.proofs.ChoiceLemmas.{extended_more}
use Rattle.tree_meaning.specs.Patterns.{extended_by}
use Rattle.std.specs.Prelude.{take}
use Rattle.tree_meaning.proofs.patterns.all_extended.Goals as goal

pub loop-list-preserved : goal.loop-list-preserved
loop-list-preserved c =
    let a = c.args in let i = c.loop-list.list-index in
    c.in_ok-push_extended.ensures
    ∙ ap (λ made. made ++ map (λ p. c.as_slice.result.now ++ p ∷ []) a.patterns.now) c.loop-list.invariant
    ∙ ap (λ list. extended_by (take i a.chosen.now) a.patterns.now ++ map (λ p. list ++ p ∷ []) a.patterns.now) c.as_slice.ensures
    ∙ sym (extended_more a.chosen.now a.patterns.now i c.list-item.result c.loop-list-test.true c.list-item.is)
