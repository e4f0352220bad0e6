use Rattle.std.proofs.Common.{◌≡◌, ◌∷◌, [], length, sym, ap, ◌∙◌}
use Rattle.std.proofs.lemmas.Result.{IfOk-weaker}
use Rattle.tree_meaning.proofs.ChoiceLemmas.{only_one, extended_one}
use Rattle.tree_meaning.specs.Patterns.{extended_by}
use Rattle.tree_meaning.proofs.patterns.extended.Goals as goal

pub returns-then-len-ne1-2 : goal.returns-then-len-ne1-2
returns-then-len-ne1-2 c =
    let ps = c.args.patterns.items in let cs = c.args.chosen.items in let p = c.index.result.now in
    let count : length ps ≡ 1 = sym c.args.patterns.ok.0 ∙ sym c.len.ensures ∙ c.if-len-ne1.false in
    let only : ps ≡ p ∷ [] = only_one ps p count ∙ ap (λ q. q ∷ []) (sym c.index.ensures) in
    IfOk-weaker c.push_on_each.result _ _ (λ made is. is ∙ sym (extended_one cs p) ∙ ap (extended_by cs) (sym only)) c.push_on_each.ensures
