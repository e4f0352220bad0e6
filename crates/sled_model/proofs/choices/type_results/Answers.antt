use Rattle.std.proofs.Common.{◌≡◌, ◌+◌, ◌++◌, [], drop, slice_get, Some, refl, sym, ap, ◌∙◌, arith}
use Rattle.std.proofs.lemmas.List.{append_assoc, append-nil}
use Rattle.std.proofs.lemmas.Option.{slice_get_read}
use Rattle.sled_model.specs.Results.{choices_from}
use Rattle.sled_model.specs.PatternContexts.{known_in}
use Rattle.sled_model.proofs.ChoiceLemmas.{choices_at, choices_step, choices_end}
use Rattle.sled_model.proofs.choices.type_results.Goals as goal

pub loop-k-preserved : goal.loop-k-preserved
loop-k-preserved c =
    let a = c.args in let near = a.near.now in let known = known_in near in let bytes = near.window.now in let k = c.loop-k.k in
    let found : slice_get near.constructors.now k ≡ Some c.constructor-item.result = slice_get_read near.constructors.now _ k c.constructor-item.result refl (omega arith) c.constructor-item.is in
    let later = choices_from (k + 1) (drop (k + 1) known) a.of bytes a.at in
    let here = choices_at known k a.of c.constructor-item.result.result bytes a.at in
    c.loop-k.invariant ∙ ap (λ xs. c.loop-k.found ++ xs) (choices_step near.tokens.now near.constructors.now a.of bytes a.at k c.constructor-item.result found)
    ∙ sym (append_assoc c.loop-k.found here later) ∙ ap (λ xs. xs ++ later) (sym c.in_ok-push_of_type.ensures)

pub returns : goal.returns
returns c =
    let a = c.args in let near = a.near.now in
    sym (c.loop-k.invariant ∙ ap (λ xs. c.loop-k.found ++ xs) (choices_end near.tokens.now near.constructors.now a.of near.window.now a.at c.loop-k.k (omega arith)) ∙ append-nil c.loop-k.found)
