use Rattle.std.proofs.Common.{◌++◌, ◌∷◌, [], map, sym, ap, ◌∙◌, arith}
use Rattle.std.proofs.lemmas.List.FromFn.{map-range_with_len_more}
use Rattle.sled_model.specs.Results.{results}
use Rattle.sled_model.specs.PatternContexts.{context_in}
use Rattle.sled_model.proofs.bodies.body_row.Goals as goal

pub loop-at-preserved : goal.loop-at-preserved
loop-at-preserved c =
    let near = c.args.near.now in let f = results (context_in near) c.args.body.now near.window.now in let at = c.loop-at.at in
    c.in_ok-push.ensures.ok ∙ ap (λ xs. c.loop-at.row ++ xs ∷ []) c.in_ok-results_among.ensures.value ∙ ap (λ rows. rows ++ f at ∷ []) c.loop-at.invariant
    ∙ sym (map-range_with_len_more f 0 at at (omega arith))
