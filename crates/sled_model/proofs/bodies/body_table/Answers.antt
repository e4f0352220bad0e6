use Rattle.std.proofs.Common.{◌≡◌, ◌+◌, List, ◌++◌, ◌∷◌, [], take, sym, ap, ◌∙◌, arith}
use Rattle.std.proofs.lemmas.List.{take_more}
use Rattle.sled_model.specs.declared.constructor.Constructor.{Constructor}
use Rattle.sled_model.specs.declared.constructor.OperandKind.{OperandKind}
use Rattle.sled_model.specs.Results.{results, known_from}
use Rattle.sled_model.specs.PatternContexts.{row_of, table_of}
use Rattle.sled_model.proofs.ContextLemmas.{known_after, table_push}
use Rattle.sled_model.proofs.bodies.body_table.Goals as goal

pub loop-k-preserved : goal.loop-k-preserved
loop-k-preserved c =
    let tokens = c.args.tokens.now in let cs = c.args.constructors.now in let w = c.args.window.now in let k = c.loop-k.k in let x = c.index-constructors-k.result in
    let known = known_from tokens [] (take k cs) in
    let row : c.in_ok-row.row ≡ row_of w (known_after tokens known x).body =
    c.in_ok-row.ensures ∙ ap (λ (kinds : List OperandKind). row_of w (results (record { tokens = tokens; operands = kinds; known = known }) x.body)) c.as_slice.ensures in
    let taken : take (k + 1) cs ≡ take k cs ++ x ∷ [] = take_more cs k x (omega arith) ∙ ap (λ (y : Constructor). take k cs ++ y ∷ []) (sym c.index-constructors-k.is) in
    c.in_ok-push.ensures.ok ∙ ap (λ r. c.loop-k.table ++ r ∷ []) row ∙ ap (λ rows. rows ++ row_of w (known_after tokens known x).body ∷ []) c.loop-k.invariant
    ∙ sym (table_push w tokens (take k cs) x) ∙ ap (λ ds. table_of w (known_from tokens [] ds)) (sym taken)
