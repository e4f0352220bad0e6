use Rattle.std.proofs.Common.{[], ◌∷◌, ◌++◌, sym, ap, ◌∙◌}
use Rattle.std.specs.List.{flat_map, range_with_len}
use Rattle.sled_model.specs.declared.statement.Piece.TheVariants.{Words, Bound}
use Rattle.arm_meaning.specs.All.{name_piece}
use Rattle.arm_meaning.proofs.AllLaws.{pieces_more}
use Rattle.arm_meaning.proofs.all.written_pieces.Goals as goal

pub loop-number-preserved : goal.loop-number-preserved
loop-number-preserved c =
    let k = c.loop-number.number in let name = c.args.name.now in let front = flat_map (name_piece name) (range_with_len 0 k) in
    c.in_ok-push-3.ensures.ok
    ∙ ap (λ ps. ps ++ Bound k ∷ [])
    (c.in_ok-push-2.ensures.ok ∙ ap (λ ps. ps ++ Words c.in_ok-words_before.field-0 ∷ []) c.loop-number.invariant ∙ ap (λ ws. front ++ Words ws ∷ []) c.in_ok-words_before.ensures)
    ∙ sym (pieces_more name k)
