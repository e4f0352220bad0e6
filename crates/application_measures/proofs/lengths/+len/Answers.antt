use Rattle.std.proofs.Common.{sym, ap, ◌∙◌}
use Rattle.sled_model.specs.Measures.{capped}
use Rattle.application_measures.specs.Parts.{len_among}
use Rattle.application_measures.proofs.LengthLaws.{len_Label}
use Rattle.application_measures.proofs.lengths.+len.Goals as goal

pub len_over-returns-in-Label : goal.len_over-returns-in-Label
len_over-returns-in-Label t c = let m = len_among c.args.tokens.now c.args.operands.now in
    c.len_over.ensures ∙ ap (λ p. capped (m p)) c.get.ensures
    ∙ ap capped (sym (len_Label c.args.tokens.now c.args.operands.now c.in-Label.field-0 c.in-Label.inner) ∙ ap m (sym c.in-Label.is))
