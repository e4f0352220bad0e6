use Rattle.std.proofs.Common.{sym, ap, ◌∙◌}
use Rattle.sled_model.specs.Measures.{capped}
use Rattle.pattern_normal.specs.Alone.{lone_len}
use Rattle.pattern_normal.proofs.Measured.{len_Label}
use Rattle.pattern_normal.proofs.lengths.+len.Goals as goal

pub lone_len-returns-in-Label : goal.lone_len-returns-in-Label
lone_len-returns-in-Label t c = let m = lone_len c.args.tokens.now in
    c.lone_len.ensures ∙ ap (λ p. capped (m p)) c.get.ensures ∙ ap capped (sym (len_Label c.args.tokens.now c.in-Label.field-0 c.in-Label.inner) ∙ ap m (sym c.in-Label.is))
