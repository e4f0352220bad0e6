use Rattle.std.proofs.Common.{[], get_or, refl, ap, ◌∙◌}
use Rattle.sled_model.specs.Measures.{capped, weight, size}
use Rattle.application_measures.specs.Parts.{len_among}
use Rattle.application_measures.proofs.Mirrors.{over_is}
use Rattle.application_measures.proofs.parts.Parts.over.Goals as goal

pub returns : goal.returns
returns c =
    let tokens = c.args.tokens.now in let whole = c.args.whole.now in
    over_is tokens c.args.self.now whole c.as_slice.result.now c.as_slice.ensures c.in_ok-form.form c.asked_too.result c.in_ok-form.ensures c.asked_too.ensures
    (record { form = c.asked_too.result; weight = c.weight_over.result; size = c.size_over.result; len = c.len_over.result }) refl
    (c.weight_over.ensures ∙ ap (λ ws. capped (weight tokens [] (λ k. get_or ws k 0) whole)) c.as_slice-2.ensures)
    (c.size_over.ensures ∙ ap (λ ns. capped (size [] (λ k. get_or ns k 0) whole)) c.as_slice-3.ensures)
    (c.len_over.ensures ∙ ap (λ ls. capped (len_among tokens ls whole)) c.as_slice-4.ensures)
