use Rattle.std.proofs.Common.{[], true, get_or, refl, ap, subst, ◌∙◌}
use Rattle.sled_model.specs.Measures.{capped, weight}
use Rattle.pattern_shapes.specs.Forms.{operand_context, IsFormOf}
use Rattle.application_measures.proofs.Applications.{applied_measures}
use Rattle.application_measures.proofs.measures.body_measures.Goals as goal

pub returns : goal.returns
returns c = λ arguments are.
    let spec = c.args.spec.now in let con = c.args.constructor.now in let form = c.in_ok-body.body in let k = c.args.k in
    applied_measures spec c.requires.spec k arguments con c.requires.found c.args.operands.now are c.args.table.now c.requires.table form
    (record { form = record { shapes = form.shapes; agree = true; closed = true; alike = true }; weight = c.weight_over.result; size = c.number_at.result; len = c.number_at-2.result })
    (subst (λ sss. IsFormOf (operand_context spec.tokens sss) con.body form) c.as_slice.ensures c.in_ok-body.ensures)
    refl
    (c.weight_over.ensures ∙ ap (λ ws. capped (weight spec.tokens [] (λ j. get_or ws j 0) con.body)) c.as_slice-2.ensures)
    (c.number_at.ensures ∙ ap (λ ns. get_or ns k.0 0) c.as_slice-3.ensures)
    (c.number_at-2.ensures ∙ ap (λ ns. get_or ns k.0 0) c.as_slice-4.ensures)
