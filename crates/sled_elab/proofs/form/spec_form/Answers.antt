use Rattle.std.proofs.Common.{refl, []}
use Rattle.sled_model.specs.Shapes.{spec_shapes}
use Rattle.pattern_shapes.specs.Forms.{operand_context}
use Rattle.sled_elab.proofs.FormLemmas.{form_anywhere}
use Rattle.sled_elab.proofs.form.spec_form.Goals as goal

pub returns : goal.returns
returns c =
    let spec = c.args.spec.now in
    form_anywhere (operand_context spec.tokens []) (spec_shapes spec) refl c.args.pattern.now c.in_ok-form.form c.requires c.in_ok-form.ensures
