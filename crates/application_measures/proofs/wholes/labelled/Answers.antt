use Rattle.std.proofs.Common.{ap, ◌∙◌}
use Rattle.std.proofs.lemmas.Result.{IfOk-weaker}
use Rattle.sled_model.specs.declared.pattern.Pattern.{Pattern}
use Rattle.sled_model.specs.declared.pattern.Pattern.TheVariants.{Label}
use Rattle.application_measures.specs.Arms.{AreArmMeasures}
use Rattle.application_measures.specs.Parts.{AreOver, with_part}
use Rattle.application_measures.proofs.Mirrors.{label_measured}
use Rattle.application_measures.proofs.wholes.labelled.Goals as goal

pub returns : goal.returns
returns c =
    let spec = c.args.spec.now in let parts = c.add.new.self in let whole = Label c.args.label c.in_ok-new.field-0 in
    IfOk-weaker c.over.result (AreOver spec.tokens parts whole)
    (λ m. (p : Pattern) → AreArmMeasures spec p c.args.part → AreArmMeasures spec (Label c.args.label p) m)
    (λ m h. label_measured spec c.args.label c.args.part parts (c.in_ok-add.ensures ∙ ap (λ ps. with_part ps c.args.part) c.new-parts.ensures) whole (ap (λ q. Label c.args.label q) c.in_ok-new.ensures) m h)
    c.over.ensures
