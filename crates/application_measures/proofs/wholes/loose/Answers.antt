use Rattle.std.proofs.Common.{ap, ◌∙◌}
use Rattle.std.proofs.lemmas.Result.{IfOk-weaker}
use Rattle.sled_model.specs.declared.pattern.Pattern.{Pattern}
use Rattle.sled_model.specs.declared.pattern.Pattern.TheVariants.{Loose}
use Rattle.application_measures.specs.Arms.{AreArmMeasures}
use Rattle.application_measures.specs.Parts.{AreOver, with_part}
use Rattle.application_measures.proofs.Mirrors.{loose_measured}
use Rattle.application_measures.proofs.wholes.loose.Goals as goal

pub returns : goal.returns
returns c =
    let spec = c.args.spec.now in let parts = c.add.new.self in let whole = Loose c.in_ok-new.field-0 in
    IfOk-weaker c.over.result (AreOver spec.tokens parts whole)
    (λ m. (p : Pattern) → AreArmMeasures spec p c.args.part → AreArmMeasures spec (Loose p) m)
    (λ m h. loose_measured spec c.args.part parts (c.in_ok-add.ensures ∙ ap (λ ps. with_part ps c.args.part) c.new-parts.ensures) whole (ap (λ q. Loose q) c.in_ok-new.ensures) m h)
    c.over.ensures
