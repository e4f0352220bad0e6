use Rattle.std.proofs.Common.{◌≡◌, List, length, sym, ap, ◌∙◌}
use Rattle.std.proofs.lemmas.Result.{IfOk-weaker}
use Rattle.sled_model.specs.declared.pattern.Pattern.{Pattern}
use Rattle.sled_model.specs.declared.pattern.Pattern.TheVariants.{Either}
use Rattle.application_measures.specs.Arms.{AreArmMeasures, ArePartsOf}
use Rattle.application_measures.specs.Parts.{AreOver, numbered}
use Rattle.application_measures.proofs.Mirrors.{either_measured}
use Rattle.application_measures.proofs.wholes.either.Goals as goal

pub returns : goal.returns
returns c =
    let spec = c.args.spec.now in let parts = c.args.parts.now in let members = c.in_ok-numbered.field-0 in
    IfOk-weaker c.over.result (AreOver spec.tokens parts (Either members))
    (λ m. (ps : List Pattern) → length ps ≡ c.args.count → ArePartsOf spec ps parts → AreArmMeasures spec (Either ps) m)
    (λ m h ps long are. either_measured spec ps parts are members (c.in_ok-numbered.ensures ∙ ap numbered (sym long)) m h)
    c.over.ensures
