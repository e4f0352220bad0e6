use Rattle.std.proofs.Common.{◌≡◌, ◌∙◌, List, subst, sym, ap}
use Rattle.std.specs.Prelude.{is_some}
use Rattle.sled_model.specs.declared.constructor.OperandKind.{OperandKind}
use Rattle.sled_model.specs.declared.pattern.Pattern.{Pattern}
use Rattle.constructor_meaning.specs.Conditions.{kinds, bodies, least_length}
use Rattle.constructor_meaning.specs.Measured.{EachMeasured}
use Rattle.constructor_meaning.proofs.MeasuredLemmas.{measures_are}
use Rattle.constructor_meaning.proofs.forming.unmet_measures.Goals as goal

pub returns : goal.returns
returns c = λ declared t is typed.
    let spec = c.args.spec.now in let ms = c.args.measures.now in
    let measured : EachMeasured spec (kinds declared t) (bodies declared t) ms =
    subst (λ (ps : List Pattern). EachMeasured spec (kinds declared t) ps ms) is.body.bodies
    (subst (λ (ks : List OperandKind). EachMeasured spec ks c.args.reading.now.body.bodies ms) is.kinds c.requires) in
    measures_are spec (kinds declared t) (bodies declared t) ms measured c.first_unmet_measure.result
    c.least_length.result (least_length (is_some t.result)) (c.least_length.ensures ∙ ap least_length typed)
    (cc (c.first_unmet_measure.ensures, c.all_within-within.ensures, c.all_small-small.ensures))
