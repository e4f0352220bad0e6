use Rattle.std.proofs.Common.{◌≡◌, ◌∙◌, List, subst, sym, ap}
use Rattle.sled_model.specs.declared.constructor.OperandKind.{OperandKind}
use Rattle.sled_model.specs.declared.pattern.Pattern.{Pattern}
use Rattle.constructor_meaning.specs.Conditions.{kinds, bodies}
use Rattle.constructor_meaning.specs.Measured.{EachMeasured}
use Rattle.constructor_meaning.proofs.MeasuredLemmas.{forms_are}
use Rattle.constructor_meaning.proofs.forming.unmet_forming.Goals as goal

pub returns : goal.returns
returns c = λ declared t is.
    let spec = c.args.spec.now in let ms = c.args.measures.now in
    let measured : EachMeasured spec (kinds declared t) (bodies declared t) ms =
    subst (λ (ps : List Pattern). EachMeasured spec (kinds declared t) ps ms) is.body.bodies
    (subst (λ (ks : List OperandKind). EachMeasured spec ks c.args.reading.now.body.bodies ms) is.kinds c.requires) in
    forms_are spec (kinds declared t) (bodies declared t) ms measured c.first_unmet_form.result
    c.args.reading.now.body.bindings.free _ c.args.reading.now.body.bindings.once _ is.body.bindings.free is.body.bindings.once
    (cc (c.first_unmet_form.ensures, c.all_agree-agree.ensures, c.all_closed-closed.ensures, c.have_like_sides-alike.ensures))
