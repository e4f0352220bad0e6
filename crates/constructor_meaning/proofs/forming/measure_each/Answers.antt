use Rattle.std.proofs.Common.{◌≡◌, ◌∙◌, ◌≤◌, ◌+◌, ◌++◌, ◌∷◌, [], ℕ, zero, suc, List, take, ap, length, refl, sym, subst, arith}
use Rattle.std.proofs.lemmas.List.{take_all}
use Rattle.sled_model.specs.declared.pattern.Pattern.{Pattern}
use Rattle.type_tables.specs.declared.measures.Measures.{Measures}
use Rattle.type_tables.specs.Tables.{AreMeasures}
use Rattle.tree_meaning.proofs.ListLemmas.{take-here}
use Rattle.constructor_meaning.specs.Measured.{EachMeasured}
use Rattle.constructor_meaning.proofs.MeasuredLemmas.{measured_push}
use Rattle.constructor_meaning.proofs.forming.measure_each.Goals as goal

pub loop-body-preserved : goal.loop-body-preserved
loop-body-preserved c =
    let spec = c.args.spec.now in let ks = c.args.kinds.now in let ps = c.args.bodies.now in let i = c.loop-body.body-index in
    let p = c.body-item.result in let m = c.in_ok-measure.field-0 in
    let are : AreMeasures spec ks p m = c.in_ok-measure.ensures spec c.requires.spec refl c.requires.types in
    let next = measured_push spec ks (take i ps) c.loop-body.measures.items p m c.loop-body.invariant are in
    subst (λ (qs : List Pattern). EachMeasured spec ks qs c.push.new.self.items) (sym (take-here ps i p c.loop-body-test.true c.body-item.is))
    (subst (λ (ms : List Measures). EachMeasured spec ks (take i ps ++ p ∷ []) ms) (sym c.in_ok-push.ensures.items) next)

pub returns : goal.returns
returns c =
    let spec = c.args.spec.now in let ks = c.args.kinds.now in let ps = c.args.bodies.now in
    let all : take c.loop-body.body-index ps ≡ ps = take_all c.loop-body.body-index ps c.loop-body-test.false in
    subst (λ (qs : List Pattern). EachMeasured spec ks qs c.loop-body.measures.items) all c.loop-body.invariant
