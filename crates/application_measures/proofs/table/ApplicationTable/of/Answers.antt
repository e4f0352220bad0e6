use Rattle.std.proofs.Common.{◌≡◌, ◌<◌, length, get_or, refl, ap, subst, ◌∙◌, arith}
use Rattle.application_measures.specs.Tables.{IsApplicationTableOf}
use Rattle.application_measures.proofs.Tabled.{first_constructors, constructors_sound, one_constructor_more, all_constructors, applies_nothing, constructor_known}
use Rattle.application_measures.proofs.table.ApplicationTable.of.Goals as goal

pub add-requires-clause-plain : goal.add-requires-clause-plain
add-requires-clause-plain c =
    let spec = c.args.spec.now in let con = c.constructor-item.result in let k = c.loop-constructor.constructor-index in
    let long = ap length c.as_slice-constructor-items.ensures in
    let within : k < length spec.constructors = omega arith in
    applies_nothing spec.tokens (length spec.type_names) con
    (constructor_known spec c.requires k con within (c.constructor-item.is ∙ ap (λ cs. get_or cs k con) c.as_slice-constructor-items.ensures))

pub loop-constructor-preserved : goal.loop-constructor-preserved
loop-constructor-preserved c =
    let spec = c.args.spec.now in let con = c.constructor-item.result in let k = c.loop-constructor.constructor-index in
    let sound = c.requires in let long = ap length c.as_slice-constructor-items.ensures in
    let within : k < length spec.constructors = omega arith in
    let is : con ≡ get_or spec.constructors k con = c.constructor-item.is ∙ ap (λ cs. get_or cs k con) c.as_slice-constructor-items.ensures in
    subst (λ s. IsApplicationTableOf s c.add.new.self) (one_constructor_more spec sound k con within is)
    (c.in_ok-add.ensures (first_constructors spec k) (constructors_sound spec sound k (omega arith)) refl (constructor_known spec sound k con within is) c.loop-constructor.invariant)

pub returns : goal.returns
returns c =
    let spec = c.args.spec.now in let k = c.loop-constructor.constructor-index in let long = ap length c.as_slice-constructor-items.ensures in
    subst (λ s. IsApplicationTableOf s c.loop-constructor.table) (all_constructors spec c.requires k (omega arith)) c.loop-constructor.invariant
