use Rattle.std.proofs.Common.{◌≡◌, length, slice_get, ap, ◌∙◌}
use Rattle.std.proofs.lemmas.Result.{IfOk-weaker}
use Rattle.sled_model.specs.declared.constructor.Constructor.{Constructor}
use Rattle.instance_reading.specs.Bound.{entries_of}
use Rattle.instance_reading.proofs.Bodies.{some_same}
use Rattle.instance_reading.proofs.Numbered.{plan_with, are_cells, are_labels, are_numbers}
use Rattle.instance_reading.proofs.Spots.{addresses_read}
use Rattle.instance_reading.proofs.bound.Bound.numbers.Goals as goal

pub numbers-requires-clause-plan : goal.numbers-requires-clause-plan
numbers-requires-clause-plan c =
    let b = c.args.self.now in let d = c.declared.result.now in let s = c.declared.ensures in
    plan_with b.place.spec.now c.requires.readable b.constructor (entries_of b) c.requires.result d s c.plan-plan.result.now (c.plan-plan.ensures d s)
    c.len-count.result b.place.location c.len-operands.result c.as_slice-labels.result.now _ c.as_slice-labels.ensures.value (addresses_read b.place.spec.now.tokens b.place.window.now _ _ _ _ c.in_ok-read_addresses.ensures) c.len-count.ensures c.len-operands.ensures

pub numbers-requires-clause-fields : goal.numbers-requires-clause-fields
numbers-requires-clause-fields c =
    let b = c.args.self.now in let d = c.declared.result.now in let s = c.declared.ensures in
    are_cells b.place.spec.now c.requires.readable b.constructor (entries_of b) c.requires.result d s c.plan-plan.result.now (c.plan-plan.ensures d s)
    c.as_slice-fields.result.now _ c.as_slice-fields.ensures.value c.in_ok-read_values.ensures

pub numbers-requires-clause-labels : goal.numbers-requires-clause-labels
numbers-requires-clause-labels c =
    let b = c.args.self.now in let d = c.declared.result.now in let s = c.declared.ensures in
    are_labels b.place.spec.now c.requires.readable b.constructor (entries_of b) c.requires.result d s b.place.location c.requires.low
    c.len-count.result c.as_slice-labels.result.now _ c.as_slice-labels.ensures.value (addresses_read b.place.spec.now.tokens b.place.window.now _ _ _ _ c.in_ok-read_addresses.ensures)

pub returns : goal.returns
returns c =
    let b = c.args.self.now in
    IfOk-weaker c.numbers.result _ _
    (λ ns h d s.
    let same : c.declared.result.now ≡ d = some_same (slice_get b.place.spec.now.constructors b.constructor.0) c.declared.result.now d c.declared.ensures s in
    are_numbers b.place.spec.now c.requires.readable b.constructor (entries_of b) c.requires.result d s c.plan-plan.result.now (c.plan-plan.ensures d s)
    c.len-count.result b.place.location c.len-operands.result c.as_slice-fields.result.now _ c.as_slice-labels.result.now _ ns
    c.as_slice-fields.ensures.value c.in_ok-read_values.ensures c.as_slice-labels.ensures.value (addresses_read b.place.spec.now.tokens b.place.window.now _ _ _ _ c.in_ok-read_addresses.ensures) c.len-count.ensures h.0 (c.len-operands.ensures ∙ ap (λ (d : Constructor). length d.operands) same) h.1)
    c.numbers.ensures
