use Rattle.std.proofs.Common.{◌≡◌, take, sym, ap, subst, ◌∙◌}
use Rattle.std.specs.Prelude.{fold}
use Rattle.token_bits.specs.declared.tokens.Class.{Class}
use Rattle.token_bits.specs.Tokens.{IsFieldOf}
use Rattle.tree_meaning.specs.Scopes.{declared_in}
use Rattle.sled_elab.specs.Declarations.{with_class_alone, with_field, field_of, class_of}
use Rattle.sled_elab.specs.Descriptions.{described_in}
use Rattle.sled_elab.proofs.DescriptionLemmas.{class_sound}
use Rattle.sled_elab.proofs.ClassLemmas.{class_made, class_new, next_new, next_place}
use Rattle.sled_elab.proofs.class.add_class.Goals as goal

pub loop-field-init : goal.loop-field-init
loop-field-init c =
    let d = described_in c.args.description.now in
    let class : Class = record { width = c.small_number.result; order = c.order_of.result } in
    let is : class ≡ class_of c.args.width.now c.args.little = cc (c.small_number.ensures, c.order_of.ensures) in
    record {
      made = class_made d c.args.name.now c.args.width.now c.args.little c.add_class.new.self (declared_in c.declare.new.self) c.in_ok-id.id c.in_ok-id.ensures.number
          (cc (c.in_ok-id.ensures.added, c.in_ok-from_slice.ensures, c.small_number.ensures, c.order_of.ensures)) c.in_ok-declare.ensures;
      sound = class_sound d c.requires.sound c.args.name.now (class_new d.declared c.args.name.now c.args.fields.now c.requires.once)
          c.add_class.new.self c.in_ok-id.ensures.sound (declared_in c.declare.new.self) class c.in_ok-id.id c.in_ok-id.ensures.number
          (cc (c.in_ok-id.ensures.added, c.in_ok-from_slice.ensures)) c.in_ok-declare.ensures;
    }

pub add_field-requires-clause-fresh : goal.add_field-requires-clause-fresh
add_field-requires-clause-fresh c =
    let d = described_in c.args.description.now in
    let alone = with_class_alone d c.args.name.now c.args.width.now c.args.little in
    let made = c.loop-field.invariant.made ∙ ap (λ k. fold (with_field k) alone (take c.loop-field.field-index c.args.fields.now)) c.in_ok-id.ensures.number in
    next_new d c.args.name.now c.args.width.now c.args.little c.args.fields.now c.loop-field.field-index (described_in c.loop-field.description) made
    c.field-item.result c.loop-field-test.true c.field-item.is c.requires.once

pub add_field-requires-clause-place : goal.add_field-requires-clause-place
add_field-requires-clause-place c =
    let d = described_in c.args.description.now in
    let alone = with_class_alone d c.args.name.now c.args.width.now c.args.little in
    let made = c.loop-field.invariant.made ∙ ap (λ k. fold (with_field k) alone (take c.loop-field.field-index c.args.fields.now)) c.in_ok-id.ensures.number in
    subst (λ k. IsFieldOf c.loop-field.description.spec.tokens.classes (field_of k c.field-item.result)) (sym c.in_ok-id.ensures.number)
    (next_place d c.args.name.now c.args.width.now c.args.little c.args.fields.now c.loop-field.field-index (described_in c.loop-field.description) made
    c.field-item.result c.loop-field-test.true c.field-item.is c.requires.widths)
