use Rattle.std.proofs.Common.{◌≡◌, length, slice_get, sym, subst, ◌∙◌, ap}
use Rattle.std.specs.Option.{option_map}
use Rattle.std.specs.Vec.{with_items}
use Rattle.std.proofs.lemmas.List.{with_items_is}
use Rattle.type_tables.specs.Types.{with_uses, GainMade}
use Rattle.type_tables.proofs.Added.{constructor_added}
use Rattle.type_tables.proofs.table.TypeTable.add_constructor.Goals as goal

pub returns : goal.returns
returns c = λ spec con h made kinds are.
    let old = c.args.self.now.types in let middle = c.add_made.new.types in let last = c.mark_all.new.types in let measures = c.args.measures in
    let items : (with_items old last).items ≡ last = with_items_is old last (c.mark_all.auto.types ∙ c.add_made.auto.types ∙ c.as_mut_slice-types.ensures.len) in
    constructor_added spec con measures are c.args.self.now (record { types = with_items old last }) middle
    (subst (λ m. GainMade m measures old.items middle) (sym made)
    (subst (λ olds. GainMade c.args.made measures olds middle) c.as_mut_slice-types.ensures.value c.in_ok-add_made.ensures))
    (ap length items ∙ c.mark_all.auto.types)
    (λ t. ap (λ es. slice_get es t) items ∙ c.mark_all.ensures t ∙ ap (λ ks. option_map (with_uses t ks) (slice_get middle t)) (sym kinds)) h
