use Rattle.std.proofs.Common.{◌+◌, ◌<◌, [], length, get_or, refl, ap, subst, ◌∙◌, arith}
use Rattle.std.proofs.lemmas.List.{length_push}
use Rattle.type_tables.specs.Tables.{IsTableOf}
use Rattle.application_measures.proofs.Tabled.{first_types, types_sound, one_type_more, all_types, types_only, one_zero_more}
use Rattle.application_measures.proofs.table.ApplicationTable.of_types.Goals as goal

pub loop-t-init : goal.loop-t-init
loop-t-init c = record {
  types = c.new-types.ensures (first_types c.args.spec.now 0) refl;
  count = ap length c.new-type_lens.ensures;
  none = λ t. ap (λ ns. get_or ns t 0) c.new-type_lens.ensures;
}

pub loop-t-preserved : goal.loop-t-preserved
loop-t-preserved c =
    let spec = c.args.spec.now in let sound = c.requires in let k = c.loop-t._t in let kept = c.loop-t.invariant in let old = c.loop-t.type_lens in
    let within : k < length spec.type_names = omega arith in
    record {
      types = subst (λ s. IsTableOf s c.add_type.new.self) (one_type_more spec sound k within)
          (c.in_ok-add_type.ensures.added (first_types spec k) (get_or spec.type_names k []) (types_sound spec sound k) kept.types);
      count = ap length c.in_ok-push.ensures.ok ∙ length_push old 0 ∙ ap (λ n. n + 1) kept.count;
      none = λ t. ap (λ ns. get_or ns t 0) c.in_ok-push.ensures.ok ∙ one_zero_more old kept.none t;
    }

pub returns : goal.returns
returns c =
    let spec = c.args.spec.now in let k = c.loop-t._t in let kept = c.loop-t.invariant in
    types_only spec (record { types = c.loop-t.types; sizes = c.new-sizes.result; lens = c.new-lens.result; type_lens = c.loop-t.type_lens })
    (subst (λ s. IsTableOf s c.loop-t.types) (all_types spec k (omega arith)) kept.types)
    (omega (arith, kept.count)) kept.none c.new-sizes.ensures c.new-lens.ensures
