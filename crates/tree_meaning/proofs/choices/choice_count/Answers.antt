use Rattle.std.proofs.Common.{◌*◌, ◌-◌, ◌^◌, min, map, take, sym, ap, ◌∙◌}
use Rattle.std.proofs.lemmas.List.Folds.{list_all-map}
use Rattle.tree_meaning.specs.Patterns.{has_part_in_range, part_choices, choices_among}
use Rattle.tree_meaning.proofs.CountLemmas.{capped_times, choices_more}
use Rattle.tree_meaning.proofs.PartLemmas.{list_all-one}
use Rattle.tree_meaning.proofs.choices.choice_count.Goals as goal

pub part_choices-requires : goal.part_choices-requires
part_choices-requires c =
    let ts = c.args.parts.now in let i = c.loop-part.part-index in let t = c.part-item.result in
    ap (λ u. has_part_in_range u.now) c.part-item.is
    ∙ list_all-one (λ u. has_part_in_range u.now) ts i t c.loop-part-test.true (sym (list_all-map has_part_in_range (λ u. u.now) ts) ∙ c.requires)

pub loop-part-preserved : goal.loop-part-preserved
loop-part-preserved c =
    let ts = c.args.parts.now in let i = c.loop-part.part-index in let t = c.part-item.result in
    let p = choices_among (map (λ u. u.now) (take i ts)) in
    c.saturating_mul-count.ensures
    ∙ ap (λ n. min (c.loop-part.count * n) (2 ^ 64 - 1)) c.part_choices.ensures
    ∙ ap (λ k. min (k * part_choices t.now) (2 ^ 64 - 1)) c.loop-part.invariant
    ∙ capped_times p (part_choices t.now) (2 ^ 64 - 1)
    ∙ ap (λ k. min k (2 ^ 64 - 1)) (sym (choices_more (λ u. u.now) ts i t c.loop-part-test.true c.part-item.is))
