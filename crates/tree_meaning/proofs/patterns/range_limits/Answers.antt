use Rattle.std.proofs.Common.{◌≡◌, ◌-◌, ◌≤◌, ◌++◌, ◌∷◌, [], sym, ap, ◌∙◌, arith}
use Rattle.std.specs.List.{range_with_len}
use Rattle.std.specs.Prelude.{map}
use Rattle.sled_model.specs.declared.pattern.Pattern.TheVariants as pattern
use Rattle.tree_meaning.proofs.ChoiceLemmas.{range_more}
use Rattle.tree_meaning.proofs.patterns.range_limits.Goals as goal

pub loop-value-preserved : goal.loop-value-preserved
loop-value-preserved c =
    let a = c.args in let k = c.loop-value.value in let from : a.first ≤ k = c.loop-value.auto.value in
    record {
      made = c.in_ok-push.ensures.items ∙ ap (λ ps. ps ++ pattern.Limit a.field a.relation k ∷ []) c.loop-value.invariant.made
          ∙ sym (range_more (pattern.Limit a.field a.relation) a.first k from);
      within = omega (arith, c.loop-value-test.true);
    }

pub returns : goal.returns
returns c =
    let a = c.args in
    let same : c.loop-value.value - a.first ≡ a.end - a.first = omega (arith, c.loop-value-test.false, c.loop-value.invariant.within) in
    c.loop-value.invariant.made ∙ ap (λ n. map (pattern.Limit a.field a.relation) (range_with_len a.first n)) same
