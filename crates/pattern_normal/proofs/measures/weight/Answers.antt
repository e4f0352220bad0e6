use Rattle.std.proofs.Common.{[], sym, ap, ◌∙◌}
use Rattle.sled_model.specs.Measures.{capped, each_from, weighed}
use Rattle.pattern_normal.proofs.Alone.{same_weight}
use Rattle.pattern_normal.proofs.measures.weight.Goals as goal

pub returns : goal.returns
returns c = let spec = c.args.spec.now in
    c.weight_over.ensures ∙ ap capped (sym (same_weight spec.tokens (each_from (weighed spec.tokens) [] spec.constructors) (λ k. 0) c.args.pattern.now c.requires.plain))
