use Rattle.std.proofs.Common.{[], sym, ap, ◌∙◌}
use Rattle.sled_model.specs.Measures.{capped, each_from, sized}
use Rattle.pattern_normal.proofs.Alone.{same_size}
use Rattle.pattern_normal.proofs.measures.size.Goals as goal

pub returns : goal.returns
returns c = c.size_over.ensures ∙ ap capped (sym (same_size (each_from sized [] c.args.spec.now.constructors) (λ k. 0) c.args.pattern.now c.requires.plain))
