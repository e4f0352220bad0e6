use Rattle.std.proofs.Common.{[], sym, ap, ◌∙◌}
use Rattle.sled_model.specs.Measures.{capped, each_from, measured}
use Rattle.pattern_normal.proofs.Alone.{same_len}
use Rattle.pattern_normal.proofs.lengths.longest.Goals as goal

pub returns : goal.returns
returns c = let spec = c.args.spec.now in
    c.lone_len.ensures ∙ ap capped (sym (same_len spec.tokens (each_from (measured spec.tokens) [] spec.constructors) (λ k. 0) c.args.pattern.now c.requires))
