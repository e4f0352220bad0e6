use Rattle.std.proofs.Common.{reverse, sym, ap, ◌∙◌}
use Rattle.pattern_shapes.specs.Forms.{with_shapes}
use Rattle.pattern_shapes.proofs.Joined.{same_added, once_added}
use Rattle.pattern_shapes.proofs.join.add_shapes.Goals as goal

pub returns-clause-members : goal.returns-clause-members
returns-clause-members c =
    let found = c.loop-shape.shapes in
    same_added c.args.shapes.now c.args.more found (sym (ap (λ more. with_shapes found (reverse more)) c.in_default.ensures.0) ∙ c.loop-shape.invariant)

pub returns-clause-once : goal.returns-clause-once
returns-clause-once c =
    let found = c.loop-shape.shapes in
    once_added c.args.shapes.now c.args.more found (sym (ap (λ more. with_shapes found (reverse more)) c.in_default.ensures.0) ∙ c.loop-shape.invariant)
