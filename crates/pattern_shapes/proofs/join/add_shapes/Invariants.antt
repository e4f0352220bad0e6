use Rattle.std.proofs.Common.{◌≡◌, length, reverse}
use Rattle.pattern_shapes.specs.Forms.{with_shapes}
use Rattle.pattern_shapes.proofs.join.add_shapes.Given as goal

abbrev pub invariant-loop-shape : goal.invariant-loop-shape
invariant-loop-shape l = with_shapes l.shapes (reverse l.more) ≡ with_shapes l.initial.shapes (reverse l.initial.more)

abbrev pub decreases-loop-shape : goal.decreases-loop-shape
decreases-loop-shape l = length l.more
