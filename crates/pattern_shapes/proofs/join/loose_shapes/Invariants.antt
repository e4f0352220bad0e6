use Rattle.std.proofs.Common.{◌≡◌, [], length, map, reverse}
use Rattle.sled_model.specs.Shapes.{loose_shape}
use Rattle.pattern_shapes.specs.Forms.{with_shapes}
use Rattle.pattern_shapes.proofs.join.loose_shapes.Given as goal

abbrev pub invariant-loop-shape : goal.invariant-loop-shape
invariant-loop-shape l = with_shapes l.found (map loose_shape (reverse l.shapes)) ≡ with_shapes [] (map loose_shape (reverse l.initial.shapes))

abbrev pub decreases-loop-shape : goal.decreases-loop-shape
decreases-loop-shape l = length l.shapes
