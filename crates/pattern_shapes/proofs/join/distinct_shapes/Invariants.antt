use Rattle.std.proofs.Common.{◌≡◌, [], take}
use Rattle.pattern_shapes.specs.Forms.{with_shapes}
use Rattle.pattern_shapes.proofs.join.distinct_shapes.Given as goal

abbrev pub invariant-loop-shape : goal.invariant-loop-shape
invariant-loop-shape l = l.found ≡ with_shapes [] (take l.shape-index l.shapes)
