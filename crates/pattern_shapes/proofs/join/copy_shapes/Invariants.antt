use Rattle.std.proofs.Common.{◌≡◌, take}
use Rattle.pattern_shapes.proofs.join.copy_shapes.Given as goal

abbrev pub invariant-loop-shape : goal.invariant-loop-shape
invariant-loop-shape l = l.copy ≡ take l.shape-index l.shapes
