use Rattle.std.proofs.Common.{◌≡◌, map, take}
use Rattle.pattern_shapes.specs.Forms.{with_shapes, joint_shape}
use Rattle.pattern_shapes.proofs.join.add_joined.Given as goal

abbrev pub invariant-loop-b : goal.invariant-loop-b
invariant-loop-b l = l.found ≡ with_shapes l.initial.found (map (joint_shape l.joint l.a) (take l.b-index l.seconds))
