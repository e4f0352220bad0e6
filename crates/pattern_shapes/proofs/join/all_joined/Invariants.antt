use Rattle.std.proofs.Common.{◌≡◌, [], take}
use Rattle.sled_model.specs.Shapes.{each_with}
use Rattle.pattern_shapes.specs.Forms.{with_shapes, joint_shape}
use Rattle.pattern_shapes.proofs.join.all_joined.Given as goal

abbrev pub invariant-loop-a : goal.invariant-loop-a
invariant-loop-a l = l.found ≡ with_shapes [] (each_with (joint_shape l.joint) (take l.a-index l.firsts) l.seconds)
