use Rattle.std.proofs.Common.{◌≡◌, ◌+◌, map, take}
use Rattle.std.specs.List.{sum}
use Rattle.sled_model.specs.Shapes.{class_bytes}
use Rattle.pattern_shapes.proofs.measure.length_within.Given as goal

abbrev pub invariant-loop-class : goal.invariant-loop-class
invariant-loop-class l = l.left + sum (map (class_bytes l.tokens) (take l.class-index l.shape.classes)) ≡ l.most
