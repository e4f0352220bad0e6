use Rattle.std.proofs.Common.{◌≡◌, drop}
use Rattle.sled_model.specs.Shapes.{is_front}
use Rattle.pattern_shapes.proofs.compare.is_front.Given as goal

abbrev pub invariant-loop-i : goal.invariant-loop-i
invariant-loop-i l = is_front (drop l.i l.front) (drop l.i l.whole) ≡ is_front l.front l.whole
