use Rattle.std.proofs.Common.{◌≡◌}
use Rattle.std.specs.List.{flat_map, range_with_len}
use Rattle.arm_meaning.specs.All.{name_piece}
use Rattle.arm_meaning.proofs.all.written_pieces.Given as goal

abbrev pub invariant-loop-number : goal.invariant-loop-number
invariant-loop-number l = l.pieces ≡ flat_map (name_piece l.name) (range_with_len 0 l.number)
