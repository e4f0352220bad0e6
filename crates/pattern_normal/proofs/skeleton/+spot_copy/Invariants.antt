use Rattle.std.proofs.Common.{◌≡◌, take}
use Rattle.pattern_normal.proofs.skeleton.+spot_copy.Given as goal

-- those so far are copied
abbrev pub invariant-copy_spots-loop-spot : goal.invariant-copy_spots-loop-spot
invariant-copy_spots-loop-spot l = l.copied ≡ take l.spot-index l.spots
