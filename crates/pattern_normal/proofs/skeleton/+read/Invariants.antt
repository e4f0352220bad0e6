use Rattle.std.proofs.Common.{◌≡◌, take}
use Rattle.pattern_normal.specs.Skeletons.{read_entries}
use Rattle.pattern_normal.proofs.skeleton.+read.Given as goal

-- those so far are read
abbrev pub invariant-read_entries-loop-spot : goal.invariant-read_entries-loop-spot
invariant-read_entries-loop-spot l = l.entries ≡ read_entries l.tokens l.window (take l.spot-index l.spots)
