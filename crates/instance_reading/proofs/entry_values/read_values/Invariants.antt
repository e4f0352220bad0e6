use Rattle.std.proofs.Common.{◌≡◌, take}
use Rattle.pattern_normal.specs.Skeletons.{read_entries}
use Rattle.instance_reading.specs.Entries.{values_read}
use Rattle.instance_reading.proofs.entry_values.read_values.Given as goal

abbrev pub invariant-loop-spot : goal.invariant-loop-spot
invariant-loop-spot l = l.found.items ≡ values_read (read_entries l.tokens l.window (take l.spot-index l.spots))
