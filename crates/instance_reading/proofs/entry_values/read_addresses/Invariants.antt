use Rattle.instance_reading.specs.Entries.{AreSpotAddresses}
use Rattle.instance_reading.proofs.entry_values.read_addresses.Given as goal

abbrev pub invariant-loop-label : goal.invariant-loop-label
invariant-loop-label l = AreSpotAddresses l.location l.spots l.label l.found.items
