use Rattle.std.proofs.Common.{take}
use Rattle.std.specs.List.{AllZip}
use Rattle.name_values.specs.Values.{entries_at, IsReadAs}
use Rattle.name_values.proofs.entries.instances_of.Given as goal

abbrev pub invariant-loop-spot : goal.invariant-loop-spot
invariant-loop-spot l = AllZip (IsReadAs l.place.spec.now l.place.location) (entries_at l.place (take l.spot-index l.spots)) l.instances
