use Rattle.std.proofs.Common.{take}
use Rattle.match_meaning.specs.Names.{AreNameValues}
use Rattle.name_values.specs.Values.{entries_at}
use Rattle.name_values.proofs.names.values_by.Given as goal

abbrev pub invariant-loop-k : goal.invariant-loop-k
invariant-loop-k l = AreNameValues l.place.spec.now l.place.location (entries_at l.place l.spots) 0 (take l.k l.names) l.values
