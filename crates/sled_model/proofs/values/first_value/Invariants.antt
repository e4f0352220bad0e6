use Rattle.std.proofs.Common.{◌≡◌, drop}
use Rattle.std.specs.List.{filter_map}
use Rattle.sled_model.specs.First.{entry_value}
use Rattle.sled_model.proofs.values.first_value.Given as goal

abbrev pub invariant-loop-entry : goal.invariant-loop-entry
invariant-loop-entry l = filter_map (entry_value l.spec l.name l.location l.k) l.binds ≡ filter_map (entry_value l.spec l.name l.location l.k) (drop l.entry-index l.binds)
