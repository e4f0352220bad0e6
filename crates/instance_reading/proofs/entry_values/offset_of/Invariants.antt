use Rattle.std.proofs.Common.{◌≡◌, drop}
use Rattle.std.specs.List.{filter_map}
use Rattle.sled_model.specs.Instances.{first_or_zero}
use Rattle.instance_reading.specs.Entries.{spot_label}
use Rattle.instance_reading.proofs.entry_values.offset_of.Given as goal

abbrev pub invariant-loop-spot : goal.invariant-loop-spot
invariant-loop-spot l = first_or_zero (filter_map (spot_label l.label) l.spots) ≡ first_or_zero (filter_map (spot_label l.label) (drop l.spot-index l.spots))
