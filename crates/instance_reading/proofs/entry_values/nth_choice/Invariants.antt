use Rattle.std.proofs.Common.{◌≡◌, drop, filter, slice_get}
use Rattle.pattern_normal.specs.Skeletons.{is_choice_spot}
use Rattle.instance_reading.proofs.entry_values.nth_choice.Given as goal

abbrev pub invariant-loop-spot : goal.invariant-loop-spot
invariant-loop-spot l = slice_get (filter is_choice_spot l.spots) l.number ≡ slice_get (filter is_choice_spot (drop l.spot-index l.spots)) l.left
