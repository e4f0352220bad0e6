use Rattle.std.proofs.Common.{◌≡◌, ◌++◌, take}
use Rattle.std.specs.List.{flat_map}
use Rattle.sled_model.specs.Linear.{labels_in}
use Rattle.instance_reading.proofs.body_parts.+labels.Given as goal

abbrev pub invariant-push_all_labels-loop-part : goal.invariant-push_all_labels-loop-part
invariant-push_all_labels-loop-part l = l.found ≡ l.initial.found ++ flat_map labels_in (take l.part-index l.parts)
