use Rattle.std.proofs.Common.{◌≡◌, map, filter, take}
use Rattle.std.specs.List.{flat_map}
use Rattle.sled_model.specs.Results.{both_match, agrees}
use Rattle.sled_model.proofs.plain.all_both.Given as goal

abbrev pub invariant-loop-a : goal.invariant-loop-a
invariant-loop-a l = l.found ≡ flat_map (λ a. map (both_match a) (filter (agrees a) l.seconds)) (take l.a-index l.firsts)
