use Rattle.std.proofs.Common.{◌≡◌, ◌++◌, map, filter, take}
use Rattle.sled_model.specs.Results.{both_match, agrees}
use Rattle.sled_model.proofs.plain.push_both.Given as goal

abbrev pub invariant-loop-b : goal.invariant-loop-b
invariant-loop-b l = l.found ≡ l.initial.found ++ map (both_match l.a) (filter (agrees l.a) (take l.b-index l.seconds))
