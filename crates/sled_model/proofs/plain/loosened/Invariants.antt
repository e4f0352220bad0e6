use Rattle.std.proofs.Common.{◌≡◌, map, take}
use Rattle.sled_model.specs.Results.{loose_match}
use Rattle.sled_model.proofs.plain.loosened.Given as goal

abbrev pub invariant-loop-a : goal.invariant-loop-a
invariant-loop-a l = l.found ≡ map loose_match (take l.a-index l.inner)
