use Rattle.std.proofs.Common.{◌≡◌, ◌++◌, map, take}
use Rattle.sled_model.specs.Results.{chain_match}
use Rattle.sled_model.proofs.plain.push_chained.Given as goal

abbrev pub invariant-loop-b : goal.invariant-loop-b
invariant-loop-b l = l.found ≡ l.initial.found ++ map (chain_match l.a) (take l.b-index l.seconds)
