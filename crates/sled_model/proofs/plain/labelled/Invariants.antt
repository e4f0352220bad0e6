use Rattle.std.proofs.Common.{◌≡◌, map, take}
use Rattle.sled_model.specs.Results.{label_match}
use Rattle.sled_model.proofs.plain.labelled.Given as goal

abbrev pub invariant-loop-a : goal.invariant-loop-a
invariant-loop-a l = l.found ≡ map (label_match l.label l.at) (take l.a-index l.inner)
