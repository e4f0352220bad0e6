use Rattle.std.proofs.Common.{◌≡◌, ◌++◌, [], map, take}
use Rattle.sled_model.specs.Results.{choice_match}
use Rattle.sled_model.proofs.choices.push_choices.Given as goal

abbrev pub invariant-loop-a : goal.invariant-loop-a
invariant-loop-a l = l.found ≡ l.initial.found ++ map (choice_match l.k []) (take l.a-index l.bodies)
