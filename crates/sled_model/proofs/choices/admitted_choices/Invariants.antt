use Rattle.std.proofs.Common.{◌≡◌, map, filter, take}
use Rattle.sled_model.specs.Results.{choice_match}
use Rattle.sled_model.specs.Admitted.{list_admits}
use Rattle.sled_model.specs.PatternContexts.{known_in}
use Rattle.sled_model.proofs.choices.admitted_choices.Given as goal

abbrev pub invariant-loop-a : goal.invariant-loop-a
invariant-loop-a l = l.found ≡ map (choice_match l.k.0 l.arguments) (filter (λ a. list_admits (known_in l.near) l.constructor a.binds 0 l.arguments) (take l.a-index l.bodies))
