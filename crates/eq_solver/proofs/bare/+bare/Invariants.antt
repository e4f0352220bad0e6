use Rattle.std.proofs.Common.{◌≡◌, ◌++◌, take}
use Rattle.std.specs.List.{flat_map}
use Rattle.sled_model.specs.SolvingOrder.{bare_fields}
use Rattle.eq_solver.proofs.bare.+bare.Given as goal

abbrev pub invariant-add_fields_of-loop-part : goal.invariant-add_fields_of-loop-part
invariant-add_fields_of-loop-part l = l.found ≡ l.initial.found ++ flat_map bare_fields (take l.part-index l.parts)
