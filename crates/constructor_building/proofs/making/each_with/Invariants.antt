use Rattle.std.proofs.Common.{◌≡◌, map, take}
use Rattle.tree_meaning.specs.Scopes.{declared_in}
use Rattle.constructor_meaning.specs.Constructing.{constructing}
use Rattle.constructor_building.specs.Building.{each_with}
use Rattle.constructor_building.proofs.making.each_with.Given as goal

abbrev pub invariant-loop-i : goal.invariant-loop-i
invariant-loop-i l = l.made ≡ each_with (declared_in l.scope) (constructing l.tree) l.result_type (take l.i (map (λ x. x.now) l.names)) (take l.i l.bodies)
