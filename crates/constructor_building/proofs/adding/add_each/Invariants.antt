use Rattle.std.proofs.Common.{length, reverse}
use Rattle.constructor_building.proofs.AddedLemmas.{IsAddedOf}
use Rattle.constructor_building.proofs.adding.add_each.Given as goal

abbrev pub invariant-loop-constructor : goal.invariant-loop-constructor
invariant-loop-constructor l = IsAddedOf l.fn.spec l.fn.constructors l.spec l.types (reverse l.left)

abbrev pub decreases-loop-constructor : goal.decreases-loop-constructor
decreases-loop-constructor l = length l.left
