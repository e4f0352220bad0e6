use Rattle.std.proofs.Common.{◌≡◌, ◌++◌, length, reverse}
use Rattle.constructor_building.proofs.adding.reversed.Given as goal

abbrev pub invariant-loop-constructor : goal.invariant-loop-constructor
invariant-loop-constructor l = l.turned ++ reverse l.left ≡ reverse l.fn.constructors

abbrev pub decreases-loop-constructor : goal.decreases-loop-constructor
decreases-loop-constructor l = length l.left
