use Rattle.std.proofs.Common.{take}
use Rattle.constructor_meaning.specs.Measured.{EachMeasured}
use Rattle.constructor_meaning.proofs.forming.measure_each.Given as goal

abbrev pub invariant-loop-body : goal.invariant-loop-body
invariant-loop-body l = EachMeasured l.spec l.kinds (take l.body-index l.bodies) l.measures.items
