use Rattle.std.proofs.Common.{take}
use Rattle.application_measures.specs.Arms.{ArePartsOf, AreOperandsOf}
use Rattle.application_measures.proofs.measures.+measures.Given as goal

abbrev pub invariant-parts_of-loop-member : goal.invariant-parts_of-loop-member
invariant-parts_of-loop-member l = ArePartsOf l.spec (take l.member-index l.members) l.parts

abbrev pub invariant-operands_of-loop-at : goal.invariant-operands_of-loop-at
invariant-operands_of-loop-at l = AreOperandsOf l.spec l.kinds (take l.at l.arguments) l.operands
