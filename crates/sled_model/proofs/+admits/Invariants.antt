use Rattle.std.proofs.Common.{◌≡◌, drop}
use Rattle.sled_model.specs.Kinds.{are_of_kinds}
use Rattle.sled_model.proofs.+admits.Given as goal

abbrev pub invariant-admits::are_of_kinds-loop-operand : goal.invariant-admits::are_of_kinds-loop-operand
invariant-admits::are_of_kinds-loop-operand l = are_of_kinds l.spec l.kinds l.operands ≡ are_of_kinds l.spec l.left (drop l.operand-index l.operands)
