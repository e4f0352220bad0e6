use Rattle.std.proofs.Common.{◌≡◌, take}
use Rattle.operand_meaning.specs.Operands.{operand_names}
use Rattle.constructor_building.proofs.making.names_of.Given as goal

abbrev pub invariant-loop-operand : goal.invariant-loop-operand
invariant-loop-operand l = l.names ≡ operand_names (take l.operand-index l.operands)
