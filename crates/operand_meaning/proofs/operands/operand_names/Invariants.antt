use Rattle.std.proofs.Common.{◌≡◌, map, take}
use Rattle.operand_meaning.specs.Operands as of
use Rattle.operand_meaning.proofs.operands.operand_names.Given as goal

abbrev pub invariant-loop-operand : goal.invariant-loop-operand
invariant-loop-operand l = map (λ x. x.now) l.names.items ≡ map of.operand_name (take l.operand-index l.operands)
