use Rattle.std.proofs.Common.{◌≡◌, take}
use Rattle.sled_model.proofs.+instance_copy.Given as goal

-- those so far are copied
abbrev pub invariant-copies::copy_operands-loop-operand : goal.invariant-copies::copy_operands-loop-operand
invariant-copies::copy_operands-loop-operand l = l.copied ≡ take l.operand-index l.operands
