use Rattle.std.proofs.Common.{◌≡◌, ◌++◌, map, take}
use Rattle.asm_text.specs.Instances.{joined, operand_text}
use Rattle.asm_text.proofs.instances.+write.Given as goal

-- those so far are written
abbrev pub invariant-write_operands-loop-number : goal.invariant-write_operands-loop-number
invariant-write_operands-loop-number l = l.text.items ≡ l.initial.text.items ++ joined (map (operand_text l.spec) (take l.number l.operands))
