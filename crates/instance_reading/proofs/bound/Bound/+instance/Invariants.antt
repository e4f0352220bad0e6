use Rattle.std.proofs.Common.{◌+◌, ◌*◌, take}
use Rattle.instance_reading.specs.Bound.{entries_of, IfDeclared}
use Rattle.instance_reading.specs.Operands.{AreOperandsFrom}
use Rattle.instance_reading.proofs.bound.Bound.+instance.Given as goal

abbrev pub invariant-operands-loop-operand : goal.invariant-operands-loop-operand
invariant-operands-loop-operand l = IfDeclared l.self (λ c. AreOperandsFrom l.self.place.spec.now l.self.place.location c (entries_of l.self) l.numbers 0 (take l.operand c.operands) l.operands)

abbrev pub decreases-operand : goal.decreases-operand
decreases-operand l = 3 * l.self.now.constructor.0

abbrev pub decreases-operands : goal.decreases-operands
decreases-operands l = 3 * l.self.now.constructor.0 + 1

abbrev pub decreases-instance : goal.decreases-instance
decreases-instance l = 3 * l.self.now.constructor.0 + 2
