use Rattle.std.proofs.Common.{ℕ, ◌≡◌, ◌<◌, slice_get, Some}
use Rattle.sled_model.specs.declared.constructor.OperandKind.{OperandKind}
use Rattle.eq_solver.specs.Values.{IsHeldBy}
use Rattle.eq_solver.proofs.values.are_held.Given as goal

abbrev pub invariant-loop-operand : goal.invariant-loop-operand
invariant-loop-operand l = (k : ℕ) (kind : OperandKind) → k < l.operand → slice_get l.kinds k ≡ Some kind → IsHeldBy l.targets k kind
