use Rattle.std.proofs.Common.{◌≡◌, drop}
use Rattle.eq_solver.specs.Cells.{source_from}
use Rattle.eq_solver.proofs.cells.source.Given as goal

abbrev pub invariant-loop-operand : goal.invariant-loop-operand
invariant-loop-operand l = source_from l.operand (drop l.operand l.kinds) l.field ≡ source_from 0 l.kinds l.field
