use Rattle.std.proofs.Common.{◌≡◌, map, take}
use Rattle.eq_solver.specs.Cells.{source_from}
use Rattle.eq_solver.proofs.cells.sources.Given as goal

abbrev pub invariant-loop-field : goal.invariant-loop-field
invariant-loop-field l = l.found ≡ map (source_from 0 l.kinds) (take l.field-index l.fields)
