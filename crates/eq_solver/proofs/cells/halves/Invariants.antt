use Rattle.std.proofs.Common.{◌≡◌, map, take}
use Rattle.sled_model.specs.Equations.{half_of}
use Rattle.eq_solver.proofs.cells.halves.Given as goal

abbrev pub invariant-loop-field : goal.invariant-loop-field
invariant-loop-field l = l.found ≡ map (half_of l.tokens) (take l.field-index l.fields)
