use Rattle.std.proofs.Common.{◌≡◌, map, take}
use Rattle.eq_solver.specs.Plans.{is_hidden_source}
use Rattle.eq_solver.proofs.cells.hidden.Given as goal

abbrev pub invariant-loop-source : goal.invariant-loop-source
invariant-loop-source l = l.found ≡ map is_hidden_source (take l.source-index l.sources)
