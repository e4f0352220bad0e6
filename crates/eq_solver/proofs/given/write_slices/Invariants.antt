use Rattle.std.proofs.Common.{ℕ, [], drop}
use Rattle.eq_solver.specs.Sums.{at, setting_from}
use Rattle.eq_solver.specs.Given.{pieces_of}
use Rattle.eq_solver.proofs.SlicesWritten.{IsPartlyMade}
use Rattle.eq_solver.proofs.given.write_slices.Given as goal

abbrev pub invariant-loop-number : goal.invariant-loop-number
invariant-loop-number l =
    (k : ℕ) → IsPartlyMade (pieces_of (setting_from l.halves [] l.labels) (at l.fields) l.values k l.numbers) (pieces_of (setting_from l.halves [] l.labels) (at l.fields) l.values k (drop l.number-index l.numbers)) (at l.fn.out k) (at l.out k)
