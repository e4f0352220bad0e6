use Rattle.std.proofs.Common.{◌≡◌, ◌*◌, ◌^◌, ◌+ℤ◌, drop}
use Rattle.sled_model.specs.Equations.{sum_of}
use Rattle.sled_model.specs.Linear.{IsWithin}
use Rattle.eq_solver.specs.Ranges.{halves_of, still, most_at}
use Rattle.eq_solver.proofs.ranges.most_of.Given as goal

abbrev pub invariant-loop-term : goal.invariant-loop-term
invariant-loop-term l = record {
  value : l.total +ℤ sum_of (still (halves_of l.tokens l.unknowns)) (most_at (halves_of l.tokens l.unknowns) l.terms) (drop l.term-index l.terms)
      ≡ sum_of (still (halves_of l.tokens l.unknowns)) (most_at (halves_of l.tokens l.unknowns) l.terms) l.terms;
  bound : IsWithin (l.term-index * 2 ^ 50) l.total;
}
