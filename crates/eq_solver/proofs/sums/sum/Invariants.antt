use Rattle.std.proofs.Common.{◌≡◌, ◌*◌, ◌^◌, ◌+ℤ◌, drop}
use Rattle.sled_model.specs.Equations.{sum_of}
use Rattle.sled_model.specs.Linear.{IsWithin}
use Rattle.eq_solver.specs.Sums.{at, setting_from}
use Rattle.eq_solver.proofs.sums.sum.Given as goal

abbrev pub invariant-loop-term : goal.invariant-loop-term
invariant-loop-term l = record {
  value : l.total +ℤ sum_of (setting_from l.halves l.operands l.labels) (at l.fields) (drop l.term-index l.terms) ≡ sum_of (setting_from l.halves l.operands l.labels) (at l.fields) l.terms;
  bound : IsWithin (l.term-index * 2 ^ 50) l.total;
}
