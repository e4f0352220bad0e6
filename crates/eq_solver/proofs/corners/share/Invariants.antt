use Rattle.std.proofs.Common.{◌≡◌, ◌*◌, ◌^◌, ◌+ℤ◌, drop}
use Rattle.sled_model.specs.Linear.{IsWithin}
use Rattle.eq_solver.specs.Order.{share}
use Rattle.eq_solver.proofs.corners.share.Given as goal

abbrev pub invariant-loop-term : goal.invariant-loop-term
invariant-loop-term l = record {
  value : l.total +ℤ share l.half l.cell l.value (drop l.term-index l.terms) ≡ share l.half l.cell l.value l.terms;
  bound : IsWithin (l.term-index * 2 ^ 50) l.total;
}
