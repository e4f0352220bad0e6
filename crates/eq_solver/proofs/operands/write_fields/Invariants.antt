use Rattle.std.proofs.Common.{ℕ, ◌≡◌, ◌<◌}
use Rattle.eq_solver.specs.Sums.{at}
use Rattle.eq_solver.specs.Plans.{FitsSource, source_at}
use Rattle.eq_solver.specs.Operands.{IsOperandOf}
use Rattle.eq_solver.proofs.operands.write_fields.Given as goal

abbrev pub invariant-loop-cell : goal.invariant-loop-cell
invariant-loop-cell l = record {
  fits : (f : ℕ) → f < l.cell → FitsSource (at l.halves f) (at l.out) (at l.fields f) (source_at l.sources f);
  kept : (k : ℕ) → ((f : ℕ) → f < l.cell → IsOperandOf (source_at l.sources f) k → ⊥) → at l.out k ≡ at l.fn.out k;
}
