use Rattle.std.proofs.Common.{ℕ, ◌≡◌, ◌<◌, [], slice_get, Some}
use Rattle.sled_model.specs.declared.constructor.Atom.TheVariants.{Name}
use Rattle.eq_solver.specs.declared.plan.Value.{Value}
use Rattle.eq_solver.specs.Sums.{at, setting_from}
use Rattle.eq_solver.specs.Given.{HasValue}
use Rattle.eq_solver.proofs.given.write_wholes.Given as goal

abbrev pub invariant-loop-number : goal.invariant-loop-number
invariant-loop-number l = record {
  has : (j : ℕ) (g : Value) → j < l.number → slice_get l.values j ≡ Some g → HasValue (setting_from l.halves [] l.labels) (at l.fields) (at l.out) g;
  kept : (k : ℕ) → ((j : ℕ) (g : Value) → slice_get l.values j ≡ Some g → g.target ≡ Name k → ⊥) → at l.out k ≡ at l.fn.out k;
}
