use Rattle.std.proofs.Common.{ℕ, ◌≡◌, length, slice_get, Some}
use Rattle.sled_model.specs.declared.constructor.Equation.{Equation}
use Rattle.eq_solver.specs.declared.plan.Value.{Value}
use Rattle.eq_solver.specs.Ranges.{IsValueOf}
use Rattle.eq_solver.proofs.values.each_value.Given as goal

abbrev pub invariant-loop-number : goal.invariant-loop-number
invariant-loop-number l = record {
  size : length l.values ≡ l.number;
  each : (i : ℕ) (e : Equation) (g : Value) → slice_get l.equations i ≡ Some e → slice_get l.values i ≡ Some g → IsValueOf l.tokens e g;
}
