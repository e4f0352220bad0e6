use Rattle.std.proofs.Common.{◌≡◌, map, take}
use Rattle.eq_solver.specs.declared.plan.Value.{Value}
use Rattle.eq_solver.proofs.values.targets.Given as goal

abbrev pub invariant-loop-number : goal.invariant-loop-number
invariant-loop-number l = l.found ≡ map (λ (g : Value). g.target) (take l.number l.values)
