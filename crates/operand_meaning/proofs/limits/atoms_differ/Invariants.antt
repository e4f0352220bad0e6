use Rattle.std.proofs.Common.{◌≡◌, map, drop}
use Rattle.operand_meaning.specs.Limits as of
use Rattle.operand_meaning.proofs.limits.atoms_differ.Given as goal

abbrev pub invariant-loop-i : goal.invariant-loop-i
invariant-loop-i l = of.atoms_differ (drop l.i (map (λ x. x.now) l.terms)) ≡ of.atoms_differ (map (λ x. x.now) l.terms)
