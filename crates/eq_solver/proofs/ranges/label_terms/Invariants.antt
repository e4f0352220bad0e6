use Rattle.std.proofs.Common.{◌≡◌, ◌++◌, drop}
use Rattle.eq_solver.specs.Ranges.{label_terms}
use Rattle.eq_solver.proofs.ranges.label_terms.Given as goal

abbrev pub invariant-loop-term : goal.invariant-loop-term
invariant-loop-term l = l.found ++ label_terms (drop l.term-index l.terms) ≡ label_terms l.terms
