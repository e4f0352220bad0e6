use Rattle.std.proofs.Common.{◌≡◌, ◌++◌, drop, filter}
use Rattle.sled_model.specs.declared.constructor.Term.{Term}
use Rattle.sled_model.specs.Solved.{is_operand_atom}
use Rattle.eq_solver.proofs.targets.operand_terms.Given as goal

abbrev pub invariant-loop-term : goal.invariant-loop-term
invariant-loop-term l = l.found ++ filter (λ (t : Term). is_operand_atom t.atom) (drop l.term-index l.equation.terms) ≡ filter (λ (t : Term). is_operand_atom t.atom) l.equation.terms
