use Rattle.std.proofs.Common.{◌≡◌, ◌-◌}
use Rattle.sled_parser.specs.EquationGrammar as spec
use Rattle.sled_parser.proofs.equation.terms.Given as goal

abbrev pub invariant-loop-turn : goal.invariant-loop-turn
invariant-loop-turn l = spec.terms_after l.fn.first l.fn.cursor ≡ spec.many_from spec.sees_sign spec.later_term (l._turn-end - l._turn) l.found l.cursor
