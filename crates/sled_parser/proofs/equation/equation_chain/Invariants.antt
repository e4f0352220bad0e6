use Rattle.std.proofs.Common.{◌≡◌, ◌-◌}
use Rattle.sled_parser.specs.declared.class.Class.TheVariants as class
use Rattle.sled_parser.specs.Grammar.{chain, chain_from}
use Rattle.sled_parser.specs.EquationGrammar as spec
use Rattle.sled_parser.proofs.equation.equation_chain.Given as goal

abbrev pub invariant-loop-turn : goal.invariant-loop-turn
invariant-loop-turn l = chain spec.equation_of class.Comma l.fn.cursor ≡ chain_from spec.equation_of class.Comma (l._turn-end - l._turn) l.found l.cursor
