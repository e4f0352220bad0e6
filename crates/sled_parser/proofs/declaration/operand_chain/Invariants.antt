use Rattle.std.proofs.Common.{◌≡◌, ◌-◌}
use Rattle.sled_parser.specs.declared.class.Class.TheVariants as class
use Rattle.sled_parser.specs.Grammar.{chain, chain_from}
use Rattle.sled_parser.specs.DeclarationGrammar as spec
use Rattle.sled_parser.proofs.declaration.operand_chain.Given as goal

abbrev pub invariant-loop-turn : goal.invariant-loop-turn
invariant-loop-turn l = chain spec.operand_of class.Comma l.fn.cursor ≡ chain_from spec.operand_of class.Comma (l._turn-end - l._turn) l.found l.cursor
