use Rattle.std.proofs.Common.{rules, arith}
use Rattle.std.proofs.lemmas.Grind.{common_steps}
use Rattle.sled_parser.specs.declared.class.Class.TheVariants as class
use Rattle.sled_parser.specs.Grammar.{chain_from}
use Rattle.sled_parser.specs.DeclarationGrammar.{operand_of}
use Rattle.sled_parser.proofs.Turns.{one_more}
use Rattle.sled_parser.proofs.declaration.operand_chain.Goals as goal

pub loop-turn-preserved : goal.loop-turn-preserved
unfolding chain_from
loop-turn-preserved c =
    let e = one_more (λ n. chain_from operand_of class.Comma n c.loop-turn.found c.loop-turn.cursor) _ c.loop-turn._turn c.loop-turn-test.true c.loop-turn.invariant in
    first_of (search rules, grind (arith, common_steps))
