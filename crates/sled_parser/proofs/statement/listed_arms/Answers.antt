use Rattle.std.proofs.Common.{rules, arith}
use Rattle.std.proofs.lemmas.Grind.{common_steps}
use Rattle.sled_parser.specs.StatementGrammar.{arms_from}
use Rattle.sled_parser.proofs.Turns.{one_more}
use Rattle.sled_parser.proofs.statement.listed_arms.Goals as goal

pub loop-turn-preserved : goal.loop-turn-preserved
unfolding arms_from
loop-turn-preserved c =
    let e = one_more (λ n. arms_from c.args.depth n c.loop-turn.found c.loop-turn.cursor) _ c.loop-turn._turn c.loop-turn-test.true c.loop-turn.invariant in
    first_of (search rules, grind (arith, common_steps))
