use Rattle.std.proofs.Common.{rules, arith}
use Rattle.std.proofs.lemmas.Grind.{common_steps}
use Rattle.sled_parser.specs.declared.class.Class.TheVariants as class
use Rattle.sled_parser.specs.Pieces.{sees}
use Rattle.sled_parser.specs.EquationGrammar.{many_from}
use Rattle.sled_parser.specs.DeclarationGrammar as spec
use Rattle.sled_parser.proofs.Turns.{one_more}
use Rattle.sled_parser.proofs.declaration.fields.Goals as goal

pub loop-turn-preserved : goal.loop-turn-preserved
unfolding many_from
loop-turn-preserved c =
    let e = one_more (λ n. many_from (sees class.Name) spec.field_of n c.loop-turn.found c.loop-turn.cursor) _ c.loop-turn._turn c.loop-turn-test.true c.loop-turn.invariant in
    first_of (search rules, grind (arith, common_steps))
