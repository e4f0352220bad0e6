use Rattle.std.proofs.Common.{arith, sym, subst}
use Rattle.std.proofs.lemmas.Nat.{one_shl}
use Rattle.std.proofs.lemmas.Result.{IfOk-weaker}
use Rattle.sled_model.specs.declared.pattern.Relation.TheVariants.{AtMost}
use Rattle.relation_cases.specs.Blocks.{AreBlocksOf}
use Rattle.relation_cases.proofs.Whole.{at_most_last, at_most_from}
use Rattle.relation_cases.proofs.blocks.at_most_blocks.Goals as goal

pub returns-then-from-width : goal.returns-then-from-width
returns-then-from-width c =
    IfOk-weaker c.one_block.result _ (AreBlocksOf AtMost c.args.width c.args.limit) (λ blocks is. subst (AreBlocksOf AtMost c.args.width c.args.limit) (sym is) (at_most_last c.args.width c.args.limit (omega (arith, one_shl c.args.width 64 (omega arith))))) c.one_block.ensures

pub returns-else-from-width : goal.returns-else-from-width
returns-else-from-width c = IfOk-weaker c.parted_blocks.result _ (AreBlocksOf AtMost c.args.width c.args.limit) (at_most_from c.args.width c.args.limit) c.parted_blocks.ensures
