use Rattle.std.proofs.Common.{arith, sym, subst}
use Rattle.std.proofs.lemmas.Result.{IfOk-weaker}
use Rattle.sled_model.specs.declared.pattern.Relation.TheVariants.{AtLeast}
use Rattle.relation_cases.specs.Blocks.{AreBlocksOf}
use Rattle.relation_cases.proofs.Whole.{at_least_first}
use Rattle.relation_cases.proofs.blocks.at_least_blocks.Goals as goal

pub returns-then-limit-eq0 : goal.returns-then-limit-eq0
returns-then-limit-eq0 c =
    IfOk-weaker c.one_block.result _ (AreBlocksOf AtLeast c.args.width c.args.limit)
    (λ blocks is. subst (AreBlocksOf AtLeast c.args.width c.args.limit) (sym is) (at_least_first c.args.width c.args.limit (omega arith))) c.one_block.ensures
