use Rattle.std.proofs.Common.{List, [], ◌∷◌, ◌++◌, get_or, take, arith, sym, subst, ◌∙◌}
use Rattle.std.proofs.lemmas.List.{take_more, take_all}
use Rattle.token_bits.specs.Tokens.{width_of}
use Rattle.bit_cases.specs.declared.byte_case.ByteCase.{ByteCase}
use Rattle.relation_cases.specs.declared.blocks.Block.{Block}
use Rattle.relation_cases.specs.Blocks.{AreBlocksOf}
use Rattle.relation_cases.proofs.Counted.{AreCasesOf, one_more, cases_met, cases_count}
use Rattle.relation_cases.proofs.cases.limit_cases.Goals as goal

pub loop-block-preserved : goal.loop-block-preserved
loop-block-preserved c =
    let a = c.args in let i = c.loop-block.block-index in let blocks = c.as_slice-block-items.result.now in
    let P : List Block → Type 0 = λ bs. AreCasesOf a.class a.field a.at bs c.push.new.self in
    let Q : List ByteCase → Type 0 = AreCasesOf a.class a.field a.at (take i blocks ++ get_or blocks i _ ∷ []) in
    subst P (sym (take_more blocks i _ (omega arith)))
    (subst Q (sym c.in_ok-push.ensures.ok) (one_more a.class a.field a.at (take i blocks) c.loop-block.cases _ c.block_case.result c.loop-block.invariant c.block_case.ensures.met c.block_case.ensures.len))

pub returns : goal.returns
returns c =
    let a = c.args in let i = c.loop-block.invariant in
    let blocks = c.as_slice-block-items.result.now in
    let P : List Block → Type 0 = λ bs. AreCasesOf a.class a.field a.at bs c.loop-block.cases in
    let all : AreCasesOf a.class a.field a.at c.in_ok-blocks.blocks c.loop-block.cases = subst P (take_all c.loop-block.block-index blocks (omega arith) ∙ c.as_slice-block-items.ensures) i in
    let are : AreBlocksOf a.relation (width_of a.field) a.limit c.in_ok-blocks.blocks = c.in_ok-blocks.ensures in record {
      met = cases_met a.field a.relation a.limit c.in_ok-blocks.blocks are a.class a.at c.loop-block.cases all;
      len = i.len;
      count = cases_count a.field a.relation a.limit c.in_ok-blocks.blocks are a.class a.at c.loop-block.cases all;
    }
