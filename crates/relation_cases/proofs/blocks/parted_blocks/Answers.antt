use Rattle.std.proofs.Common.{List, ◌+◌, sym, subst, arith}
use Rattle.relation_cases.specs.declared.blocks.Block.{Block}
use Rattle.relation_cases.proofs.Parted.{IsParted, parted_next, parted_all_bits}
use Rattle.relation_cases.proofs.blocks.parted_blocks.Goals as goal

pub loop-bit-preserved : goal.loop-bit-preserved
loop-bit-preserved c =
    let width = c.args.width in let limit = c.args.limit in
    let P : List Block → Type 0 = IsParted c.args.relation width limit (c.loop-bit.bit + 1) in
    subst P (sym (c.in_ok-push_parted.ensures)) (parted_next c.args.relation c.requires.strict width limit c.loop-bit.bit c.loop-bit.blocks c.requires.limit (omega arith) c.loop-bit.invariant)

pub returns : goal.returns
returns c = parted_all_bits c.args.relation c.args.width c.args.limit c.loop-bit.bit c.loop-bit.blocks c.requires.limit (omega arith) c.loop-bit.invariant
