use Rattle.relation_cases.proofs.Parted.{IsParted}
use Rattle.relation_cases.proofs.blocks.parted_blocks.Given as goal

abbrev pub invariant-loop-bit : goal.invariant-loop-bit
invariant-loop-bit l = IsParted l.relation l.width l.limit l.bit l.blocks
