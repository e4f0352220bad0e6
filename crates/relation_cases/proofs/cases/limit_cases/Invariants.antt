use Rattle.std.proofs.Common.{take}
use Rattle.relation_cases.proofs.Counted.{AreCasesOf}
use Rattle.relation_cases.proofs.cases.limit_cases.Given as goal

abbrev pub invariant-loop-block : goal.invariant-loop-block
invariant-loop-block l = AreCasesOf l.class l.field l.at (take l.block-index l.block-items) l.cases
