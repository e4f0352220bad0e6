use Rattle.std.proofs.Common.{take}
use Rattle.pattern_normal.specs.Alternatives.{ArePairs}
use Rattle.pattern_normal.proofs.alternative.all_met.Given as goal

abbrev pub invariant-loop-first : goal.invariant-loop-first
invariant-loop-first l = ArePairs (take l.first-index l.firsts) l.seconds l.pairs
