use Rattle.std.proofs.Common.{◌≡◌}
use Rattle.application_measures.specs.Parts.{numbered}
use Rattle.application_measures.proofs.parts.numbered.Given as goal

abbrev pub invariant-loop-k : goal.invariant-loop-k
invariant-loop-k l = l.operands ≡ numbered l.k
