use Rattle.std.proofs.Common.{◌≡◌, map, take}
use Rattle.pattern_normal.specs.Cases.{case_of}
use Rattle.pattern_normal.proofs.case.all_cases.Given as goal

abbrev pub invariant-loop-alternative : goal.invariant-loop-alternative
invariant-loop-alternative l = l.cases ≡ map case_of (take l.alternative-index l.alternatives)
