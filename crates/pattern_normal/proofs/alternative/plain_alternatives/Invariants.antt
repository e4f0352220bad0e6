use Rattle.std.proofs.Common.{◌≡◌, map, take}
use Rattle.pattern_normal.specs.Alternatives.{plain_alternative}
use Rattle.pattern_normal.proofs.alternative.plain_alternatives.Given as goal

abbrev pub invariant-loop-bits : goal.invariant-loop-bits
invariant-loop-bits l = l.plain ≡ map (plain_alternative) (take l.bits-index l.conditions)
