use Rattle.std.proofs.Common.{◌≡◌, map, take}
use Rattle.pattern_normal.specs.Alternatives.{loose_alternative}
use Rattle.pattern_normal.proofs.alternative.loosened.Given as goal

abbrev pub invariant-loop-alternative : goal.invariant-loop-alternative
invariant-loop-alternative l = l.loose ≡ map (loose_alternative) (take l.alternative-index l.alternatives)
