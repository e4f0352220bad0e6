use Rattle.std.proofs.Common.{◌≡◌, map, take}
use Rattle.pattern_normal.specs.Alternatives.{label_alternative}
use Rattle.pattern_normal.proofs.alternative.labelled.Given as goal

abbrev pub invariant-loop-alternative : goal.invariant-loop-alternative
invariant-loop-alternative l = l.marked ≡ map (label_alternative l.label l.at) (take l.alternative-index l.alternatives)
