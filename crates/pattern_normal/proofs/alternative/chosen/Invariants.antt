use Rattle.std.proofs.Common.{◌≡◌, map, take}
use Rattle.pattern_normal.specs.Alternatives.{choice_alternative}
use Rattle.pattern_normal.proofs.alternative.chosen.Given as goal

abbrev pub invariant-loop-alternative : goal.invariant-loop-alternative
invariant-loop-alternative l = l.choices ≡ map (choice_alternative l.k l.arguments) (take l.alternative-index l.alternatives)
