use Rattle.std.proofs.Common.{◌≡◌, map, filter, take}
use Rattle.pattern_normal.specs.Surroundings.{around}
use Rattle.pattern_normal.specs.Alternatives.{choice_alternative, is_admitted}
use Rattle.pattern_normal.proofs.admitted.admitted_choices.Given as goal

abbrev pub invariant-loop-body : goal.invariant-loop-body
invariant-loop-body l = l.choices ≡ map (choice_alternative l.k.0 l.arguments) (filter (is_admitted (around l.near) l.constructor l.arguments) (take l.body-index l.bodies))
