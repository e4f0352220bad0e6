use Rattle.std.proofs.Common.{◌≡◌, ◌-◌, ◌^◌, min, map, take}
use Rattle.tree_meaning.specs.Patterns.{choices_among}
use Rattle.tree_meaning.proofs.choices.choice_count.Given as goal

abbrev pub invariant-loop-part : goal.invariant-loop-part
invariant-loop-part l = l.count ≡ min (choices_among (map (λ part. part.now) (take l.part-index l.parts))) (2 ^ 64 - 1)
