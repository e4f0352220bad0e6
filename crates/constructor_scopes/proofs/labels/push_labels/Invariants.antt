use Rattle.std.proofs.Common.{◌≡◌, ◌++◌, map, take}
use Rattle.std.specs.List.{flat_map}
use Rattle.tree_meaning.specs.Parts.{part_labels}
use Rattle.constructor_scopes.proofs.labels.push_labels.Given as goal

abbrev pub invariant-loop-part : goal.invariant-loop-part
invariant-loop-part l = map (λ x. x.now) l.found.items ≡ map (λ x. x.now) l.fn.found.items ++ flat_map (λ x. part_labels x.now) (take l.part-index l.parts)
