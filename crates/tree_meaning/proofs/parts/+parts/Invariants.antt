-- The parts of the trees that were passed stand behind those that were there.
use Rattle.std.proofs.Common.{◌≡◌, ◌++◌, map, take}
use Rattle.std.specs.List.{flat_map}
use Rattle.tree_meaning.specs.Parts as of
use Rattle.tree_meaning.proofs.parts.+parts.Given as goal

abbrev pub invariant-push_all_parts-loop-tree : goal.invariant-push_all_parts-loop-tree
invariant-push_all_parts-loop-tree l =
    map (λ x. x.now) l.parts.items ≡ map (λ x. x.now) l.fn.parts.items ++ flat_map of.parts (take l.tree-index l.trees)
