use Rattle.std.proofs.Common.{◌≡◌, ◌∷◌, take}
use Rattle.sled_parser.specs.declared.tree.PatternTree.{PatternTree}
use Rattle.tree_meaning.specs.Scopes.{declared_in}
use Rattle.arm_meaning.specs.Bindings.{AreBoundTogether, AreBoundApart}
use Rattle.arm_meaning.proofs.bindings.+bindings.Given as goal

abbrev pub invariant-together-loop-tree : goal.invariant-together-loop-tree
invariant-together-loop-tree l = AreBoundTogether (declared_in l.scope) (take l.tree-index l.trees) l.found

abbrev pub invariant-apart-loop-tree : goal.invariant-apart-loop-tree
invariant-apart-loop-tree l = (first : PatternTree) × ((l.trees ≡ first ∷ l.rest) × AreBoundApart (declared_in l.scope) (first ∷ take l.tree-index l.rest) l.found)
