use Rattle.std.proofs.Common.{◌≡◌, take}
use Rattle.tree_meaning.specs.Patterns.{extended_by}
use Rattle.tree_meaning.proofs.patterns.all_extended.Given as goal

abbrev pub invariant-loop-list : goal.invariant-loop-list
invariant-loop-list l = l.made.items ≡ extended_by (take l.list-index l.chosen) l.patterns
