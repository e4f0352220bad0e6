use Rattle.std.proofs.Common.{◌≡◌, ◌+◌, ◌*◌, ◌∷◌, [], length, map, take}
use Rattle.std.specs.List.{fold, flat_map}
use Rattle.tree_meaning.specs.NameTables.{table_names}
use Rattle.tree_meaning.specs.Scopes.{declared_in}
use Rattle.tree_meaning.specs.Parts.{parts}
use Rattle.tree_meaning.specs.Patterns.{extended_by, patterns_of}
use Rattle.tree_meaning.proofs.patterns.+patterns.Given as goal

abbrev pub invariant-choices_of-loop-member : goal.invariant-choices_of-loop-member
invariant-choices_of-loop-member l = l.chosen.items ≡ fold extended_by ([] ∷ []) (map (patterns_of (declared_in l.scope) (table_names l.names)) (take l.member-index l.members))

abbrev pub decreases-choices_of : goal.decreases-choices_of
decreases-choices_of l = 2 * length (flat_map parts l.members.now) + 1

abbrev pub decreases-tree_patterns : goal.decreases-tree_patterns
decreases-tree_patterns l = 2 * length (parts l.tree.now)
