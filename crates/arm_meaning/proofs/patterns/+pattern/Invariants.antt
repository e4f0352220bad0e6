use Rattle.std.proofs.Common.{◌≡◌, ◌+◌, ◌*◌, length, map, take}
use Rattle.std.specs.List.{flat_map}
use Rattle.tree_meaning.specs.NameTables.{table_names}
use Rattle.tree_meaning.specs.Parts.{parts}
use Rattle.tree_meaning.specs.Scopes.{declared_in}
use Rattle.arm_meaning.specs.Patterns.{arm_pattern}
use Rattle.arm_meaning.proofs.patterns.+pattern.Given as goal

abbrev pub invariant-member_patterns-loop-member : goal.invariant-member_patterns-loop-member
invariant-member_patterns-loop-member l = l.made ≡ map (arm_pattern l.spec (declared_in l.scope) (table_names l.names)) (take l.member-index l.members)

abbrev pub decreases-member_patterns : goal.decreases-member_patterns
decreases-member_patterns l = 2 * length (flat_map parts l.members.now) + 1

abbrev pub decreases-boxed_pattern : goal.decreases-boxed_pattern
decreases-boxed_pattern l = 2 * length (parts l.tree.now) + 1

abbrev pub decreases-arm_pattern : goal.decreases-arm_pattern
decreases-arm_pattern l = 2 * length (parts l.tree.now)
