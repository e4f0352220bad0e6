use Rattle.std.proofs.Common.{◌≡◌, [], length}
use Rattle.arm_actions.specs.Actions.{behind, outside}
use Rattle.tree_meaning.specs.NameTables.{table_names}
use Rattle.arm_actions.proofs.action.action_pieces.Given as goal

abbrev pub decreases-text : goal.decreases-text
decreases-text l = length l.rest

abbrev pub invariant-text : goal.invariant-text
invariant-text l = behind l.found (outside (table_names l.names) [] l.rest) ≡ outside (table_names l.names) [] l.text
