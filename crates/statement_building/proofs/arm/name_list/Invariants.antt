use Rattle.std.proofs.Common.{◌≡◌, take}
use Rattle.tree_meaning.specs.NameTables.{table_names}
use Rattle.statement_building.proofs.arm.name_list.Given as goal

abbrev pub invariant-loop-name : goal.invariant-loop-name
invariant-loop-name l = l.list ≡ take l.name-index (table_names l.names)
