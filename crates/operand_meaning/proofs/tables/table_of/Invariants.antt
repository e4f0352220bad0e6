use Rattle.std.proofs.Common.{◌≡◌, [], map, take}
use Rattle.tree_meaning.specs.Names.{merged}
use Rattle.tree_meaning.specs.NameTables.{table_names}
use Rattle.operand_meaning.proofs.tables.table_of.Given as goal

abbrev pub invariant-loop-name : goal.invariant-loop-name
invariant-loop-name l = table_names l.table ≡ merged [] (map (λ x. x.now) (take l.name-index l.names))
