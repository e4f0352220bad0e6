use Rattle.std.proofs.Common.{◌≡◌, true, map, take}
use Rattle.tree_meaning.specs.Names.{are_distinct}
use Rattle.tree_meaning.specs.NameTables.{table_names}
use Rattle.tree_meaning.proofs.once.are_distinct.Given as goal

abbrev pub invariant-loop-name : goal.invariant-loop-name
invariant-loop-name l = record {
  names : table_names l.table ≡ map (λ x. x.now) (take l.name-index l.names);
  distinct : are_distinct (table_names l.table) ≡ true;
}
