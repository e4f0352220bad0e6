use Rattle.std.proofs.Common.{◌≡◌, true, map, take}
use Rattle.std.specs.List.{list_all}
use Rattle.tree_meaning.specs.Names.{is_among}
use Rattle.tree_meaning.specs.NameTables.{table_names}
use Rattle.tree_meaning.proofs.names.NameTable.is_within.Given as goal

abbrev pub invariant-loop-name : goal.invariant-loop-name
invariant-loop-name l = list_all (is_among (table_names l.other)) (map (λ x. x.now) (take l.name-index l.name-items)) ≡ true
