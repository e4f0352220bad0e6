use Rattle.std.proofs.Common.{◌≡◌, map, take}
use Rattle.tree_meaning.specs.Names.{merged, are_new}
use Rattle.tree_meaning.specs.NameTables.{table_names}
use Rattle.tree_meaning.proofs.names.NameTable.merge.Given as goal

abbrev pub invariant-loop-name : goal.invariant-loop-name
invariant-loop-name l = record {
  names : table_names l.self ≡ merged (table_names l.initial.self) (map (λ x. x.now) (take l.name-index l.name-items));
  new : l.all_new ≡ are_new (table_names l.initial.self) (map (λ x. x.now) (take l.name-index l.name-items));
}
