use Rattle.std.proofs.Common.{◌≡◌, map, take}
use Rattle.tree_meaning.specs.NameTables.{table_names}
use Rattle.constructor_meaning.proofs.labels.table_of.Given as goal

abbrev pub invariant-loop-name : goal.invariant-loop-name
invariant-loop-name l = table_names l.table ≡ map (λ x. x.now) (take l.name-index l.names)
