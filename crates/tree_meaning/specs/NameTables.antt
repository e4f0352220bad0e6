-- What a table of names holds.
use Rattle.std.specs.Prelude.{ℕ, List, map}
use Rattle.tree_meaning.specs.declared.names.NameTable.{NameTable}

-- the names in the order of their numbers
abbrev pub table_names : NameTable → List (List ℕ)
table_names t = map (λ x. x.now) t.names.keys
