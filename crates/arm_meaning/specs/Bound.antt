-- The names that the pattern of an arm binds: those of its bare fields, its labels, and the names that stand for operands in its
-- applications.
use Rattle.std.specs.Prelude.{ℕ, Bool, true, ◌&&◌, List, [], ◌∷◌, ◌++◌}
use Rattle.std.specs.List.{flat_map}
use Rattle.sled_parser.specs.declared.tree.ArgumentTree.{ArgumentTree, Row_of-ArgumentTree, end_of-ArgumentTree, more_of-ArgumentTree}
use Rattle.sled_parser.specs.declared.tree.ArgumentTree.TheVariants.{Name, Inner'}
use Rattle.sled_parser.specs.declared.tree.PatternTree.{PatternTree, Row_of-PatternTree, end_of-PatternTree, more_of-PatternTree}
use Rattle.sled_parser.specs.declared.tree.PatternTree.TheVariants.{Either', Chain', Both', Labelled', Loose', Group', Apply}
use Rattle.tree_meaning.specs.Bindings as plain
use Rattle.tree_meaning.specs.Bindings.{union, are_apart, have_same_names}
use Rattle.tree_meaning.specs.Names.{merged, are_distinct}
use Rattle.tree_meaning.specs.Scopes.{Declared}

abbrev mutual
  -- the names in an argument, from left to right: `_` is none
  pub argument_names : ArgumentTree → List (List ℕ)
  argument_names (Name w) = w ∷ []
  argument_names (Inner' name s arguments) = row_names arguments
  argument_names _ = []

  pub row_names : {n : _} → Row_of-ArgumentTree n → List (List ℕ)
  row_names end_of-ArgumentTree = []
  row_names (more_of-ArgumentTree a arguments) = argument_names a ++ row_names arguments

-- the names in the arguments, from left to right
abbrev pub names_in : List ArgumentTree → List (List ℕ)
names_in arguments = flat_map argument_names arguments

abbrev mutual
  -- the names that the pattern binds in one alternative or another, each once, in the order in which they first stand there
  pub bound : Declared → PatternTree → List (List ℕ)
  bound declared (Apply name arguments) = merged [] (names_in arguments)
  bound declared (Labelled' l s t) = union ((l ∷ []) ∷ row_bound declared t)
  bound declared (Either' s ts) = union (row_bound declared ts)
  bound declared (Chain' s ts) = union (row_bound declared ts)
  bound declared (Both' s ts) = union (row_bound declared ts)
  bound declared (Loose' s t) = union (row_bound declared t)
  bound declared (Group' s t) = union (row_bound declared t)
  bound declared t = plain.bound declared t

  -- those of each pattern of a row
  pub row_bound : {n : _} → Declared → Row_of-PatternTree n → List (List (List ℕ))
  row_bound declared end_of-PatternTree = []
  row_bound declared (more_of-PatternTree t ts) = bound declared t ∷ row_bound declared ts

abbrev mutual
  -- no alternative of the pattern binds a name twice: what stands side by side, in a conjunction, a chain or the arguments of an
  -- application, binds different names. `add(rd, _) & rd` and `add(x, x)` bind one twice.
  pub binds_once : Declared → PatternTree → Bool
  binds_once declared (Apply name arguments) = are_distinct (names_in arguments)
  binds_once declared (Labelled' l s t) = row_binds_once declared t && are_apart (l ∷ []) (row_bound declared t)
  binds_once declared (Either' s ts) = row_binds_once declared ts
  binds_once declared (Chain' s ts) = row_binds_once declared ts && are_apart [] (row_bound declared ts)
  binds_once declared (Both' s ts) = row_binds_once declared ts && are_apart [] (row_bound declared ts)
  binds_once declared (Loose' s t) = row_binds_once declared t
  binds_once declared (Group' s t) = row_binds_once declared t
  binds_once declared _ = true

  pub row_binds_once : {n : _} → Declared → Row_of-PatternTree n → Bool
  row_binds_once declared end_of-PatternTree = true
  row_binds_once declared (more_of-PatternTree t ts) = binds_once declared t && row_binds_once declared ts

abbrev mutual
  -- in each disjunction in the pattern, all sides bind the same names
  pub sides_bind_alike : Declared → PatternTree → Bool
  sides_bind_alike declared (Labelled' l s t) = row_binds_alike declared t
  sides_bind_alike declared (Either' s ts) = row_binds_alike declared ts && have_same_names (row_bound declared ts)
  sides_bind_alike declared (Chain' s ts) = row_binds_alike declared ts
  sides_bind_alike declared (Both' s ts) = row_binds_alike declared ts
  sides_bind_alike declared (Loose' s t) = row_binds_alike declared t
  sides_bind_alike declared (Group' s t) = row_binds_alike declared t
  sides_bind_alike declared _ = true

  pub row_binds_alike : {n : _} → Declared → Row_of-PatternTree n → Bool
  row_binds_alike declared end_of-PatternTree = true
  row_binds_alike declared (more_of-PatternTree t ts) = sides_bind_alike declared t && row_binds_alike declared ts
