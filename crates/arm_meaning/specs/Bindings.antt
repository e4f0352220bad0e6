-- What is answered of the names that the patterns of arms bind.
use Rattle.std.specs.Prelude.{◌≡◌, ◌&&◌, List, [], map}
use Rattle.std.specs.List.{list_all}
use Rattle.sled_parser.specs.declared.tree.PatternTree.{PatternTree}
use Rattle.tree_meaning.specs.Bindings.{union, are_apart, have_same_names}
use Rattle.tree_meaning.specs.NameTables.{table_names}
use Rattle.tree_meaning.specs.Scopes.{Declared}
use Rattle.arm_meaning.specs.declared.bindings.Bindings.{Bindings}
use Rattle.arm_meaning.specs.Bound.{bound, binds_once, sides_bind_alike}

-- what the pattern binds
pub record IsBindingsOf (declared : Declared) (tree : PatternTree) (b : Bindings) : Type 0 where
  pub names : table_names b.names ≡ bound declared tree
  pub once : b.once ≡ binds_once declared tree
  pub alike : b.alike ≡ sides_bind_alike declared tree

-- what patterns bind that stand side by side, in a chain or a conjunction
pub record AreBoundTogether (declared : Declared) (trees : List PatternTree) (b : Bindings) : Type 0 where
  pub names : table_names b.names ≡ union (map (bound declared) trees)
  pub once : b.once ≡ (list_all (binds_once declared) trees && are_apart [] (map (bound declared) trees))
  pub alike : b.alike ≡ list_all (sides_bind_alike declared) trees

-- what patterns bind that are the sides of a disjunction
pub record AreBoundApart (declared : Declared) (trees : List PatternTree) (b : Bindings) : Type 0 where
  pub names : table_names b.names ≡ union (map (bound declared) trees)
  pub once : b.once ≡ list_all (binds_once declared) trees
  pub alike : b.alike ≡ (list_all (sides_bind_alike declared) trees && have_same_names (map (bound declared) trees))
