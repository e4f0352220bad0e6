-- The names that a pattern binds: those of its bare fields and of its operands, and its labels.
use Rattle.std.specs.Prelude.{ℕ, Bool, true, false, ◌&&◌, List, [], ◌∷◌, fold, if◌then◌else◌}
use Rattle.std.specs.List.{list_all}
use Rattle.std.specs.Option.{option_map_or}
use Rattle.sled_parser.specs.declared.tree.PatternTree.{PatternTree, Row_of-PatternTree, end_of-PatternTree, more_of-PatternTree}
use Rattle.sled_parser.specs.declared.tree.PatternTree.TheVariants.{Either', Chain', Both', Labelled', Loose', Group', Word}
use Rattle.tree_meaning.specs.declared.scope.Meaning.{Meaning}
use Rattle.tree_meaning.specs.declared.scope.Meaning.TheVariants as meaning
use Rattle.tree_meaning.specs.Names.{merged, are_new, are_same_names}
use Rattle.tree_meaning.specs.Scopes.{Declared, meaning_of}

-- a lone word with this meaning binds its name
abbrev pub is_binding : Meaning → Bool
is_binding (meaning.Field f) = true
is_binding (meaning.Operand k) = true
is_binding _ = false

-- a lone word binds its name where it stands for a field or for an operand
abbrev pub word_binds : Declared → List ℕ → Bool
word_binds declared w = option_map_or is_binding (meaning_of declared w) false

-- the names of all, each once, in the order in which they come first
abbrev pub union : List (List (List ℕ)) → List (List ℕ)
union rows = fold merged [] rows

abbrev mutual
  -- the names that the pattern binds in one alternative or another, each once, in the order in which they first stand there
  pub bound : Declared → PatternTree → List (List ℕ)
  bound declared (Word w) = if word_binds declared w then w ∷ [] else []
  bound declared (Labelled' l s t) = union ((l ∷ []) ∷ row_bound declared t)
  bound declared (Either' s ts) = union (row_bound declared ts)
  bound declared (Chain' s ts) = union (row_bound declared ts)
  bound declared (Both' s ts) = union (row_bound declared ts)
  bound declared (Loose' s t) = union (row_bound declared t)
  bound declared (Group' s t) = union (row_bound declared t)
  bound declared _ = []

  -- those of each pattern of a row
  pub row_bound : {n : _} → Declared → Row_of-PatternTree n → List (List (List ℕ))
  row_bound declared end_of-PatternTree = []
  row_bound declared (more_of-PatternTree t ts) = bound declared t ∷ row_bound declared ts

-- ---- once in an alternative

-- no name stands in two of the lists, or in one of them and among these
abbrev pub are_apart : List (List ℕ) → List (List (List ℕ)) → Bool
are_apart names [] = true
are_apart names (ms ∷ rest) = are_new names ms && are_apart (merged names ms) rest

abbrev mutual
  -- no alternative of the pattern binds a name twice: what stands side by side, in a conjunction or a chain, binds different names
  pub binds_once : Declared → PatternTree → Bool
  binds_once declared (Labelled' l s t) = row_binds_once declared t && are_apart (l ∷ []) (row_bound declared t)
  binds_once declared (Either' s ts) = row_binds_once declared ts
  binds_once declared (Chain' s ts) = row_binds_once declared ts && are_apart [] (row_bound declared ts)
  binds_once declared (Both' s ts) = row_binds_once declared ts && are_apart [] (row_bound declared ts)
  binds_once declared (Loose' s t) = row_binds_once declared t
  binds_once declared (Group' s t) = row_binds_once declared t
  binds_once declared _ = true

  pub row_binds_once : {n : _} → Declared → Row_of-PatternTree n → Bool
  row_binds_once declared end_of-PatternTree = true
  row_binds_once declared (more_of-PatternTree t ts) = binds_once declared t && row_binds_once declared ts

-- ---- the sides of a disjunction

abbrev pub have_same_names : List (List (List ℕ)) → Bool
have_same_names [] = true
have_same_names (ns ∷ rest) = list_all (are_same_names ns) rest

abbrev mutual
  -- in each disjunction in the pattern, all sides bind the same names
  pub sides_bind_alike : Declared → PatternTree → Bool
  sides_bind_alike declared (Labelled' l s t) = row_binds_alike declared t
  sides_bind_alike declared (Either' s ts) = row_binds_alike declared ts && have_same_names (row_bound declared ts)
  sides_bind_alike declared (Chain' s ts) = row_binds_alike declared ts
  sides_bind_alike declared (Both' s ts) = row_binds_alike declared ts
  sides_bind_alike declared (Loose' s t) = row_binds_alike declared t
  sides_bind_alike declared (Group' s t) = row_binds_alike declared t
  sides_bind_alike declared _ = true

  pub row_binds_alike : {n : _} → Declared → Row_of-PatternTree n → Bool
  row_binds_alike declared end_of-PatternTree = true
  row_binds_alike declared (more_of-PatternTree t ts) = sides_bind_alike declared t && row_binds_alike declared ts

abbrev pub are_none : List (List ℕ) → Bool
are_none [] = true
are_none (n ∷ ns) = false

abbrev mutual
  -- in each disjunction in the pattern, no side binds a name
  pub sides_bind_nothing : Declared → PatternTree → Bool
  sides_bind_nothing declared (Labelled' l s t) = row_binds_nothing declared t
  sides_bind_nothing declared (Either' s ts) = list_all are_none (row_bound declared ts)
  sides_bind_nothing declared (Chain' s ts) = row_binds_nothing declared ts
  sides_bind_nothing declared (Both' s ts) = row_binds_nothing declared ts
  sides_bind_nothing declared (Loose' s t) = row_binds_nothing declared t
  sides_bind_nothing declared (Group' s t) = row_binds_nothing declared t
  sides_bind_nothing declared _ = true

  pub row_binds_nothing : {n : _} → Declared → Row_of-PatternTree n → Bool
  row_binds_nothing declared end_of-PatternTree = true
  row_binds_nothing declared (more_of-PatternTree t ts) = sides_bind_nothing declared t && row_binds_nothing declared ts
