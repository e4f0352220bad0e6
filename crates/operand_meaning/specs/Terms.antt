-- The terms of equations, and the names in them.
use Rattle.std.specs.Prelude.{ℕ, Bool, true, ◌&&◌, List, ◌++◌, Option, Some, None}
use Rattle.std.specs.List.{list_all, filter_map, flat_map}
use Rattle.std.specs.Option.{option_map_or}
use Rattle.sled_parser.specs.declared.tree.EqTree.{EqTree}
use Rattle.sled_parser.specs.declared.tree.PlaceTree.{PlaceTree}
use Rattle.sled_parser.specs.declared.tree.PlaceTree.TheVariants.{Word, Extended, Slice}
use Rattle.sled_parser.specs.declared.tree.TermTree.{TermTree}
use Rattle.sled_parser.specs.declared.tree.TermTree.TheVariants.{Number, Place}
use Rattle.tree_meaning.specs.Values.{is_in_range}

-- the terms of both sides, in written order
abbrev pub equation_terms : EqTree → List TermTree
equation_terms e = e.left.terms ++ e.right.terms

-- those of each equation
abbrev pub terms_in : List EqTree → List TermTree
terms_in equations = flat_map equation_terms equations

-- ---- names

abbrev pub place_name : PlaceTree → List ℕ
place_name (Word w) = w
place_name (Extended w) = w
place_name (Slice w lo hi) = w

-- the name in a term: a number has none
abbrev pub term_name : TermTree → Option (List ℕ)
term_name (Number minus n) = None
term_name (Place minus c p) = Some (place_name p)

-- the names in the equations
abbrev pub names_in : List EqTree → List (List ℕ)
names_in equations = filter_map term_name (terms_in equations)

abbrev pub sliced_place : PlaceTree → Option (List ℕ)
sliced_place (Slice w lo hi) = Some w
sliced_place _ = None

abbrev pub sliced_name : TermTree → Option (List ℕ)
sliced_name (Number minus n) = None
sliced_name (Place minus c p) = sliced_place p

-- the names of which the equations have a slice
abbrev pub sliced_names : List EqTree → List (List ℕ)
sliced_names equations = filter_map sliced_name (terms_in equations)

-- ---- the Numbers

abbrev pub is_place_in_range : PlaceTree → Bool
is_place_in_range (Slice w lo hi) = is_in_range lo && is_in_range hi
is_place_in_range _ = true

abbrev pub is_term_in_range : TermTree → Bool
is_term_in_range (Number minus n) = is_in_range n
is_term_in_range (Place minus c p) = option_map_or is_in_range c true && is_place_in_range p

abbrev pub is_equation_in_range : EqTree → Bool
is_equation_in_range e = list_all is_term_in_range (equation_terms e)

-- each Number in the equations writes at most 4,294,967,295, as each in a text does
abbrev pub have_equations_in_range : List EqTree → Bool
have_equations_in_range equations = list_all is_equation_in_range equations
