-- The parts of a pattern, and what is asked of each.
use Rattle.std.specs.Prelude.{ℕ, Bool, true, false, List, [], ◌∷◌, ◌++◌, is_some}
use Rattle.std.specs.List.{list_all, flat_map}
use Rattle.std.specs.Option.{option_map_or}
use Rattle.sled_parser.specs.declared.tree.PatternTree.{PatternTree, Row_of-PatternTree, end_of-PatternTree, more_of-PatternTree}
use Rattle.sled_parser.specs.declared.tree.PatternTree.TheVariants.{Either', Chain', Both', Labelled', Loose', Group', Word, Limit, Apply}
use Rattle.token_bits.specs.declared.tokens.Tokens.{Tokens}
use Rattle.tree_meaning.specs.declared.scope.Meaning.{Meaning}
use Rattle.tree_meaning.specs.declared.scope.Meaning.TheVariants as meaning
use Rattle.tree_meaning.specs.declared.parts.Site.{Site}
use Rattle.tree_meaning.specs.declared.parts.Site.TheVariants.{Definition, Arm}
use Rattle.tree_meaning.specs.Scopes.{Declared, meaning_of, field_named}
use Rattle.tree_meaning.specs.Values.{all_fit, is_one_number}

abbrev mutual
  -- the patterns in a pattern, from left to right, each before those in it
  pub parts_below : PatternTree → List PatternTree
  parts_below (Either' s ts) = row_parts ts
  parts_below (Chain' s ts) = row_parts ts
  parts_below (Both' s ts) = row_parts ts
  parts_below (Labelled' l s t) = row_parts t
  parts_below (Loose' s t) = row_parts t
  parts_below (Group' s t) = row_parts t
  parts_below _ = []

  pub row_parts : {n : _} → Row_of-PatternTree n → List PatternTree
  row_parts end_of-PatternTree = []
  row_parts (more_of-PatternTree t ts) = t ∷ (parts_below t ++ row_parts ts)

-- the pattern itself, and the patterns in it
abbrev pub parts : PatternTree → List PatternTree
parts tree = tree ∷ parts_below tree

-- ---- labels

abbrev pub part_labels : PatternTree → List (List ℕ)
part_labels (Labelled' l s t) = l ∷ []
part_labels _ = []

-- the labels in a pattern, in order
abbrev pub labels : PatternTree → List (List ℕ)
labels tree = flat_map part_labels (parts tree)

-- ---- names

-- what a lone word may stand for: a field not in a definition, an operand only in a body, and a type nowhere
abbrev pub may_stand : Site → Meaning → Bool
may_stand Definition (meaning.Field f) = false
may_stand Definition (meaning.Operand k) = false
may_stand Arm (meaning.Operand k) = false
may_stand _ (meaning.Type t) = false
may_stand _ _ = true

abbrev pub is_known_part : Site → Declared → PatternTree → Bool
is_known_part site declared (Word w) = option_map_or (may_stand site) (meaning_of declared w) false
is_known_part site declared (Limit f r v) = is_some (field_named declared f)
is_known_part site declared (Apply k arguments) = false
is_known_part site declared _ = true

-- each name in the pattern was declared, as something that may stand there
abbrev pub are_known : Site → Declared → PatternTree → Bool
are_known site declared tree = list_all (is_known_part site declared) (parts tree)

-- ---- numbers

abbrev pub part_fits : Tokens → Declared → PatternTree → Bool
part_fits tokens declared (Limit f r v) = option_map_or (λ k. all_fit tokens k v) (field_named declared f) true
part_fits tokens declared _ = true

-- each number in the pattern is a value of its field, where the field is known
abbrev pub numbers_fit : Tokens → Declared → PatternTree → Bool
numbers_fit tokens declared tree = list_all (part_fits tokens declared) (parts tree)

abbrev pub has_one_number : PatternTree → Bool
has_one_number (Limit f r v) = is_one_number v
has_one_number _ = true

-- no generating expression stands in the pattern
abbrev pub generates_nothing : PatternTree → Bool
generates_nothing tree = list_all has_one_number (parts tree)

-- ---- applications

abbrev pub is_no_application : PatternTree → Bool
is_no_application (Apply k arguments) = false
is_no_application _ = true

-- no application stands in the pattern
abbrev pub applies_nothing : PatternTree → Bool
applies_nothing tree = list_all is_no_application (parts tree)
