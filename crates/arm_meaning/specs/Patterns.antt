-- What the pattern of an arm stands for.
use Rattle.std.specs.Prelude.{ℕ, Bool, List, [], ◌∷◌}
use Rattle.std.specs.List.{list_all}
use Rattle.sled_parser.specs.declared.tree.PatternTree.{PatternTree, Row_of-PatternTree, end_of-PatternTree, more_of-PatternTree}
use Rattle.sled_parser.specs.declared.tree.PatternTree.TheVariants.{Either', Chain', Both', Labelled', Loose', Group', Apply}
use Rattle.sled_model.specs.declared.pattern.Pattern.{Pattern}
use Rattle.sled_model.specs.declared.pattern.Pattern.TheVariants as pattern
use Rattle.sled_model.specs.declared.spec.Spec.{Spec}
use Rattle.tree_meaning.specs.declared.parts.Site.TheVariants as site
use Rattle.tree_meaning.specs.Parts.{parts, is_known_part}
use Rattle.tree_meaning.specs.Patterns.{patterns_of, label_number}
use Rattle.tree_meaning.specs.Scopes.{Declared}
use Rattle.arm_meaning.specs.Applications.{application_fits, application_of}

-- ---- condition 2, names are known

-- a lone word and the field of a relation are known as in any arm; an application names a constructor, and its arguments fit
abbrev pub is_known_in_arm : Spec → Declared → PatternTree → Bool
is_known_in_arm spec declared (Apply name arguments) = application_fits spec name arguments
is_known_in_arm spec declared part = is_known_part site.Arm declared part

abbrev pub are_known_in_arm : Spec → Declared → PatternTree → Bool
are_known_in_arm spec declared tree = list_all (is_known_in_arm spec declared) (parts tree)

-- ---- the pattern

-- the first of the patterns, or no bytes where there is none
abbrev pub first_pattern : List Pattern → Pattern
first_pattern [] = pattern.Empty
first_pattern (p ∷ ps) = p

abbrev mutual
  -- The pattern of an arm that binds these names: the number of a label, and of a name in an application, is its place among them. A
  -- generating expression, of which an accepted arm has none, counts as its first number.
  pub arm_pattern : Spec → Declared → List (List ℕ) → PatternTree → Pattern
  arm_pattern spec declared names (Either' s ts) = pattern.Either (row_patterns spec declared names ts)
  arm_pattern spec declared names (Chain' s ts) = pattern.Chain (row_patterns spec declared names ts)
  arm_pattern spec declared names (Both' s ts) = pattern.Both (row_patterns spec declared names ts)
  arm_pattern spec declared names (Labelled' l s t) = pattern.Label (label_number names l) (first_pattern (row_patterns spec declared names t))
  arm_pattern spec declared names (Loose' s t) = pattern.Loose (first_pattern (row_patterns spec declared names t))
  arm_pattern spec declared names (Group' s t) = first_pattern (row_patterns spec declared names t)
  arm_pattern spec declared names (Apply name arguments) = application_of spec names name arguments
  arm_pattern spec declared names t = first_pattern (patterns_of declared names t)

  -- those of each tree of a row
  pub row_patterns : {n : _} → Spec → Declared → List (List ℕ) → Row_of-PatternTree n → List Pattern
  row_patterns spec declared names end_of-PatternTree = []
  row_patterns spec declared names (more_of-PatternTree t ts) = arm_pattern spec declared names t ∷ row_patterns spec declared names ts
