-- The patterns that a tree stands for: one for each choice of a number in each of its generating expressions.
use Rattle.std.specs.Prelude.{ℕ, Bool, true, List, [], ◌∷◌, ◌++◌, length, map, unwrap_or}
use Rattle.std.specs.List.{list_all, flat_map}
use Rattle.std.specs.Option.{option_map_or}
use Rattle.sled_parser.specs.declared.tree.PatternTree.{PatternTree, Row_of-PatternTree, end_of-PatternTree, more_of-PatternTree}
use Rattle.sled_parser.specs.declared.tree.PatternTree.TheVariants.{Either', Chain', Both', Labelled', Loose', Group', Empty, Word, Limit, Apply}
use Rattle.sled_parser.specs.declared.tree.RelationTree.{RelationTree}
use Rattle.sled_parser.specs.declared.tree.RelationTree.TheVariants as tree
use Rattle.token_bits.specs.declared.tokens.FieldId.{FieldId}
use Rattle.sled_model.specs.declared.pattern.Relation.{Relation}
use Rattle.sled_model.specs.declared.pattern.Relation.TheVariants as relation
use Rattle.sled_model.specs.declared.pattern.Pattern.{Pattern}
use Rattle.sled_model.specs.declared.pattern.Pattern.TheVariants as pattern
use Rattle.sled_model.specs.Measures.{product}
use Rattle.tree_meaning.specs.declared.scope.Meaning.{Meaning}
use Rattle.tree_meaning.specs.declared.scope.Meaning.TheVariants as meaning
use Rattle.tree_meaning.specs.Names.{position_of}
use Rattle.tree_meaning.specs.Scopes.{Declared, meaning_of, field_named}
use Rattle.tree_meaning.specs.Values.{value_numbers, has_numbers_in_range}
use Rattle.tree_meaning.specs.Parts.{parts}

abbrev pub relation_of : RelationTree → Relation
relation_of tree.Equal = relation.Equal
relation_of tree.Differs = relation.Differs
relation_of tree.Below = relation.Below
relation_of tree.AtMost = relation.AtMost
relation_of tree.Above = relation.Above
relation_of tree.AtLeast = relation.AtLeast

-- the pattern that a lone word with this meaning is: a group is any of its members, and a type no bytes
abbrev pub meaning_pattern : Meaning → Pattern
meaning_pattern (meaning.Class c) = pattern.Token c
meaning_pattern (meaning.Field f) = pattern.Bind f
meaning_pattern (meaning.Pattern p) = p
meaning_pattern (meaning.Group ps) = pattern.Either ps
meaning_pattern (meaning.Type t) = pattern.Empty
meaning_pattern (meaning.Operand k) = pattern.Operand k

-- of a name that was not declared, no bytes
abbrev pub word_pattern : Declared → List ℕ → Pattern
word_pattern declared w = option_map_or meaning_pattern (meaning_of declared w) pattern.Empty

-- the field of that name, or the first field where there is none
abbrev pub field_or_first : Declared → List ℕ → FieldId
field_or_first declared f = unwrap_or (field_named declared f) (record { 0 = 0 })

-- the number of the label of that name
abbrev pub label_number : List (List ℕ) → List ℕ → ℕ
label_number names label = unwrap_or (position_of names label) 0

-- every list of one from each of the lists, in order: the choice from the last varies fastest
abbrev pub choices : {A : Type 0} → List (List A) → List (List A)
choices [] = [] ∷ []
choices (xs ∷ rest) = flat_map (λ x. map (λ chosen. x ∷ chosen) (choices rest)) xs

-- every one of the lists with one of the elements behind it
abbrev pub extended_by : {A : Type 0} → List (List A) → List A → List (List A)
extended_by chosen xs = flat_map (λ c. map (λ x. c ++ x ∷ []) xs) chosen

-- the list in the one list of a box
abbrev pub boxed : {A : Type 0} → List (List A) → List A
boxed [] = []
boxed (xs ∷ rest) = xs

abbrev mutual
  -- the patterns, in the order of the choices: the rightmost generating expression varies fastest. A label's number is the place of its
  -- name among `names`. An application has no meaning yet.
  pub patterns_of : Declared → List (List ℕ) → PatternTree → List Pattern
  patterns_of declared names (Either' s ts) = map pattern.Either (choices (row_patterns declared names ts))
  patterns_of declared names (Chain' s ts) = map pattern.Chain (choices (row_patterns declared names ts))
  patterns_of declared names (Both' s ts) = map pattern.Both (choices (row_patterns declared names ts))
  patterns_of declared names (Labelled' l s t) = map (pattern.Label (label_number names l)) (boxed (row_patterns declared names t))
  patterns_of declared names (Loose' s t) = map pattern.Loose (boxed (row_patterns declared names t))
  patterns_of declared names (Group' s t) = boxed (row_patterns declared names t)
  patterns_of declared names Empty = pattern.Empty ∷ []
  patterns_of declared names (Word w) = word_pattern declared w ∷ []
  patterns_of declared names (Limit f r v) = map (λ n. pattern.Limit (field_or_first declared f) (relation_of r) n) (value_numbers v)
  patterns_of declared names (Apply k arguments) = pattern.Empty ∷ []

  -- those of each tree of a row
  pub row_patterns : {n : _} → Declared → List (List ℕ) → Row_of-PatternTree n → List (List Pattern)
  row_patterns declared names end_of-PatternTree = []
  row_patterns declared names (more_of-PatternTree t ts) = patterns_of declared names t ∷ row_patterns declared names ts

abbrev pub has_part_in_range : PatternTree → Bool
has_part_in_range (Limit f r v) = has_numbers_in_range v
has_part_in_range _ = true

-- each Number in the pattern writes at most 4,294,967,295, as each in a text does
abbrev pub has_all_in_range : PatternTree → Bool
has_all_in_range tree = list_all has_part_in_range (parts tree)

-- ---- how many patterns

abbrev pub part_choices : PatternTree → ℕ
part_choices (Limit f r v) = length (value_numbers v)
part_choices _ = 1

-- in how many ways a number can be chosen in each relation among the parts
abbrev pub choices_among : List PatternTree → ℕ
choices_among ts = product (map part_choices ts)

-- how many patterns the tree stands for
abbrev pub choice_count : PatternTree → ℕ
choice_count tree = choices_among (parts tree)
