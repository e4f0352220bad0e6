-- What the parts of a tree and its patterns are at each variant that holds trees, seen as lists.
use Rattle.std.proofs.Common.{◌≡◌, ℕ, List, ◌∷◌, ◌++◌, map, refl, ap, ◌∙◌}
use Rattle.std.proofs.lemmas.List.{append-nil}
use Rattle.std.specs.List.{flat_map}
use Rattle.sled_parser.specs.declared.tree.PatternTree.{PatternTree, Row_of-PatternTree, end_of-PatternTree, more_of-PatternTree, items-the_row-PatternTree, items_hidden-the_row-PatternTree-0}
use Rattle.sled_parser.specs.declared.tree.PatternTree.TheBlock.{hidden-the_row-PatternTree-0, hidden-the_row-PatternTree-1}
use denote.Hole.Carrier.{hidden}
use Rattle.sled_parser.specs.declared.tree.PatternTree.TheVariants.{Either, Chain, Both, Labelled, Loose, Group}
use Rattle.sled_model.specs.declared.pattern.Pattern.TheVariants as pattern
use Rattle.tree_meaning.specs.Scopes.{Declared}
use Rattle.tree_meaning.specs.Parts.{parts_below, row_parts, parts}
use Rattle.tree_meaning.specs.Patterns.{patterns_of, row_patterns, choices, label_number}

-- ---- parts

row_parts-row : {n : _} (ts : Row_of-PatternTree n) → row_parts ts ≡ flat_map parts (items-the_row-PatternTree _ ts)
row_parts-row end_of-PatternTree = refl
row_parts-row (more_of-PatternTree t ts) = ap (λ us. t ∷ (parts_below t ++ us)) (row_parts-row ts)

row : (ts : List PatternTree) → row_parts (hidden-the_row-PatternTree-0 ts) ≡ flat_map parts ts
row ts = row_parts-row (hidden-the_row-PatternTree-0 ts) ∙ ap (flat_map parts) (items_hidden-the_row-PatternTree-0 ts)

pub parts_below-Either : (ts : List PatternTree) → parts_below (Either ts) ≡ flat_map parts ts
parts_below-Either ts = row ts

pub parts_below-Chain : (ts : List PatternTree) → parts_below (Chain ts) ≡ flat_map parts ts
parts_below-Chain ts = row ts

pub parts_below-Both : (ts : List PatternTree) → parts_below (Both ts) ≡ flat_map parts ts
parts_below-Both ts = row ts

pub parts_below-Labelled : (l : List ℕ) (t : PatternTree) → parts_below (Labelled l t) ≡ parts t
unfolding hidden-the_row-PatternTree-1 hidden
parts_below-Labelled l t = append-nil (parts t)

pub parts_below-Loose : (t : PatternTree) → parts_below (Loose t) ≡ parts t
unfolding hidden-the_row-PatternTree-1 hidden
parts_below-Loose t = append-nil (parts t)

pub parts_below-Group : (t : PatternTree) → parts_below (Group t) ≡ parts t
unfolding hidden-the_row-PatternTree-1 hidden
parts_below-Group t = append-nil (parts t)

-- ---- patterns

module _ (declared : Declared) (names : List (List ℕ)) where
  row_patterns-row : {n : _} (ts : Row_of-PatternTree n) → row_patterns declared names ts ≡ map (patterns_of declared names) (items-the_row-PatternTree _ ts)
  row_patterns-row end_of-PatternTree = refl
  row_patterns-row (more_of-PatternTree t ts) = ap (λ pss. patterns_of declared names t ∷ pss) (row_patterns-row ts)

  each : (ts : List PatternTree) → row_patterns declared names (hidden-the_row-PatternTree-0 ts) ≡ map (patterns_of declared names) ts
  each ts = row_patterns-row (hidden-the_row-PatternTree-0 ts) ∙ ap (map (patterns_of declared names)) (items_hidden-the_row-PatternTree-0 ts)

  pub patterns_of-Either : (ts : List PatternTree) → patterns_of declared names (Either ts) ≡ map pattern.Either (choices (map (patterns_of declared names) ts))
  patterns_of-Either ts = ap (λ pss. map pattern.Either (choices pss)) (each ts)

  pub patterns_of-Chain : (ts : List PatternTree) → patterns_of declared names (Chain ts) ≡ map pattern.Chain (choices (map (patterns_of declared names) ts))
  patterns_of-Chain ts = ap (λ pss. map pattern.Chain (choices pss)) (each ts)

  pub patterns_of-Both : (ts : List PatternTree) → patterns_of declared names (Both ts) ≡ map pattern.Both (choices (map (patterns_of declared names) ts))
  patterns_of-Both ts = ap (λ pss. map pattern.Both (choices pss)) (each ts)

  pub patterns_of-Labelled : (l : List ℕ) (t : PatternTree) → patterns_of declared names (Labelled l t) ≡ map (pattern.Label (label_number names l)) (patterns_of declared names t)
  unfolding hidden-the_row-PatternTree-1 hidden
  patterns_of-Labelled l t = refl

  pub patterns_of-Loose : (t : PatternTree) → patterns_of declared names (Loose t) ≡ map pattern.Loose (patterns_of declared names t)
  unfolding hidden-the_row-PatternTree-1 hidden
  patterns_of-Loose t = refl

  pub patterns_of-Group : (t : PatternTree) → patterns_of declared names (Group t) ≡ patterns_of declared names t
  unfolding hidden-the_row-PatternTree-1 hidden
  patterns_of-Group t = refl

pub ruleset patterns_laws = (patterns_of-Either, patterns_of-Chain, patterns_of-Both, patterns_of-Labelled, patterns_of-Loose, patterns_of-Group)
