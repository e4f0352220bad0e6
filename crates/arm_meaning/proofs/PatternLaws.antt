-- What the pattern of an arm is at each tree that holds trees, seen as lists.
use Rattle.std.proofs.Common.{◌≡◌, ℕ, Bool, true, false, List, ◌∷◌, map, refl, ap, ◌∙◌}
use Rattle.std.specs.Prelude.{◌&&◌}
use Rattle.sled_parser.specs.declared.tree.PatternTree.{PatternTree, Row_of-PatternTree, end_of-PatternTree, more_of-PatternTree, items-the_row-PatternTree, items_hidden-the_row-PatternTree-0}
use Rattle.sled_parser.specs.declared.tree.PatternTree.TheBlock.{hidden-the_row-PatternTree-0, hidden-the_row-PatternTree-1}
use Rattle.sled_parser.specs.declared.tree.PatternTree.TheVariants.{Either, Chain, Both, Labelled, Loose, Group}
use denote.Hole.Carrier.{hidden}
use Rattle.sled_model.specs.declared.pattern.Pattern.TheVariants as pattern
use Rattle.sled_model.specs.declared.spec.Spec.{Spec}
use Rattle.tree_meaning.specs.Patterns.{label_number}
use Rattle.tree_meaning.specs.Scopes.{Declared}
use Rattle.arm_meaning.specs.Patterns.{arm_pattern, row_patterns}

module _ (spec : Spec) (d : Declared) (names : List (List ℕ)) where
  row_patterns-row : {n : _} (ts : Row_of-PatternTree n) → row_patterns spec d names ts ≡ map (arm_pattern spec d names) (items-the_row-PatternTree _ ts)
  row_patterns-row end_of-PatternTree = refl
  row_patterns-row (more_of-PatternTree t ts) = ap (λ ps. arm_pattern spec d names t ∷ ps) (row_patterns-row ts)

  each : (ts : List PatternTree) → row_patterns spec d names (hidden-the_row-PatternTree-0 ts) ≡ map (arm_pattern spec d names) ts
  each ts = row_patterns-row (hidden-the_row-PatternTree-0 ts) ∙ ap (map (arm_pattern spec d names)) (items_hidden-the_row-PatternTree-0 ts)

  pub arm_pattern-Either : (ts : List PatternTree) → arm_pattern spec d names (Either ts) ≡ pattern.Either (map (arm_pattern spec d names) ts)
  arm_pattern-Either ts = ap pattern.Either (each ts)

  pub arm_pattern-Chain : (ts : List PatternTree) → arm_pattern spec d names (Chain ts) ≡ pattern.Chain (map (arm_pattern spec d names) ts)
  arm_pattern-Chain ts = ap pattern.Chain (each ts)

  pub arm_pattern-Both : (ts : List PatternTree) → arm_pattern spec d names (Both ts) ≡ pattern.Both (map (arm_pattern spec d names) ts)
  arm_pattern-Both ts = ap pattern.Both (each ts)

  pub arm_pattern-Labelled : (l : List ℕ) (t : PatternTree) → arm_pattern spec d names (Labelled l t) ≡ pattern.Label (label_number names l) (arm_pattern spec d names t)
  unfolding hidden-the_row-PatternTree-1 hidden
  arm_pattern-Labelled l t = refl

  pub arm_pattern-Loose : (t : PatternTree) → arm_pattern spec d names (Loose t) ≡ pattern.Loose (arm_pattern spec d names t)
  unfolding hidden-the_row-PatternTree-1 hidden
  arm_pattern-Loose t = refl

  pub arm_pattern-Group : (t : PatternTree) → arm_pattern spec d names (Group t) ≡ arm_pattern spec d names t
  unfolding hidden-the_row-PatternTree-1 hidden
  arm_pattern-Group t = refl

pub ruleset pattern_laws = (arm_pattern-Either, arm_pattern-Chain, arm_pattern-Both, arm_pattern-Labelled, arm_pattern-Loose, arm_pattern-Group)

pub and_true : (t : Bool) → (t && true) ≡ t
and_true true = refl
and_true false = refl
