-- The parts of a pattern whose patterns stand in a list or in a box.
use Rattle.std.proofs.Common.{◌≡◌, ℕ, List, [], ◌∷◌, ◌++◌, map, refl, sym, ap, ◌∙◌}
use Rattle.std.specs.Prelude.{Bool, ◌&&◌, not}
use Rattle.std.specs.List.{flat_map, list_all}
use Rattle.tree_meaning.specs.Names.{are_new, is_among}
use Rattle.sled_parser.specs.declared.tree.PatternTree.{PatternTree, Row_of-PatternTree, end_of-PatternTree, more_of-PatternTree, items-the_row-PatternTree, items_hidden-the_row-PatternTree-0}
use Rattle.sled_parser.specs.declared.tree.PatternTree.TheBlock.{hidden-the_row-PatternTree-0, hidden-the_row-PatternTree-1}
use Rattle.std.proofs.lemmas.List.{append-nil}
use Rattle.std.proofs.lemmas.List.Folds.{list_all-map, list_all-append}
use denote.Hole.Carrier.{hidden}
use Rattle.sled_parser.specs.declared.tree.PatternTree.TheVariants.{Either, Chain, Both, Labelled, Loose, Group}
use Rattle.tree_meaning.specs.Parts.{parts_below, row_parts, parts, part_labels, labels}

row_parts-row : {n : _} (ts : Row_of-PatternTree n) → row_parts ts ≡ flat_map parts (items-the_row-PatternTree _ ts)
row_parts-row end_of-PatternTree = refl
row_parts-row (more_of-PatternTree t ts) = ap (λ rest. t ∷ (parts_below t ++ rest)) (row_parts-row ts)

pub parts-Either : (ts : List PatternTree) → parts_below (Either ts) ≡ flat_map parts ts
parts-Either ts = row_parts-row (hidden-the_row-PatternTree-0 ts) ∙ ap (flat_map parts) (items_hidden-the_row-PatternTree-0 ts)

pub parts-Chain : (ts : List PatternTree) → parts_below (Chain ts) ≡ flat_map parts ts
parts-Chain ts = row_parts-row (hidden-the_row-PatternTree-0 ts) ∙ ap (flat_map parts) (items_hidden-the_row-PatternTree-0 ts)

pub parts-Both : (ts : List PatternTree) → parts_below (Both ts) ≡ flat_map parts ts
parts-Both ts = row_parts-row (hidden-the_row-PatternTree-0 ts) ∙ ap (flat_map parts) (items_hidden-the_row-PatternTree-0 ts)

pub parts-Labelled : (l : List ℕ) (t : PatternTree) → parts_below (Labelled l t) ≡ parts t
unfolding hidden-the_row-PatternTree-1 hidden
parts-Labelled l t = ap (λ rest. t ∷ rest) (append-nil (parts_below t))

pub parts-Loose : (t : PatternTree) → parts_below (Loose t) ≡ parts t
unfolding hidden-the_row-PatternTree-1 hidden
parts-Loose t = ap (λ rest. t ∷ rest) (append-nil (parts_below t))

pub parts-Group : (t : PatternTree) → parts_below (Group t) ≡ parts t
unfolding hidden-the_row-PatternTree-1 hidden
parts-Group t = ap (λ rest. t ∷ rest) (append-nil (parts_below t))

pub ruleset parts_laws = (parts-Either, parts-Chain, parts-Both, parts-Labelled, parts-Loose, parts-Group)

-- ---- the parts behind references

-- what is asked of the labels is asked of those of each part
labels_of_parts : (names : List (List ℕ)) (ts : List PatternTree) → are_new names (flat_map part_labels ts) ≡ list_all (λ t. are_new names (part_labels t)) ts
labels_of_parts names [] = refl
labels_of_parts names (t ∷ ts) =
    list_all-append (λ n. not (is_among names n)) (part_labels t) (flat_map part_labels ts)
    ∙ ap (λ b. are_new names (part_labels t) && b) (labels_of_parts names ts)

-- what is asked of each part behind a reference is asked of the parts
pub all_parts : {A : Type 0} (p : PatternTree → Bool) (f : A → PatternTree) (xs : List A) (t : PatternTree) → map f xs ≡ parts t → list_all (λ x. p (f x)) xs ≡ list_all p (parts t)
all_parts p f xs t is = sym (list_all-map p f xs) ∙ ap (list_all p) is

pub all_labels : {A : Type 0} (names : List (List ℕ)) (f : A → PatternTree) (xs : List A) (t : PatternTree) → map f xs ≡ parts t → list_all (λ x. are_new names (part_labels (f x))) xs ≡ are_new names (labels t)
all_labels names f xs t is = all_parts (λ u. are_new names (part_labels u)) f xs t is ∙ sym (labels_of_parts names (parts t))
