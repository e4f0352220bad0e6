-- The labels of a body and the operands that stand in it, at each variant that holds patterns, seen as lists.
use Rattle.std.proofs.Common.{◌≡◌, ℕ, List, ◌∷◌, ◌++◌, refl, ap, ◌∙◌}
use Rattle.std.specs.List.{flat_map}
use Rattle.std.proofs.lemmas.List.{append-nil}
use Rattle.sled_model.specs.declared.pattern.Pattern.{Pattern, Row_of-Pattern, end_of-Pattern, more_of-Pattern, items-the_row-Pattern, items_hidden-the_row-Pattern-1}
use Rattle.sled_model.specs.declared.pattern.Argument.TheBlock.{hidden-the_row-Pattern-0, hidden-the_row-Pattern-1}
use denote.Hole.Carrier.{hidden}
use Rattle.sled_model.specs.declared.pattern.Pattern.TheVariants.{Both, Either, Chain, Label, Loose}
use Rattle.sled_model.specs.Linear.{labels_in, row_labels}

row_labels-row : {n : _} (ps : Row_of-Pattern n) → row_labels ps ≡ flat_map labels_in (items-the_row-Pattern _ ps)
row_labels-row end_of-Pattern = refl
row_labels-row (more_of-Pattern p ps) = ap (λ ls. labels_in p ++ ls) (row_labels-row ps)

labels_in_list : (ps : List Pattern) → row_labels (hidden-the_row-Pattern-1 ps) ≡ flat_map labels_in ps
labels_in_list ps = row_labels-row (hidden-the_row-Pattern-1 ps) ∙ ap (flat_map labels_in) (items_hidden-the_row-Pattern-1 ps)

pub labels_in-Both : (ps : List Pattern) → labels_in (Both ps) ≡ flat_map labels_in ps
labels_in-Both ps = labels_in_list ps

pub labels_in-Either : (ps : List Pattern) → labels_in (Either ps) ≡ flat_map labels_in ps
labels_in-Either ps = labels_in_list ps

pub labels_in-Chain : (ps : List Pattern) → labels_in (Chain ps) ≡ flat_map labels_in ps
labels_in-Chain ps = labels_in_list ps

pub labels_in-Loose : (p : Pattern) → labels_in (Loose p) ≡ labels_in p
unfolding hidden-the_row-Pattern-0 hidden
labels_in-Loose p = append-nil (labels_in p)

pub labels_in-Label : (l : ℕ) (p : Pattern) → labels_in (Label l p) ≡ l ∷ labels_in p
unfolding hidden-the_row-Pattern-0 hidden
labels_in-Label l p = ap (λ ls. l ∷ ls) (append-nil (labels_in p))

pub ruleset labels_in_laws = (labels_in-Both, labels_in-Either, labels_in-Chain, labels_in-Loose, labels_in-Label)
