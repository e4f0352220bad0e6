-- What the bare fields of a pattern are at each variant that holds patterns, seen as lists.
use Rattle.std.proofs.Common.{◌≡◌, ℕ, List, ◌++◌, refl, ap, ◌∙◌}
use Rattle.std.specs.List.{flat_map}
use Rattle.std.proofs.lemmas.List.{append-nil}
use Rattle.sled_model.specs.declared.pattern.Pattern.{Pattern, Row_of-Pattern, end_of-Pattern, more_of-Pattern, items-the_row-Pattern, items_hidden-the_row-Pattern-1}
use Rattle.sled_model.specs.declared.pattern.Argument.TheBlock.{hidden-the_row-Pattern-0, hidden-the_row-Pattern-1}
use denote.Hole.Carrier.{hidden}
use Rattle.sled_model.specs.declared.pattern.Pattern.TheVariants.{Both, Either, Chain, Label, Loose}
use Rattle.sled_model.specs.SolvingOrder.{bare_fields, row_fields}

row_fields-row : {n : _} (ps : Row_of-Pattern n) → row_fields ps ≡ flat_map bare_fields (items-the_row-Pattern _ ps)
row_fields-row end_of-Pattern = refl
row_fields-row (more_of-Pattern p ps) = ap (λ fs. bare_fields p ++ fs) (row_fields-row ps)

fields_in : (ps : List Pattern) → row_fields (hidden-the_row-Pattern-1 ps) ≡ flat_map bare_fields ps
fields_in ps = row_fields-row (hidden-the_row-Pattern-1 ps) ∙ ap (flat_map bare_fields) (items_hidden-the_row-Pattern-1 ps)

pub fields-Both : (ps : List Pattern) → bare_fields (Both ps) ≡ flat_map bare_fields ps
fields-Both ps = fields_in ps

pub fields-Either : (ps : List Pattern) → bare_fields (Either ps) ≡ flat_map bare_fields ps
fields-Either ps = fields_in ps

pub fields-Chain : (ps : List Pattern) → bare_fields (Chain ps) ≡ flat_map bare_fields ps
fields-Chain ps = fields_in ps

pub fields-Label : (l : ℕ) (p : Pattern) → bare_fields (Label l p) ≡ bare_fields p
unfolding hidden-the_row-Pattern-0 hidden
fields-Label l p = append-nil (bare_fields p)

pub fields-Loose : (p : Pattern) → bare_fields (Loose p) ≡ bare_fields p
unfolding hidden-the_row-Pattern-0 hidden
fields-Loose p = append-nil (bare_fields p)
