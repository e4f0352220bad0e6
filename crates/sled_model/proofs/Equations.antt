-- What `results` is at each variant that holds patterns, seen as lists.
use Rattle.std.proofs.Common.{◌≡◌, ℕ, List, ◌∷◌, map, refl, ap, ◌∙◌}
use Rattle.sled_model.specs.declared.pattern.Pattern.{Pattern, Row_of-Pattern, end_of-Pattern, more_of-Pattern, items-the_row-Pattern, items_hidden-the_row-Pattern-1}
use Rattle.sled_model.specs.declared.pattern.Argument.TheBlock.{hidden-the_row-Pattern-0, hidden-the_row-Pattern-1}
use denote.Hole.Carrier.{hidden}
use Rattle.sled_model.specs.declared.pattern.Pattern.TheVariants.{Both, Either, Chain, Label, Loose}
use Rattle.sled_model.specs.Results.{Context, results, row_meanings, fold_meanings, both, either, chain, label_meaning, loose_meaning}

pub row_meanings-row : {n : _} (cx : Context) (ps : Row_of-Pattern n) → row_meanings cx ps ≡ map (results cx) (items-the_row-Pattern _ ps)
row_meanings-row cx end_of-Pattern = refl
row_meanings-row cx (more_of-Pattern p ps) = ap (λ ms. results cx p ∷ ms) (row_meanings-row cx ps)

module _ (cx : Context) (bytes : List ℕ) (i : ℕ) where
  pub results-Both : (ps : List Pattern) → results cx (Both ps) bytes i ≡ fold_meanings both (map (results cx) ps) bytes i
  results-Both ps = ap (λ ms. fold_meanings both ms bytes i) (row_meanings-row cx (hidden-the_row-Pattern-1 ps) ∙ ap (map (results cx)) (items_hidden-the_row-Pattern-1 ps))

  pub results-Either : (ps : List Pattern) → results cx (Either ps) bytes i ≡ fold_meanings either (map (results cx) ps) bytes i
  results-Either ps = ap (λ ms. fold_meanings either ms bytes i) (row_meanings-row cx (hidden-the_row-Pattern-1 ps) ∙ ap (map (results cx)) (items_hidden-the_row-Pattern-1 ps))

  pub results-Chain : (ps : List Pattern) → results cx (Chain ps) bytes i ≡ fold_meanings chain (map (results cx) ps) bytes i
  results-Chain ps = ap (λ ms. fold_meanings chain ms bytes i) (row_meanings-row cx (hidden-the_row-Pattern-1 ps) ∙ ap (map (results cx)) (items_hidden-the_row-Pattern-1 ps))

  pub results-Loose : (p : Pattern) → results cx (Loose p) bytes i ≡ loose_meaning (results cx p) bytes i
  unfolding hidden-the_row-Pattern-0 hidden
  results-Loose p = refl

  pub results-Label : (l : ℕ) (p : Pattern) → results cx (Label l p) bytes i ≡ label_meaning l (results cx p) bytes i
  unfolding hidden-the_row-Pattern-0 hidden
  results-Label l p = refl
