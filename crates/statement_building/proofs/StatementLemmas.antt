-- Arms, one after another.
use Rattle.std.proofs.Common.{◌≡◌, ℕ, ◌+◌, ◌<◌, ◌≤◌, List, [], ◌∷◌, ◌++◌, length, map, take, drop, get_or, All, Option, Some, None, sym, ap, ◌∙◌}
use Rattle.std.proofs.Math.ListN.{drop_of_length-le}
use Rattle.std.proofs.lemmas.List.{map-append}
use Rattle.tree_meaning.proofs.ListLemmas.{drop-here, take-here}
use Rattle.statement_building.specs.Conditions.{arms_unmet, first_or, skip_unmet}

module _ {A : Type 0} (unmet : ℕ → A → Option ℕ) (weight : A → ℕ) (arms : List A) (i : ℕ) (arm : A) (here : i < length arms) (is : arm ≡ get_or arms i arm) where
  -- the arms from this one on
  from_here : drop i arms ≡ arm ∷ drop (i + 1) arms
  from_here = drop-here arms i arm here ∙ ap (λ a. a ∷ drop (i + 1) arms) (sym is)

  -- an arm that meets all is passed
  pub arms_unmet-past : (n before weighs : ℕ) (skip : Option (List ℕ)) → unmet before arm ≡ None → weighs ≡ weight arm
      → arms_unmet unmet weight n before (drop i arms) skip ≡ arms_unmet unmet weight (n + 1) (before + weighs) (drop (i + 1) arms) skip
  arms_unmet-past n before weighs skip none told =
      ap (λ xs. arms_unmet unmet weight n before xs skip) from_here
      ∙ ap (λ o. first_or n o (arms_unmet unmet weight (n + 1) (before + weight arm) (drop (i + 1) arms) skip)) none
      ∙ ap (λ w. arms_unmet unmet weight (n + 1) (before + w) (drop (i + 1) arms) skip) (sym told)

  -- the first that does not is told
  pub arms_unmet-here : (n before condition : ℕ) (skip : Option (List ℕ)) → unmet before arm ≡ Some condition
      → arms_unmet unmet weight n before (drop i arms) skip ≡ Some (n, condition)
  arms_unmet-here n before condition skip some =
      ap (λ xs. arms_unmet unmet weight n before xs skip) from_here
      ∙ ap (λ o. first_or n o (arms_unmet unmet weight (n + 1) (before + weight arm) (drop (i + 1) arms) skip)) some

-- past the last arm stands the tail
pub arms_unmet-end : {A : Type 0} (unmet : ℕ → A → Option ℕ) (weight : A → ℕ) (arms : List A) (n i before : ℕ) (skip : Option (List ℕ)) → length arms ≤ i
    → arms_unmet unmet weight n before (drop i arms) skip ≡ first_or n (skip_unmet skip) None
arms_unmet-end unmet weight arms n i before skip h = ap (λ xs. arms_unmet unmet weight n before xs skip) (drop_of_length-le arms h)

-- one more is made
pub made_more : {A B : Type 0} (f : A → B) (xs : List A) (i : ℕ) (x : A) → i < length xs → x ≡ get_or xs i x → (made : List B) (y : B) → made ≡ map f (take i xs) → y ≡ f x
    → made ++ y ∷ [] ≡ map f (take (i + 1) xs)
made_more f xs i x here is made y before same =
    ap (λ ms. ms ++ y ∷ []) before ∙ ap (λ a. map f (take i xs) ++ a ∷ []) same
    ∙ sym (map-append f (take i xs) (x ∷ [])) ∙ ap (map f) (sym (take-here xs i x here is))
