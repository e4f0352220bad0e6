-- Choices that are made from the left are those that the definition makes from the right.
use Rattle.std.proofs.Common.{◌≡◌, ℕ, ◌+◌, ◌-◌, ◌<◌, ◌≤◌, List, [], ◌∷◌, ◌++◌, map, length, get_or, take, refl, sym, ap, ◌∙◌, arith}
use Rattle.std.specs.List.{flat_map, fold, range_with_len}
use Rattle.std.proofs.lemmas.Grind.{flat_map-append}
use Rattle.std.proofs.lemmas.List.{append-nil, append_assoc, map-append}
use Rattle.std.proofs.lemmas.List.Concat.{flat_map_single}
use Rattle.std.proofs.lemmas.List.FromFn.{map-range_with_len_more}
use Rattle.sled_model.proofs.Lists.{flat_map_take}
use Rattle.tree_meaning.specs.Patterns.{choices, extended_by}

pub map-map : {B C D : Type 0} (f : C → D) (g : B → C) (xs : List B) → map f (map g xs) ≡ map (λ x. f (g x)) xs
map-map f g [] = refl
map-map f g (x ∷ xs) = ap (λ ys. f (g x) ∷ ys) (map-map f g xs)

-- a list of one element
pub only_one : {B : Type 0} (xs : List B) (d : B) → length xs ≡ 1 → xs ≡ get_or xs 0 d ∷ []
only_one [] d h = absurd (omega (arith, h))
only_one (x ∷ []) d h = refl
only_one (x ∷ y ∷ ys) d h = absurd (omega (arith, h))

-- one number more of a range
pub range_more : {B : Type 0} (f : ℕ → B) (a k : ℕ) → a ≤ k → map f (range_with_len a (k + 1 - a)) ≡ map f (range_with_len a (k - a)) ++ f k ∷ []
range_more f a k h =
    let longer : k + 1 - a ≡ (k - a) + 1 = omega arith in
    ap (λ n. map f (range_with_len a n)) longer ∙ map-range_with_len_more f a (k - a) k (omega arith)

module _ {A : Type 0} where
  -- each of the lists, with each of the others behind it
  abbrev joined : List (List A) → List (List A) → List (List A)
  joined chosen rest = flat_map (λ c. map (λ d. c ++ d) rest) chosen

  joined_empty : (chosen : List (List A)) → joined chosen ([] ∷ []) ≡ chosen
  joined_empty [] = refl
  joined_empty (c ∷ cs) = ap (λ d. d ∷ joined cs ([] ∷ [])) (append-nil c) ∙ ap (λ ds. c ∷ ds) (joined_empty cs)

  -- one list, with each of the elements and then each of the others behind it
  one_list : (c : List A) (xs : List A) (rest : List (List A)) → joined (map (λ x. c ++ x ∷ []) xs) rest ≡ map (λ d. c ++ d) (flat_map (λ x. map (λ d. x ∷ d) rest) xs)
  one_list c [] rest = refl
  one_list c (x ∷ xs) rest =
      ap (λ ds. ds ++ joined (map (λ y. c ++ y ∷ []) xs) rest) (front rest)
      ∙ ap (λ ds. map (λ d. c ++ d) (map (λ d. x ∷ d) rest) ++ ds) (one_list c xs rest)
      ∙ sym (map-append (λ d. c ++ d) (map (λ d. x ∷ d) rest) (flat_map (λ y. map (λ d. y ∷ d) rest) xs)) where
        front : (ds : List (List A)) → map (λ d. (c ++ x ∷ []) ++ d) ds ≡ map (λ d. c ++ d) (map (λ d. x ∷ d) ds)
        front [] = refl
        front (d ∷ ds) = ap (λ e. e ∷ map (λ e. (c ++ x ∷ []) ++ e) ds) (append_assoc c (x ∷ []) d) ∙ ap (λ es. (c ++ (x ∷ d)) ∷ es) (front ds)

  joined-extended : (chosen : List (List A)) (xs : List A) (rest : List (List A)) → joined (extended_by chosen xs) rest ≡ joined chosen (flat_map (λ x. map (λ d. x ∷ d) rest) xs)
  joined-extended [] xs rest = refl
  joined-extended (c ∷ cs) xs rest =
      flat_map-append (λ e. map (λ d. e ++ d) rest) (map (λ x. c ++ x ∷ []) xs) (extended_by cs xs)
      ∙ ap (λ ds. ds ++ joined (extended_by cs xs) rest) (one_list c xs rest)
      ∙ ap (λ ds. map (λ d. c ++ d) (flat_map (λ x. map (λ d. x ∷ d) rest) xs) ++ ds) (joined-extended cs xs rest)

  extended : (chosen : List (List A)) (xss : List (List A)) → fold extended_by chosen xss ≡ joined chosen (choices xss)
  extended chosen [] = sym (joined_empty chosen)
  extended chosen (xs ∷ xss) = extended (extended_by chosen xs) xss ∙ joined-extended chosen xs (choices xss)

  map_same : (xs : List (List A)) → map (λ d. [] ++ d) xs ≡ xs
  map_same [] = refl
  map_same (x ∷ xs) = ap (λ ys. x ∷ ys) (map_same xs)

  -- the choices, made from the left
  pub choices_from_left : (xss : List (List A)) → fold extended_by ([] ∷ []) xss ≡ choices xss
  choices_from_left xss = extended ([] ∷ []) xss ∙ append-nil (map (λ d. [] ++ d) (choices xss)) ∙ map_same (choices xss)

  -- one list more
  pub extended_more : (chosen : List (List A)) (xs : List A) (i : ℕ) (c : List A) → i < length chosen → c ≡ get_or chosen i c
      → extended_by (take (i + 1) chosen) xs ≡ extended_by (take i chosen) xs ++ map (λ x. c ++ x ∷ []) xs
  extended_more chosen xs i c h is = flat_map_take (λ e. map (λ x. e ++ x ∷ []) xs) chosen i c h is

  -- one element
  pub extended_one : (chosen : List (List A)) (x : A) → extended_by chosen (x ∷ []) ≡ map (λ c. c ++ x ∷ []) chosen
  extended_one chosen x = flat_map_single (λ c. c ++ x ∷ []) chosen
