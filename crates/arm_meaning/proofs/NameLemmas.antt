-- Names that are added to others, one after the other.
use Rattle.std.proofs.Common.{◌≡◌, ℕ, Bool, true, false, cond, List, [], ◌∷◌, ◌++◌, refl, sym, ap, ◌∙◌}
use Rattle.std.specs.Prelude.{not, bytes_eq, ◌&&◌, ◌||◌}
use Rattle.std.proofs.lemmas.List.Folds.{list_any-append}
use Rattle.std.proofs.lemmas.Slice.Eq.{bytes_eq-Decides}
use Rattle.tree_meaning.specs.Names.{is_among, are_distinct, merged, are_new}
use Rattle.tree_meaning.proofs.Merging.{with_name}

-- none of the second names is among the first, and none stands among them twice: the first names that are there are those, and each of
-- the second that was added
abbrev pub are_fresh : List (List ℕ) → List (List ℕ) → Bool
are_fresh names [] = true
are_fresh names (n ∷ ns) = not (is_among names n) && are_fresh (with_name names n) ns

and_assoc : (a b c : Bool) → (a && (b && c)) ≡ ((a && b) && c)
and_assoc true b c = refl
and_assoc false b c = refl

pub fresh_append : (names ns ms : List (List ℕ)) → are_fresh names (ns ++ ms) ≡ (are_fresh names ns && are_fresh (merged names ns) ms)
fresh_append names [] ms = refl
fresh_append names (n ∷ ns) ms =
    ap (λ t. not (is_among names n) && t) (fresh_append (with_name names n) ns ms)
    ∙ and_assoc (not (is_among names n)) (are_fresh (with_name names n) ns) (are_fresh (merged (with_name names n) ns) ms)

pub merged_append : (names ns ms : List (List ℕ)) → merged names (ns ++ ms) ≡ merged (merged names ns) ms
merged_append names [] ms = refl
merged_append names (n ∷ ns) ms = merged_append (with_name names n) ns ms

-- ---- at once

eq_sym : (xs ys : List ℕ) → bytes_eq xs ys ≡ bytes_eq ys xs
eq_sym xs ys = by_test (bytes_eq xs ys) (bytes_eq ys xs) refl refl where
  by_test : (s t : Bool) → bytes_eq xs ys ≡ s → bytes_eq ys xs ≡ t → s ≡ t
  by_test true true a b = refl
  by_test false false a b = refl
  by_test true false a b = let e = (bytes_eq-Decides xs ys).0 a in let back = (bytes_eq-Decides ys xs).1 (sym e) in cc
  by_test false true a b = let e = (bytes_eq-Decides ys xs).0 b in let back = (bytes_eq-Decides xs ys).1 (sym e) in cc

among_push : (names : List (List ℕ)) (m n : List ℕ) → is_among (names ++ m ∷ []) n ≡ (is_among names n || bytes_eq m n)
among_push names m n = list_any-append (bytes_eq n) names (m ∷ []) ∙ ap (λ t. is_among names n || t) (or_false (bytes_eq n m) ∙ eq_sym n m) where
  or_false : (t : Bool) → (t || false) ≡ t
  or_false true = refl
  or_false false = refl

-- four tests in another order
exchanged : (a b c d : Bool) → (not (a || b) && (c && not d)) ≡ ((not a && c) && not (b || d))
exchanged true b c d = refl
exchanged false true true d = refl
exchanged false true false d = refl
exchanged false false true d = refl
exchanged false false false d = refl

new_push : (names : List (List ℕ)) (n : List ℕ) (ns : List (List ℕ)) → are_new (names ++ n ∷ []) ns ≡ (are_new names ns && not (is_among ns n))
new_push names n [] = refl
new_push names n (m ∷ ns) =
    ap (λ t. not t && are_new (names ++ n ∷ []) ns) (among_push names n m)
    ∙ ap (λ t. not (is_among names m || bytes_eq n m) && t) (new_push names n ns)
    ∙ exchanged (is_among names m) (bytes_eq n m) (are_new names ns) (is_among ns n)

and_moved : (a b c : Bool) → ((a && b) && c) ≡ (a && (b && c))
and_moved true b c = refl
and_moved false b c = refl

pub fresh_is : (names ns : List (List ℕ)) → are_fresh names ns ≡ (are_new names ns && are_distinct ns)
fresh_is names [] = refl
fresh_is names (n ∷ ns) = by_test (is_among names n) (fresh_is (names ++ n ∷ []) ns) where
  by_test : (t : Bool) → are_fresh (names ++ n ∷ []) ns ≡ (are_new (names ++ n ∷ []) ns && are_distinct ns)
      → (not t && are_fresh (cond t names (names ++ n ∷ [])) ns) ≡ ((not t && are_new names ns) && (not (is_among ns n) && are_distinct ns))
  by_test true later = refl
  by_test false later = later ∙ ap (λ t. t && are_distinct ns) (new_push names n ns) ∙ and_moved (are_new names ns) (not (is_among ns n)) (are_distinct ns)

pub new_in_none : (ns : List (List ℕ)) → are_new [] ns ≡ true
new_in_none [] = refl
new_in_none (n ∷ ns) = new_in_none ns
