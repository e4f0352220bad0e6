-- Lists of names, merged.
use Rattle.std.proofs.Common.{◌≡◌, ℕ, suc, ◌+◌, ◌<◌, Bool, true, false, cond, List, [], ◌∷◌, ◌++◌, map, take, drop, get_or, length, refl, sym, ap, ◌∙◌}
use Rattle.std.specs.Prelude.{bytes_eq, not, ◌&&◌, ◌||◌, fold}
use Rattle.std.specs.List.{list_all, AllByRecursion, IsDistinct}
use Rattle.std.proofs.lemmas.List.{append_assoc, append-nil, map-append, take_more, take-append-drop}
use Rattle.std.proofs.Math.Seq.{drop-cons}
use Rattle.std.proofs.lemmas.List.Folds.{list_any-append, list_all-append}
use Rattle.std.proofs.lemmas.List.Sums.{fold_push}
use Rattle.std.proofs.lemmas.Slice.Eq.{bytes_eq-Decides}
use Rattle.tree_meaning.specs.Names.{is_among, are_distinct, merged, are_new, are_same_names}
use Rattle.tree_meaning.specs.Bindings.{union, are_apart, have_same_names}
use Rattle.tree_meaning.proofs.NamesLemmas.{distinct_push, distinct_false, distinct_next}

-- a name put behind the others if it is not there yet
abbrev pub with_name : List (List ℕ) → List ℕ → List (List ℕ)
with_name names n = cond (is_among names n) names (names ++ n ∷ [])

pub merged_push : (names ms : List (List ℕ)) (n : List ℕ) → merged names (ms ++ n ∷ []) ≡ with_name (merged names ms) n
merged_push names [] n = refl
merged_push names (m ∷ ms) n = merged_push (with_name names m) ms n

among_push : (names : List (List ℕ)) (m n : List ℕ) → is_among (names ++ m ∷ []) n ≡ (is_among names n || bytes_eq n m)
among_push names m n = list_any-append (bytes_eq n) names (m ∷ []) ∙ ap (λ t. is_among names n || t) (or_false (bytes_eq n m)) where
  or_false : (t : Bool) → (t || false) ≡ t
  or_false true = refl
  or_false false = refl

among_with : (names : List (List ℕ)) (m n : List ℕ) → is_among (with_name names m) n ≡ (is_among names n || bytes_eq n m)
among_with names m n = by_test (is_among names m) refl where
  absorbed : (t : Bool) → bytes_eq n m ≡ t → is_among names m ≡ true → is_among names n ≡ (is_among names n || t)
  absorbed true e there = let same = (bytes_eq-Decides n m).0 e in let here : is_among names n ≡ true = ap (is_among names) same ∙ there in rw here refl
  absorbed false e there = or_none (is_among names n) where
    or_none : (t : Bool) → t ≡ (t || false)
    or_none true = refl
    or_none false = refl

  by_test : (t : Bool) → is_among names m ≡ t → is_among (cond t names (names ++ m ∷ [])) n ≡ (is_among names n || bytes_eq n m)
  by_test true there = absorbed (bytes_eq n m) refl there
  by_test false there = among_push names m n

or_assoc : (a b c : Bool) → ((a || b) || c) ≡ (a || (b || c))
or_assoc true b c = refl
or_assoc false b c = refl

pub among_merged : (names ms : List (List ℕ)) (n : List ℕ) → is_among (merged names ms) n ≡ (is_among names n || is_among ms n)
among_merged names [] n = or_none (is_among names n) where
  or_none : (t : Bool) → t ≡ (t || false)
  or_none true = refl
  or_none false = refl
among_merged names (m ∷ ms) n =
    among_merged (with_name names m) ms n ∙ ap (λ t. t || is_among ms n) (among_with names m n)
    ∙ or_assoc (is_among names n) (bytes_eq n m) (is_among ms n)

-- ---- what is merged differs

with_distinct : (names : List (List ℕ)) (m : List ℕ) → are_distinct names ≡ true → are_distinct (with_name names m) ≡ true
with_distinct names m h = by_test (is_among names m) refl where
  by_test : (t : Bool) → is_among names m ≡ t → are_distinct (cond t names (names ++ m ∷ [])) ≡ true
  by_test true e = h
  by_test false e = distinct_push names m h e

merged_distinct : (names ms : List (List ℕ)) → are_distinct names ≡ true → are_distinct (merged names ms) ≡ true
merged_distinct names [] h = h
merged_distinct names (m ∷ ms) h = merged_distinct (with_name names m) ms (with_distinct names m h)

union_distinct_from : (names : List (List ℕ)) (rows : List (List (List ℕ))) → are_distinct names ≡ true → are_distinct (fold merged names rows) ≡ true
union_distinct_from names [] h = h
union_distinct_from names (ms ∷ rows) h = union_distinct_from (merged names ms) rows (merged_distinct names ms h)

pub union_distinct : (rows : List (List (List ℕ))) → are_distinct (union rows) ≡ true
union_distinct rows = union_distinct_from [] rows refl

merged_behind : (names ms : List (List ℕ)) → are_distinct (names ++ ms) ≡ true → merged names ms ≡ names ++ ms
merged_behind names [] h = sym (append-nil names)
merged_behind names (m ∷ ms) h =
    let new : is_among names m ≡ false = distinct_next names ms m h in
    let split : (names ++ m ∷ []) ++ ms ≡ names ++ (m ∷ ms) = append_assoc names (m ∷ []) ms in
    ap (λ t. merged (cond t names (names ++ m ∷ [])) ms) new
    ∙ merged_behind (names ++ m ∷ []) ms (ap are_distinct split ∙ h) ∙ split

-- names that differ, merged into none
pub merged_alone : (ns : List (List ℕ)) → are_distinct ns ≡ true → merged [] ns ≡ ns
merged_alone ns h = merged_behind [] ns h

-- ---- one list more

pub union_push : (rows : List (List (List ℕ))) (ms : List (List ℕ)) → union (rows ++ ms ∷ []) ≡ merged (union rows) ms
union_push rows ms = fold_push merged [] rows ms

and_true : (t : Bool) → (t && true) ≡ t
and_true true = refl
and_true false = refl

and_assoc : (a b c : Bool) → (a && (b && c)) ≡ ((a && b) && c)
and_assoc true b c = refl
and_assoc false b c = refl

apart_push_from : (names : List (List ℕ)) (rows : List (List (List ℕ))) (ms : List (List ℕ))
    → are_apart names (rows ++ ms ∷ []) ≡ (are_apart names rows && are_new (fold merged names rows) ms)
apart_push_from names [] ms = and_true (are_new names ms)
apart_push_from names (ns ∷ rows) ms =
    ap (λ t. are_new names ns && t) (apart_push_from (merged names ns) rows ms)
    ∙ and_assoc (are_new names ns) (are_apart (merged names ns) rows) (are_new (fold merged (merged names ns) rows) ms)

pub apart_push : (rows : List (List (List ℕ))) (ms : List (List ℕ)) → are_apart [] (rows ++ ms ∷ []) ≡ (are_apart [] rows && are_new (union rows) ms)
apart_push rows ms = apart_push_from [] rows ms

-- ---- the names of sides

both_of : (s t : Bool) → (s && t) ≡ true → (s ≡ true) × (t ≡ true)
both_of true t h = (refl, h)
both_of false t h = cc

merged_known : (names ms : List (List ℕ)) → list_all (is_among names) ms ≡ true → merged names ms ≡ names
merged_known names [] h = refl
merged_known names (m ∷ ms) h =
    let parts = both_of (is_among names m) (list_all (is_among names) ms) h in
    ap (λ t. merged (cond t names (names ++ m ∷ [])) ms) parts.0 ∙ merged_known names ms parts.1

same_union : (ns : List (List ℕ)) (rows : List (List (List ℕ))) → list_all (are_same_names ns) rows ≡ true → fold merged ns rows ≡ ns
same_union ns [] h = refl
same_union ns (ms ∷ rows) h =
    let parts = both_of (are_same_names ns ms) (list_all (are_same_names ns) rows) h in
    let known = both_of (list_all (is_among ms) ns) (list_all (is_among ns) ms) parts.0 in
    ap (λ names. fold merged names rows) (merged_known ns ms known.1) ∙ same_union ns rows parts.1

-- sides that bind the same names, and one side more: the first side's names are those of all
pub same_push : (ns ms : List (List ℕ)) (rows : List (List (List ℕ))) → are_distinct ns ≡ true
    → have_same_names ((ns ∷ rows) ++ ms ∷ []) ≡ (have_same_names (ns ∷ rows) && are_same_names (union (ns ∷ rows)) ms)
same_push ns ms rows h =
    list_all-append (are_same_names ns) rows (ms ∷ [])
    ∙ ap (λ t. list_all (are_same_names ns) rows && t) (and_true (are_same_names ns ms))
    ∙ by_test (list_all (are_same_names ns) rows) refl where
      by_test : (t : Bool) → list_all (are_same_names ns) rows ≡ t → (t && are_same_names ns ms) ≡ (t && are_same_names (union (ns ∷ rows)) ms)
      by_test false e = refl
      by_test true e =
          let whole : union (ns ∷ rows) ≡ ns = ap (λ names. fold merged names rows) (merged_alone ns h) ∙ same_union ns rows e in
          ap (λ names. are_same_names names ms) (sym whole)

-- ---- a table's names, one after the other

module _ {X : Type 0} (f : X → List ℕ) where
  apart_names : (x : X) (xs : List X) → AllByRecursion (λ y. bytes_eq (f x) (f y) ≡ false) xs → is_among (map f xs) (f x) ≡ false
  apart_names x [] h = refl
  apart_names x (y ∷ ys) h = rw (h.0, apart_names x ys h.1) refl

  pub distinct_names : (xs : List X) → IsDistinct (λ x y. bytes_eq (f x) (f y)) xs → are_distinct (map f xs) ≡ true
  unfolding IsDistinct
  distinct_names [] h = refl
  distinct_names (x ∷ xs) h = rw (apart_names x xs h.0, distinct_names xs h.1) refl

  module _ (xs : List X) (i : ℕ) (d : X) (within : i < length xs) where
    -- one name more
    pub taken : map f (take (i + 1) xs) ≡ map f (take i xs) ++ f (get_or xs i d) ∷ []
    taken = ap (map f) (take_more xs i d within) ∙ map-append f (take i xs) (get_or xs i d ∷ [])

    split : map f xs ≡ map f (take i xs) ++ f (get_or xs i d) ∷ map f (drop (suc i) xs)
    split = ap (map f) (sym (take-append-drop i xs) ∙ ap (λ z. take i xs ++ z) (drop-cons xs i d within)) ∙ map-append f (take i xs) (get_or xs i d ∷ drop (suc i) xs)

    pub merged_taken : (names : List (List ℕ)) → merged names (map f (take (i + 1) xs)) ≡ with_name (merged names (map f (take i xs))) (f (get_or xs i d))
    merged_taken names = ap (merged names) taken ∙ merged_push names (map f (take i xs)) (f (get_or xs i d))

    next_new : are_distinct (map f xs) ≡ true → is_among (map f (take i xs)) (f (get_or xs i d)) ≡ false
    next_new distinct = distinct_next (map f (take i xs)) (map f (drop (suc i) xs)) (f (get_or xs i d)) (ap are_distinct (sym split) ∙ distinct)

    pub new_taken : (names : List (List ℕ)) → are_distinct (map f xs) ≡ true
        → are_new names (map f (take (i + 1) xs)) ≡ (are_new names (map f (take i xs)) && not (is_among (merged names (map f (take i xs))) (f (get_or xs i d))))
    new_taken names distinct =
        ap (are_new names) taken ∙ list_all-append (λ n. not (is_among names n)) (map f (take i xs)) (f (get_or xs i d) ∷ [])
        ∙ ap (λ t. are_new names (map f (take i xs)) && t) (and_true (not (is_among names (f (get_or xs i d)))) ∙ ap not (sym known))
      where
        or_false : (t : Bool) → (t || false) ≡ t
        or_false true = refl
        or_false false = refl

        known : is_among (merged names (map f (take i xs))) (f (get_or xs i d)) ≡ is_among names (f (get_or xs i d))
        known =
            among_merged names (map f (take i xs)) (f (get_or xs i d))
            ∙ ap (λ t. is_among names (f (get_or xs i d)) || t) (next_new distinct) ∙ or_false (is_among names (f (get_or xs i d)))

    -- a name that stands before its place already
    pub distinct_not : is_among (map f (take i xs)) (f (get_or xs i d)) ≡ true → are_distinct (map f xs) ≡ false
    distinct_not there = ap are_distinct split ∙ distinct_false (map f (take i xs)) (map f (drop (suc i) xs)) (f (get_or xs i d)) there

    pub not_all : (p : List ℕ → Bool) → p (f (get_or xs i d)) ≡ false → list_all p (map f xs) ≡ false
    not_all p fails =
        ap (list_all p) split ∙ list_all-append p (map f (take i xs)) (f (get_or xs i d) ∷ map f (drop (suc i) xs))
        ∙ ap (λ t. list_all p (map f (take i xs)) && (t && list_all p (map f (drop (suc i) xs)))) fails ∙ and_false (list_all p (map f (take i xs)))
      where
        and_false : (t : Bool) → (t && false) ≡ false
        and_false true = refl
        and_false false = refl
