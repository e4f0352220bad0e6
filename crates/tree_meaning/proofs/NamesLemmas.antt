-- Names seen through what holds them.
use Rattle.std.proofs.Common.{◌≡◌, ℕ, suc, ◌+◌, Bool, true, false, cond, List, [], ◌∷◌, ◌++◌, length, get_or, All, AllPairs, zero, ◌-◌, ◌<◌, ◌≤◌, ◌≢◌, slice_get, Some, None, refl, sym, ap, ◌∙◌, arith}
use Rattle.std.proofs.lemmas.List.{length-map}
use Rattle.std.proofs.lemmas.List.Elements.{All-nil, All-cons}
use Rattle.std.proofs.lemmas.List.Kept.{AllPairs-cons}
use Rattle.std.proofs.lemmas.List.Quantifiers.{position-Some}
use Rattle.std.proofs.lemmas.Slice.Eq.{bytes_eq-Decides}
use Rattle.std.proofs.lemmas.List.Folds.{list_all-map}
use Rattle.std.specs.List.{list_all}
use Rattle.tree_meaning.specs.Names.{is_among, are_distinct, are_new, position_of}
use Rattle.std.specs.Prelude.{map, not, nat_lt, ◌||◌, ◌&&◌, position, bytes_eq}
use Rattle.std.specs.List.{list_any, prefix_len}

pub list_any-map : {A B : Type 0} (p : B → Bool) (f : A → B) (xs : List A) → list_any p (map f xs) ≡ list_any (λ x. p (f x)) xs
list_any-map p f [] = refl
list_any-map p f (x ∷ xs) = ap (λ t. p (f x) || t) (list_any-map p f xs)

prefix_len-map : {A B : Type 0} (p : B → Bool) (f : A → B) (xs : List A) → prefix_len p (map f xs) ≡ prefix_len (λ x. p (f x)) xs
prefix_len-map p f [] = refl
prefix_len-map p f (x ∷ xs) = ap (λ n. cond (p (f x)) (1 + n) 0) (prefix_len-map p f xs)

pub position-map : {A B : Type 0} (p : B → Bool) (f : A → B) (xs : List A) → position p (map f xs) ≡ position (λ x. p (f x)) xs
position-map p f xs =
    ap (λ n. cond (nat_lt n (length (map f xs))) (Some n) None) (prefix_len-map (λ y. not (p y)) f xs)
    ∙ ap (λ n. cond (nat_lt (prefix_len (λ x. not (p (f x))) xs) n) (Some (prefix_len (λ x. not (p (f x))) xs)) None) (length-map xs f)

-- ---- names that differ

eq_sym : (xs ys : List ℕ) → bytes_eq xs ys ≡ bytes_eq ys xs
eq_sym xs ys = by_test (bytes_eq xs ys) (bytes_eq ys xs) refl refl where
  by_test : (s t : Bool) → bytes_eq xs ys ≡ s → bytes_eq ys xs ≡ t → s ≡ t
  by_test true true a b = refl
  by_test false false a b = refl
  by_test true false a b = let e = (bytes_eq-Decides xs ys).0 a in let back = (bytes_eq-Decides ys xs).1 (sym e) in cc
  by_test false true a b = let e = (bytes_eq-Decides ys xs).0 b in let back = (bytes_eq-Decides xs ys).1 (sym e) in cc

none_of : (s t : Bool) → (s || t) ≡ false → (s ≡ false) × (t ≡ false)
none_of true t h = cc
none_of false t h = (refl, h)

among_push : (ns : List (List ℕ)) (y n : List ℕ) → is_among ns n ≡ false → bytes_eq n y ≡ false → is_among (ns ++ y ∷ []) n ≡ false
among_push [] y n h e = rw e refl
among_push (m ∷ ns) y n h e = let parts = none_of (bytes_eq n m) (is_among ns n) h in rw (parts.0, among_push ns y n parts.1 e) refl

both_of : (s t : Bool) → (s && t) ≡ true → (s ≡ true) × (t ≡ true)
both_of true t h = (refl, h)
both_of false t h = cc

not_true : (t : Bool) → not t ≡ true → t ≡ false
not_true true h = cc
not_true false h = refl

-- one name more that is not there yet
pub distinct_push : (ns : List (List ℕ)) (y : List ℕ) → are_distinct ns ≡ true → is_among ns y ≡ false → are_distinct (ns ++ y ∷ []) ≡ true
distinct_push [] y h new = refl
distinct_push (n ∷ ns) y h new =
    let here = both_of (not (is_among ns n)) (are_distinct ns) h in
    let apart = none_of (bytes_eq y n) (is_among ns y) new in
    rw (among_push ns y n (not_true (is_among ns n) here.0) (eq_sym n y ∙ apart.0), distinct_push ns y here.1 apart.1) refl

among_middle : (ns ms : List (List ℕ)) (y n : List ℕ) → bytes_eq n y ≡ true → is_among (ns ++ y ∷ ms) n ≡ true
among_middle [] ms y n e = rw e refl
among_middle (m ∷ ns) ms y n e = rw (among_middle ns ms y n e) (or_true (bytes_eq n m)) where
  or_true : (t : Bool) → (t || true) ≡ true
  or_true true = refl
  or_true false = refl

and_false : (t : Bool) → (t && false) ≡ false
and_false true = refl
and_false false = refl

-- a name that is there already
pub distinct_false : (ns ms : List (List ℕ)) (y : List ℕ) → is_among ns y ≡ true → are_distinct (ns ++ y ∷ ms) ≡ false
distinct_false [] ms y h = cc
distinct_false (n ∷ ns) ms y h = by_test (bytes_eq y n) refl h (distinct_false ns ms y) where
  by_test : (t : Bool) → bytes_eq y n ≡ t → (t || is_among ns y) ≡ true → (is_among ns y ≡ true → are_distinct (ns ++ y ∷ ms) ≡ false)
      → (not (is_among (ns ++ y ∷ ms) n) && are_distinct (ns ++ y ∷ ms)) ≡ false
  by_test true e h later = rw (among_middle ns ms y n (eq_sym n y ∙ e)) refl
  by_test false e h later = rw (later h) (and_false (not (is_among (ns ++ y ∷ ms) n)))

among_front : (ns ms : List (List ℕ)) (n : List ℕ) → is_among (ns ++ ms) n ≡ false → is_among ns n ≡ false
among_front [] ms n h = refl
among_front (m ∷ ns) ms n h = let parts = none_of (bytes_eq n m) (is_among (ns ++ ms) n) h in rw (parts.0, among_front ns ms n parts.1) refl

apart_from : (ns : List (List ℕ)) (n : List ℕ) → is_among ns n ≡ false → All (λ other. n ≢ other) ns
apart_from [] n h = All-nil (λ other. n ≢ other)
apart_from (m ∷ ns) n h =
    let parts = none_of (bytes_eq n m) (is_among ns n) h in
    All-cons (λ other. n ≢ other) m ns (λ e. let yes = (bytes_eq-Decides n m).1 e in cc) (apart_from ns n parts.1)

-- the front of names that differ
pub distinct_front : (ns ms : List (List ℕ)) → are_distinct (ns ++ ms) ≡ true → are_distinct ns ≡ true
distinct_front [] ms h = refl
distinct_front (n ∷ ns) ms h =
    let parts = both_of (not (is_among (ns ++ ms) n)) (are_distinct (ns ++ ms)) h in
    rw (among_front ns ms n (not_true (is_among (ns ++ ms) n) parts.0), distinct_front ns ms parts.1) refl

-- the next of names that differ is not among those before it
pub distinct_next : (ns ms : List (List ℕ)) (y : List ℕ) → are_distinct (ns ++ y ∷ ms) ≡ true → is_among ns y ≡ false
distinct_next ns ms y h = by_test (is_among ns y) refl where
  by_test : (t : Bool) → is_among ns y ≡ t → t ≡ false
  by_test true e = let bad = distinct_false ns ms y e in cc
  by_test false e = refl

-- names that differ, as a relation
pub distinct_pairs : (ns : List (List ℕ)) → are_distinct ns ≡ true → AllPairs (λ one other. one ≢ other) ns
distinct_pairs [] h = λ i j d below within. absurd (omega arith)
distinct_pairs (n ∷ ns) h =
    let parts = both_of (not (is_among ns n)) (are_distinct ns) h in
    AllPairs-cons (λ one other. one ≢ other) n ns (apart_from ns n (not_true (is_among ns n) parts.0)) (distinct_pairs ns parts.1)

-- ---- places of names

pub slice_get-at : {A : Type 0} (xs : List A) (k : ℕ) (d : A) → k < length xs → slice_get xs k ≡ Some (get_or xs k d)
slice_get-at [] k d h = absurd (omega arith)
slice_get-at (x ∷ xs) zero d h = refl
slice_get-at (x ∷ xs) (suc k) d h = slice_get-at xs k d (omega arith)

-- what stands at the place of a name is the name
pub position_found : (ns : List (List ℕ)) (name : List ℕ) (k : ℕ) → position_of ns name ≡ Some k → (k < length ns) × (slice_get ns k ≡ Some name)
position_found ns name k e =
    let at = position-Some (bytes_eq name) ns k [] e in
    let same : name ≡ get_or ns k [] = (bytes_eq-Decides name (get_or ns k [])).0 at.1 in
    (at.0, slice_get-at ns k [] at.0 ∙ ap Some (sym same))

-- in one list behind another
pub slice_get-append : {A : Type 0} (xs ys : List A) (k : ℕ) → length xs ≤ k → slice_get (xs ++ ys) k ≡ slice_get ys (k - length xs)
slice_get-append [] ys k h = let same : k ≡ k - 0 = omega arith in ap (slice_get ys) same
slice_get-append (x ∷ xs) ys zero h = absurd (omega arith)
slice_get-append (x ∷ xs) ys (suc k) h =
    let same : k - length xs ≡ suc k - suc (length xs) = omega arith in
    slice_get-append xs ys k (omega arith) ∙ ap (slice_get ys) same

-- names behind references
pub new_of_map : {A : Type 0} (names : List (List ℕ)) (f : A → List ℕ) (xs : List A) → are_new names (map f xs) ≡ list_all (λ x. not (is_among names (f x))) xs
new_of_map names f xs = list_all-map (λ n. not (is_among names n)) f xs
