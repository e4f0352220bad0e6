-- Lists, through tests and what is picked from them.
use Rattle.std.proofs.Common.{◌≡◌, ℕ, zero, suc, ◌+◌, ◌<◌, ◌≤◌, Bool, true, false, cond, List, [], ◌∷◌, ◌++◌, map, length, get_or, take, drop, slice_get, Some, None, refl, sym, ap, ◌∙◌, arith}
use Rattle.std.specs.Prelude.{Option, not, nat_lt, ◌&&◌, ◌||◌, is_some, position}
use Rattle.std.specs.List.{list_all, list_any, filter_map, flat_map, cons_option, prefix_len}
use Rattle.std.specs.Option.{option_and_then, option_to_list}
use Rattle.std.proofs.Math.Path.{fun_ext}
use Rattle.std.proofs.lemmas.Bool.Decides.{nat_tests}
use Rattle.std.proofs.lemmas.List.{map-append, drop-map}
use Rattle.std.proofs.lemmas.List.Folds.{list_all-append, list_all-map}
use Rattle.std.proofs.lemmas.List.Elements.{filter_map-append}
use Rattle.tree_meaning.specs.Names.{is_among, merged}
use Rattle.tree_meaning.proofs.ListLemmas.{take-here, drop-here}
use Rattle.tree_meaning.proofs.Merging.{with_name, among_merged}

pub both_of : (s t : Bool) → (s && t) ≡ true → (s ≡ true) × (t ≡ true)
both_of true t h = (refl, h)
both_of false t h = cc

pub not_true : (t : Bool) → not t ≡ true → t ≡ false
not_true true h = cc
not_true false h = refl

-- what is there after a name was added
pub with_added : (names : List (List ℕ)) (n : List ℕ) (new : Bool) → new ≡ not (is_among names n) → cond new (names ++ n ∷ []) names ≡ with_name names n
with_added names n new e = ap (λ t. cond t (names ++ n ∷ []) names) e ∙ by_test (is_among names n) where
  by_test : (t : Bool) → cond (not t) (names ++ n ∷ []) names ≡ cond t names (names ++ n ∷ [])
  by_test true = refl
  by_test false = refl

-- a table that has each of the names has the same names
pub same_among : (ns ms : List (List ℕ)) → ns ≡ merged [] ms → is_among ns ≡ is_among ms
same_among ns ms e = fun_ext (λ n. ap (λ names. is_among names n) e ∙ among_merged [] ms n)

picked_one : {X : Type 0} (o : Option X) → cons_option o [] ≡ option_to_list o
picked_one None = refl
picked_one (Some x) = refl

module _ {X Y : Type 0} where
  -- a test of what stands behind references
  pub all_behind : (p : Y → Bool) (now : X → Y) (xs : List X) (ys : List Y) → map now xs ≡ ys → list_all (λ x. p (now x)) xs ≡ list_all p ys
  all_behind p now xs ys e = sym (list_all-map p now xs) ∙ ap (list_all p) e

  -- one item more is picked, or none
  pub picked_more : (h : X → Option Y) (xs : List X) (i : ℕ) (x : X) → i < length xs → x ≡ get_or xs i x
      → filter_map h (take (i + 1) xs) ≡ filter_map h (take i xs) ++ option_to_list (h x)
  picked_more h xs i x lt is =
      ap (filter_map h) (take-here xs i x lt is) ∙ filter_map-append h (take i xs) (x ∷ [])
      ∙ ap (λ z. filter_map h (take i xs) ++ z) (picked_one (h x))

  -- the same of what stands behind references
  pub picked_behind : {Z : Type 0} (h : Y → Option Z) (now : X → Y) (xs : List X) (i : ℕ) (x : X) → i < length xs → x ≡ get_or xs i x
      → filter_map h (map now (take (i + 1) xs)) ≡ filter_map h (map now (take i xs)) ++ option_to_list (h (now x))
  picked_behind h now xs i x lt is =
      ap (λ ys. filter_map h (map now ys)) (take-here xs i x lt is)
      ∙ ap (filter_map h) (map-append now (take i xs) (x ∷ []))
      ∙ filter_map-append h (map now (take i xs)) (now x ∷ [])
      ∙ ap (λ z. filter_map h (map now (take i xs)) ++ z) (picked_one (h (now x)))

  pub drop_behind : (now : X → Y) (xs : List X) (i : ℕ) (x : X) → i < length xs → x ≡ get_or xs i x → drop i (map now xs) ≡ now x ∷ drop (i + 1) (map now xs)
  drop_behind now xs i x lt is =
      drop-map now i xs ∙ ap (map now) (drop-here xs i x lt) ∙ ap (λ y. now y ∷ map now (drop (i + 1) xs)) (sym is)
      ∙ ap (λ ys. now x ∷ ys) (sym (drop-map now (i + 1) xs))

  -- what stands at a place among the picked, where each item gives one
  pub slice_get-filter_map : (h : X → Option Y) (xs : List X) (k : ℕ) → list_all (λ x. is_some (h x)) xs ≡ true
      → slice_get (filter_map h xs) k ≡ option_and_then h (slice_get xs k)
  slice_get-filter_map h [] k all = refl
  slice_get-filter_map h (x ∷ xs) k all =
      let parts = both_of (is_some (h x)) (list_all (λ y. is_some (h y)) xs) all in
      by_value (h x) refl parts.0 k (λ n. slice_get-filter_map h xs n parts.1)
    where
      by_value : (o : Option Y) → h x ≡ o → is_some o ≡ true → (k : ℕ) → ((n : ℕ) → slice_get (filter_map h xs) n ≡ option_and_then h (slice_get xs n))
          → slice_get (cons_option o (filter_map h xs)) k ≡ option_and_then h (slice_get (x ∷ xs) k)
      by_value None e some k later = cc
      by_value (Some y) e some zero later = sym e
      by_value (Some y) e some (suc k) later = later k

  pub length-filter_map : (h : X → Option Y) (xs : List X) → length (filter_map h xs) ≤ length xs
  length-filter_map h [] = omega arith
  length-filter_map h (x ∷ xs) = by_value (h x) (length-filter_map h xs) where
    by_value : (o : Option Y) → length (filter_map h xs) ≤ length xs → length (cons_option o (filter_map h xs)) ≤ length (x ∷ xs)
    by_value None h = omega arith
    by_value (Some y) h = omega arith

  pub all-flat_map : (p : Y → Bool) (f : X → List Y) (xs : List X) → list_all p (flat_map f xs) ≡ list_all (λ x. list_all p (f x)) xs
  all-flat_map p f [] = refl
  all-flat_map p f (x ∷ xs) = list_all-append p (f x) (flat_map f xs) ∙ ap (λ t. list_all p (f x) && t) (all-flat_map p f xs)

below_none : (n : ℕ) → nat_lt 0 (suc n) ≡ true
below_none n = grind (arith, nat_tests)

below_more : (m n : ℕ) → nat_lt (1 + m) (suc n) ≡ nat_lt m n
below_more m n = by_below (nat_lt m n) refl where
  by_below : (t : Bool) → nat_lt m n ≡ t → nat_lt (1 + m) (suc n) ≡ t
  by_below true e = grind (arith, nat_tests)
  by_below false e = grind (arith, nat_tests)

module _ {X : Type 0} where
  -- what all pass, all pass by a weaker test
  pub all_weaker : (p q : X → Bool) (xs : List X) → ((x : X) → p x ≡ true → q x ≡ true) → list_all p xs ≡ true → list_all q xs ≡ true
  all_weaker p q [] weaker h = refl
  all_weaker p q (x ∷ xs) weaker h =
      let parts = both_of (p x) (list_all p xs) h in
      rw (weaker x parts.0, all_weaker p q xs weaker parts.1) refl

  pub all_at : (p : X → Bool) (xs : List X) (i : ℕ) (x : X) → i < length xs → x ≡ get_or xs i x → list_all p xs ≡ true → p x ≡ true
  all_at p [] i x lt is h = absurd (omega arith)
  all_at p (y ∷ ys) zero x lt is h = ap p is ∙ (both_of (p y) (list_all p ys) h).0
  all_at p (y ∷ ys) (suc i) x lt is h = all_at p ys i x (omega arith) is (both_of (p y) (list_all p ys) h).1

  pub all_more : (p : X → Bool) (xs : List X) (i : ℕ) (x : X) → i < length xs → x ≡ get_or xs i x → list_all p (take i xs) ≡ true → p x ≡ true
      → list_all p (take (i + 1) xs) ≡ true
  all_more p xs i x lt is before here =
      ap (list_all p) (take-here xs i x lt is) ∙ list_all-append p (take i xs) (x ∷ []) ∙ rw (before, here) refl

  -- a position is found where some item passes
  pub position_test : (p : X → Bool) (xs : List X) → nat_lt (prefix_len (λ x. not (p x)) xs) (length xs) ≡ list_any p xs
  position_test p [] = refl
  position_test p (x ∷ xs) = by_test (p x) (position_test p xs) where
    by_test : (t : Bool) → nat_lt (prefix_len (λ y. not (p y)) xs) (length xs) ≡ list_any p xs
        → nat_lt (cond (not t) (1 + prefix_len (λ y. not (p y)) xs) 0) (suc (length xs)) ≡ (t || list_any p xs)
    by_test true h = below_none (length xs)
    by_test false h = below_more (prefix_len (λ y. not (p y)) xs) (length xs) ∙ h

  pub position_none : (p : X → Bool) (xs : List X) → position p xs ≡ None → list_any p xs ≡ false
  position_none p xs e = by_test (nat_lt (prefix_len (λ x. not (p x)) xs) (length xs)) refl e where
    by_test : (t : Bool) → nat_lt (prefix_len (λ x. not (p x)) xs) (length xs) ≡ t → cond t (Some (prefix_len (λ x. not (p x)) xs)) None ≡ None → list_any p xs ≡ false
    by_test true is e = cc
    by_test false is e = sym (position_test p xs) ∙ is
