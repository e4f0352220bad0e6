-- What is picked of lists of names.
use Rattle.std.proofs.Common.{◌≡◌, ◌≢◌, ℕ, Bool, true, false, cond, List, [], ◌∷◌, ◌++◌, map, All, Some, None, refl, sym, ap, ◌∙◌, arith}
use Rattle.std.specs.Prelude.{Option, AllPairs, not, ◌||◌, ◌==◌, fold, bytes_eq}
use Rattle.std.specs.List.{list_all, filter_map, flat_map, cons_option}
use Rattle.std.specs.Option.{option_and_then}
use Rattle.std.proofs.lemmas.Bool.Decides.{nat_tests}
use Rattle.std.proofs.lemmas.List.{append_assoc, append-nil}
use Rattle.std.proofs.lemmas.List.Elements.{All-nil, All-cons, filter_map-append}
use Rattle.std.proofs.lemmas.List.Folds.{list_any-append}
use Rattle.std.proofs.lemmas.List.Kept.{AllPairs-cons}
use Rattle.std.proofs.lemmas.Slice.Eq.{bytes_eq-Decides}
use Rattle.sled_model.specs.SolvingOrder.{is_among as is_number_among}
use Rattle.tree_meaning.specs.Names.{is_among, are_distinct, merged, are_new}
use Rattle.tree_meaning.specs.Bindings.{union, are_apart, are_none}
use Rattle.operand_meaning.proofs.ListFacts.{both_of, not_true}

-- ---- names that differ

pub itself : (w : List ℕ) → bytes_eq w w ≡ true
itself w = (bytes_eq-Decides w w).1 refl

differ_back : (m n : List ℕ) → bytes_eq m n ≡ false → bytes_eq n m ≡ false
differ_back m n differ = by_test (bytes_eq n m) refl where
  by_test : (t : Bool) → bytes_eq n m ≡ t → t ≡ false
  by_test false is = refl
  by_test true is =
      let same : n ≡ m = (bytes_eq-Decides n m).0 is in
      let equal : bytes_eq m n ≡ true = ap (bytes_eq m) same ∙ itself m in cc

neither : (s t : Bool) → (s || t) ≡ false → (s ≡ false) × (t ≡ false)
neither true t h = cc
neither false t h = (refl, h)

-- ---- lists of names that are apart

still_new : (names ms : List (List ℕ)) (m : List ℕ) → are_new names ms ≡ true → is_among ms m ≡ false → are_new (names ++ m ∷ []) ms ≡ true
still_new names [] m new absent = refl
still_new names (n ∷ ms) m new absent =
    let both = both_of (not (is_among names n)) (are_new names ms) new in
    let none = neither (bytes_eq m n) (is_among ms m) absent in
    let here : is_among names n ≡ false = not_true (is_among names n) both.0 in
    let back : bytes_eq n m ≡ false = differ_back m n none.0 in
    let one : is_among (names ++ m ∷ []) n ≡ false = list_any-append (bytes_eq n) names (m ∷ []) ∙ rw (here, back) refl in
    let later : are_new (names ++ m ∷ []) ms ≡ true = still_new names ms m both.1 none.1 in
    rw (one, later) refl

merged_new : (names ms : List (List ℕ)) → are_new names ms ≡ true → are_distinct ms ≡ true → merged names ms ≡ names ++ ms
merged_new names [] new distinct = sym (append-nil names)
merged_new names (m ∷ ms) new distinct =
    let both = both_of (not (is_among names m)) (are_new names ms) new in
    let rest = both_of (not (is_among ms m)) (are_distinct ms) distinct in
    let split : (names ++ m ∷ []) ++ ms ≡ names ++ (m ∷ ms) = append_assoc names (m ∷ []) ms in
    ap (λ t. merged (cond t names (names ++ m ∷ [])) ms) (not_true (is_among names m) both.0)
    ∙ merged_new (names ++ m ∷ []) ms (still_new names ms m both.1 (not_true (is_among ms m) rest.0)) rest.1 ∙ split

-- what is picked of lists that are apart is what is picked of each
pub picked_apart : {A : Type 0} (pick : List ℕ → Option A) (names : List (List ℕ)) (rows : List (List (List ℕ))) → are_apart names rows ≡ true → list_all are_distinct rows ≡ true
    → filter_map pick (fold merged names rows) ≡ filter_map pick names ++ flat_map (filter_map pick) rows
picked_apart pick names [] apart distinct = sym (append-nil (filter_map pick names))
picked_apart pick names (ms ∷ rows) apart distinct =
    let both = both_of (are_new names ms) (are_apart (merged names ms) rows) apart in
    let each = both_of (are_distinct ms) (list_all are_distinct rows) distinct in
    picked_apart pick (merged names ms) rows both.1 each.1
    ∙ ap (λ ns. filter_map pick ns ++ flat_map (filter_map pick) rows) (merged_new names ms both.0 each.0)
    ∙ ap (λ fs. fs ++ flat_map (filter_map pick) rows) (filter_map-append pick names ms)
    ∙ append_assoc (filter_map pick names) (filter_map pick ms) (flat_map (filter_map pick) rows)

-- ---- no names

some_merged : (n : List ℕ) (ns ms : List (List ℕ)) → are_none (merged (n ∷ ns) ms) ≡ false
some_merged n ns [] = refl
some_merged n ns (m ∷ ms) = by_test (is_among (n ∷ ns) m) (some_merged n ns ms) (some_merged n (ns ++ m ∷ []) ms) where
  by_test : (t : Bool) → are_none (merged (n ∷ ns) ms) ≡ false → are_none (merged (n ∷ (ns ++ m ∷ [])) ms) ≡ false → are_none (merged (cond t (n ∷ ns) ((n ∷ ns) ++ m ∷ [])) ms) ≡ false
  by_test true old new = old
  by_test false old new = new

some_merged_to : (names ms : List (List ℕ)) → are_none names ≡ false → are_none (merged names ms) ≡ false
some_merged_to [] ms some = cc
some_merged_to (n ∷ ns) ms some = some_merged n ns ms

some_folded : (rows : List (List (List ℕ))) (names : List (List ℕ)) → are_none names ≡ false → are_none (fold merged names rows) ≡ false
some_folded [] names some = some
some_folded (ms ∷ rows) names some = some_folded rows (merged names ms) (some_merged_to names ms some)

none_in : (rows : List (List (List ℕ))) → are_none (union rows) ≡ true → list_all are_none rows ≡ true
none_in [] none = refl
none_in ([] ∷ rows) none = none_in rows none
none_in ((m ∷ ms) ∷ rows) none = let some = some_folded rows (merged (m ∷ []) ms) (some_merged m [] ms) in cc

-- where all together are none, none of them has a name
pub none_of_union : (rows : List (List (List ℕ))) → union rows ≡ [] → list_all are_none rows ≡ true
none_of_union rows none = none_in rows (ap are_none none)

-- and the other way round
pub union_of_none : (rows : List (List (List ℕ))) → list_all are_none rows ≡ true → union rows ≡ []
union_of_none [] none = refl
union_of_none ([] ∷ rows) none = union_of_none rows none
union_of_none ((m ∷ ms) ∷ rows) none = cc

pub none_is : (names : List (List ℕ)) → are_none names ≡ true → names ≡ []
none_is [] none = refl
none_is (n ∷ ns) none = cc

-- ---- what is picked

same_number : (n : ℕ) → (n == n) ≡ true
same_number n = grind (arith, nat_tests)

or_true : (t : Bool) → (t || true) ≡ true
or_true true = refl
or_true false = refl

-- what a name gives is among what is picked
pub picked_among : (pick : List ℕ → Option ℕ) (w : List ℕ) (n : ℕ) → pick w ≡ Some n → (names : List (List ℕ)) → is_among names w ≡ true → is_number_among (filter_map pick names) n ≡ true
picked_among pick w n is [] among = cc
picked_among pick w n is (x ∷ xs) among = by_test (bytes_eq w x) refl among (picked_among pick w n is xs) where
  with_here : (o : Option ℕ) → is_number_among (filter_map pick xs) n ≡ true → is_number_among (cons_option o (filter_map pick xs)) n ≡ true
  with_here None later = later
  with_here (Some k) later = ap (λ t. (k == n) || t) later ∙ or_true (k == n)

  first : (o : Option ℕ) → o ≡ Some n → is_number_among (cons_option o (filter_map pick xs)) n ≡ true
  first None e = cc
  first (Some k) e =
      let same : k ≡ n = cc in
      let here : (k == n) ≡ true = ap (λ j. j == n) same ∙ same_number n in rw here refl

  by_test : (t : Bool) → bytes_eq w x ≡ t → (t || is_among xs w) ≡ true → (is_among xs w ≡ true → is_number_among (filter_map pick xs) n ≡ true)
      → is_number_among (cons_option (pick x) (filter_map pick xs)) n ≡ true
  by_test true e h later = let same : w ≡ x = (bytes_eq-Decides w x).0 e in first (pick x) (ap pick (sym same) ∙ is)
  by_test false e h later = with_here (pick x) (later h)

-- what is true of whatever is picked
pub picked_all : {X Y : Type 0} (P : Y → Type 0) (pick : X → Option Y) → ((x : X) (y : Y) → pick x ≡ Some y → P y) → (xs : List X) → All P (filter_map pick xs)
picked_all P pick each [] = All-nil P
picked_all {X} {Y} P pick each (x ∷ xs) = by_value (pick x) refl (picked_all P pick each xs) where
  by_value : (o : Option Y) → pick x ≡ o → All P (filter_map pick xs) → All P (cons_option o (filter_map pick xs))
  by_value None is later = later
  by_value (Some y) is later = All-cons P y (filter_map pick xs) (each x y is) later

-- what is picked of what is picked
pub picked_twice : {X Y Z : Type 0} (g : Y → Option Z) (h : X → Option Y) (xs : List X) → filter_map g (filter_map h xs) ≡ filter_map (λ x. option_and_then g (h x)) xs
picked_twice g h [] = refl
picked_twice {X} {Y} {Z} g h (x ∷ xs) = by_value (h x) (picked_twice g h xs) where
  by_value : (o : Option Y) → filter_map g (filter_map h xs) ≡ filter_map (λ y. option_and_then g (h y)) xs
      → filter_map g (cons_option o (filter_map h xs)) ≡ cons_option (option_and_then g o) (filter_map (λ y. option_and_then g (h y)) xs)
  by_value None later = later
  by_value (Some y) later = ap (cons_option (g y)) later

-- things of different names give different numbers, where each number has one name
module _ {X : Type 0} (name : X → List ℕ) (pick : X → Option ℕ) (number : List ℕ → Option ℕ) (named : (x : X) (n : ℕ) → pick x ≡ Some n → number (name x) ≡ Some n)
    (one_name : (v w : List ℕ) (n : ℕ) → number v ≡ Some n → number w ≡ Some n → v ≡ w) where
  differs : (x : X) (n : ℕ) → pick x ≡ Some n → (ys : List X) → is_among (map name ys) (name x) ≡ false → All (λ m. n ≢ m) (filter_map pick ys)
  differs x n is [] absent = All-nil (λ m. n ≢ m)
  differs x n is (y ∷ ys) absent = by_value (pick y) refl (differs x n is ys parts.1) where
    parts : (bytes_eq (name x) (name y) ≡ false) × (is_among (map name ys) (name x) ≡ false)
    parts = neither (bytes_eq (name x) (name y)) (is_among (map name ys) (name x)) absent

    apart : (m : ℕ) → pick y ≡ Some m → n ≢ m
    apart m there e =
        let second : number (name y) ≡ Some n = named y m there ∙ ap Some (sym e) in
        let same : name x ≡ name y = one_name (name x) (name y) n (named x n is) second in
        let equal : bytes_eq (name x) (name y) ≡ true = (bytes_eq-Decides (name x) (name y)).1 same in
        let differ = parts.0 in cc

    by_value : (o : Option ℕ) → pick y ≡ o → All (λ m. n ≢ m) (filter_map pick ys) → All (λ m. n ≢ m) (cons_option o (filter_map pick ys))
    by_value None there later = later
    by_value (Some m) there later = All-cons (λ k. n ≢ k) m (filter_map pick ys) (apart m there) later

  pub picked_differ : (xs : List X) → are_distinct (map name xs) ≡ true → AllPairs (λ m n. m ≢ n) (filter_map pick xs)
  picked_differ [] distinct = λ i j d below within. absurd (omega arith)
  picked_differ (x ∷ xs) distinct = by_value (pick x) refl (picked_differ xs parts.1) where
    parts : (not (is_among (map name xs) (name x)) ≡ true) × (are_distinct (map name xs) ≡ true)
    parts = both_of (not (is_among (map name xs) (name x))) (are_distinct (map name xs)) distinct

    by_value : (o : Option ℕ) → pick x ≡ o → AllPairs (λ m n. m ≢ n) (filter_map pick xs) → AllPairs (λ m n. m ≢ n) (cons_option o (filter_map pick xs))
    by_value None is later = later
    by_value (Some n) is later =
        AllPairs-cons (λ m k. m ≢ k) n (filter_map pick xs) (differs x n is xs (not_true (is_among (map name xs) (name x)) parts.0)) later
