-- The bare fields and the labels of the patterns that a tree makes.
use Rattle.std.proofs.Common.{◌≡◌, ℕ, Bool, true, false, cond, List, [], ◌∷◌, ◌++◌, map, All, Some, None, refl, sym, ap, ◌∙◌}
use Rattle.std.specs.Prelude.{Option, ◌&&◌, is_none}
use Rattle.std.specs.List.{list_all, filter_map, flat_map, cons_option}
use Rattle.std.proofs.lemmas.List.{append-nil}
use Rattle.std.proofs.lemmas.List.Elements.{All-nil, All-cons, All-map, All-weaker}
use Rattle.std.proofs.lemmas.List.Folds.{list_all-append}
use Rattle.sled_parser.specs.declared.tree.PatternTree.{PatternTree, Row_of-PatternTree, end_of-PatternTree, more_of-PatternTree}
use Rattle.sled_parser.specs.declared.tree.PatternTree.TheVariants.{Either', Chain', Both', Labelled', Loose', Group', Empty, Word, Limit, Apply}
use Rattle.sled_model.specs.declared.pattern.Pattern.{Pattern}
use Rattle.sled_model.specs.declared.pattern.Pattern.TheVariants as pattern
use Rattle.sled_model.specs.SolvingOrder.{bare_fields}
use Rattle.eq_solver.proofs.BareFields.{fields-Both, fields-Either, fields-Chain, fields-Label, fields-Loose}
use Rattle.tree_meaning.specs.Names.{are_distinct}
use Rattle.tree_meaning.specs.Scopes.{Declared}
use Rattle.tree_meaning.specs.Parts.{parts, row_parts, part_labels}
use Rattle.tree_meaning.specs.Patterns.{patterns_of, row_patterns, choices, boxed, relation_of, field_or_first, label_number, word_pattern}
use Rattle.tree_meaning.specs.Values.{value_numbers}
use Rattle.tree_meaning.specs.Bindings.{word_binds, union, bound, row_bound, are_apart, are_none, binds_once, row_binds_once, sides_bind_nothing, row_binds_nothing}
use Rattle.tree_meaning.proofs.Merging.{union_distinct, merged_alone}
use Rattle.tree_meaning.proofs.Soundness.{All-flat_map}
use Rattle.operand_meaning.proofs.ListFacts.{both_of}
use Rattle.constructor_plans.proofs.PickLemmas.{picked_apart, none_of_union, union_of_none, none_is}

-- ---- choices

-- one list more to choose from
pub choices_next : {A : Type 0} (P : A → Type 0) (Q R : List A → Type 0) → ((x : A) (chosen : List A) → P x → Q chosen → R (x ∷ chosen)) → (xs : List A) (rest : List (List A))
    → All P xs → All Q (choices rest) → All R (choices (xs ∷ rest))
choices_next P Q R step xs rest here later =
    All-flat_map R (λ x. map (λ chosen. x ∷ chosen) (choices rest)) xs
    (All-weaker P (λ x. All R (map (λ chosen. x ∷ chosen) (choices rest)))
    (λ x p. All-map R (λ chosen. x ∷ chosen) (choices rest) (All-weaker Q (λ chosen. R (x ∷ chosen)) (λ chosen q. step x chosen p q) (choices rest) later))
    xs here)

alone : {A : Type 0} (P : A → Type 0) (x : A) → P x → All P (x ∷ [])
alone P x h = All-cons P x [] h (All-nil P)

mapped_each : {A B : Type 0} (P : B → Type 0) (f : A → B) → ((x : A) → P (f x)) → (xs : List A) → All P (map f xs)
mapped_each P f each [] = All-nil P
mapped_each P f each (x ∷ xs) = All-cons P (f x) (map f xs) (each x) (mapped_each P f each xs)

-- ---- what a pattern binds stands once in the list of what it binds

module _ (s : Declared) where
  bound_distinct : (t : PatternTree) → are_distinct (bound s t) ≡ true
  bound_distinct (Either' a ts) = union_distinct (row_bound s ts)
  bound_distinct (Chain' a ts) = union_distinct (row_bound s ts)
  bound_distinct (Both' a ts) = union_distinct (row_bound s ts)
  bound_distinct (Labelled' l a t) = union_distinct ((l ∷ []) ∷ row_bound s t)
  bound_distinct (Loose' a t) = union_distinct (row_bound s t)
  bound_distinct (Group' a t) = union_distinct (row_bound s t)
  bound_distinct Empty = refl
  bound_distinct (Word w) = by_test (word_binds s w) where
    by_test : (t : Bool) → are_distinct (cond t (w ∷ []) []) ≡ true
    by_test true = refl
    by_test false = refl
  bound_distinct (Limit f r v) = refl
  bound_distinct (Apply k arguments) = refl

  rows_distinct : {n : _} (ts : Row_of-PatternTree n) → list_all are_distinct (row_bound s ts) ≡ true
  rows_distinct end_of-PatternTree = refl
  rows_distinct (more_of-PatternTree t ts) = rw (bound_distinct t, rows_distinct ts) refl

  pub names_distinct : (t : PatternTree) → are_distinct (bound s t) ≡ true
  names_distinct t = bound_distinct t

  alone_picked : {A : Type 0} (pick : List ℕ → Option A) (t : Row_of-PatternTree 1) → filter_map pick (union (row_bound s t)) ≡ flat_map (filter_map pick) (row_bound s t)
  alone_picked pick (more_of-PatternTree u end_of-PatternTree) = ap (filter_map pick) (merged_alone (bound s u) (bound_distinct u)) ∙ sym (append-nil (filter_map pick (bound s u)))

-- ---- bare fields

appended : (xs ys us vs : List ℕ) → xs ≡ us → ys ≡ vs → xs ++ ys ≡ us ++ vs
appended xs ys us vs e f = ap (λ zs. zs ++ ys) e ∙ ap (λ zs. us ++ zs) f

-- the patterns are made in the scope d, the names bound in the scope s: they agree on each word
module _ (d s : Declared) (names : List (List ℕ)) (number : List ℕ → Option ℕ)
    (word : (w : List ℕ) → bare_fields (word_pattern d w) ≡ filter_map number (cond (word_binds s w) (w ∷ []) [])) where
  abbrev Has : List ℕ → Pattern → Type 0
  Has fs p = bare_fields p ≡ fs

  abbrev AllHave : List ℕ → List Pattern → Type 0
  AllHave fs ps = flat_map bare_fields ps ≡ fs

  mutual
    -- where nothing is bound, no field stands bare
    pub none_bare : (t : PatternTree) → bound s t ≡ [] → All (Has []) (patterns_of d names t)
    none_bare (Either' a ts) none =
        All-map (Has []) pattern.Either (choices (row_patterns d names ts))
        (All-weaker (AllHave []) (λ ps. Has [] (pattern.Either ps)) (λ ps h. fields-Either ps ∙ h) (choices (row_patterns d names ts)) (rows_none ts (none_of_union (row_bound s ts) none)))
    none_bare (Chain' a ts) none =
        All-map (Has []) pattern.Chain (choices (row_patterns d names ts))
        (All-weaker (AllHave []) (λ ps. Has [] (pattern.Chain ps)) (λ ps h. fields-Chain ps ∙ h) (choices (row_patterns d names ts)) (rows_none ts (none_of_union (row_bound s ts) none)))
    none_bare (Both' a ts) none =
        All-map (Has []) pattern.Both (choices (row_patterns d names ts))
        (All-weaker (AllHave []) (λ ps. Has [] (pattern.Both ps)) (λ ps h. fields-Both ps ∙ h) (choices (row_patterns d names ts)) (rows_none ts (none_of_union (row_bound s ts) none)))
    none_bare (Labelled' l a t) none = let no = none_of_union ((l ∷ []) ∷ row_bound s t) none in cc
    none_bare (Loose' a t) none =
        All-map (Has []) pattern.Loose (boxed (row_patterns d names t))
        (All-weaker (Has []) (λ p. Has [] (pattern.Loose p)) (λ p h. fields-Loose p ∙ h) (boxed (row_patterns d names t)) (one_none t (none_of_union (row_bound s t) none)))
    none_bare (Group' a t) none = one_none t (none_of_union (row_bound s t) none)
    none_bare Empty none = alone (Has []) pattern.Empty refl
    none_bare (Word w) none = alone (Has []) (word_pattern d w) (word w ∙ ap (filter_map number) none)
    none_bare (Limit f r v) none = mapped_each (Has []) (λ n. pattern.Limit (field_or_first d f) (relation_of r) n) (λ n. refl) (value_numbers v)
    none_bare (Apply k arguments) none = alone (Has []) pattern.Empty refl

    one_none : (t : Row_of-PatternTree 1) → list_all are_none (row_bound s t) ≡ true → All (Has []) (boxed (row_patterns d names t))
    one_none (more_of-PatternTree u end_of-PatternTree) none = none_bare u (none_is (bound s u) (both_of (are_none (bound s u)) true none).0)

    rows_none : {n : _} (ts : Row_of-PatternTree n) → list_all are_none (row_bound s ts) ≡ true → All (AllHave []) (choices (row_patterns d names ts))
    rows_none end_of-PatternTree none = alone (AllHave []) [] refl
    rows_none (more_of-PatternTree t ts) none =
        let both = both_of (are_none (bound s t)) (list_all are_none (row_bound s ts)) none in
        choices_next (Has []) (AllHave []) (AllHave []) (λ x chosen p q. appended (bare_fields x) (flat_map bare_fields chosen) [] [] p q) (patterns_of d names t) (row_patterns d names ts)
        (none_bare t (none_is (bound s t) both.0)) (rows_none ts both.1)

  -- no label of the part has a number
  abbrev has_free_labels : PatternTree → Bool
  has_free_labels t = list_all (λ l. is_none (number l)) (part_labels t)

  label_free : (l : List ℕ) (o : Option ℕ) → number l ≡ o → is_none o ≡ true → filter_map number (l ∷ []) ≡ []
  label_free l None is free = ap (λ o. cons_option o []) is
  label_free l (Some n) is free = cc

  split_free : (us vs : List PatternTree) → list_all has_free_labels (us ++ vs) ≡ true → (list_all has_free_labels us ≡ true) × (list_all has_free_labels vs ≡ true)
  split_free us vs free = both_of (list_all has_free_labels us) (list_all has_free_labels vs) (sym (list_all-append has_free_labels us vs) ∙ free)

  mutual
    -- the bare fields are those of the names that are bound, in order
    pub bare_are : (t : PatternTree) → sides_bind_nothing s t ≡ true → binds_once s t ≡ true → list_all has_free_labels (parts t) ≡ true
        → All (Has (filter_map number (bound s t))) (patterns_of d names t)
    bare_are (Either' a ts) sides once free =
        let fs = filter_map number (union (row_bound s ts)) in
        let none : [] ≡ fs = ap (filter_map number) (sym (union_of_none (row_bound s ts) sides)) in
        All-map (Has fs) pattern.Either (choices (row_patterns d names ts))
        (All-weaker (AllHave []) (λ ps. Has fs (pattern.Either ps)) (λ ps h. fields-Either ps ∙ h ∙ none) (choices (row_patterns d names ts)) (rows_none ts sides))
    bare_are (Chain' a ts) sides once free =
        let fs = filter_map number (union (row_bound s ts)) in
        let rows = flat_map (filter_map number) (row_bound s ts) in
        let both = both_of (row_binds_once s ts) (are_apart [] (row_bound s ts)) once in
        let same : fs ≡ rows = picked_apart number [] (row_bound s ts) both.1 (rows_distinct s ts) in
        All-map (Has fs) pattern.Chain (choices (row_patterns d names ts))
        (All-weaker (AllHave rows) (λ ps. Has fs (pattern.Chain ps)) (λ ps h. fields-Chain ps ∙ h ∙ sym same) (choices (row_patterns d names ts)) (rows_are ts sides both.0 free))
    bare_are (Both' a ts) sides once free =
        let fs = filter_map number (union (row_bound s ts)) in
        let rows = flat_map (filter_map number) (row_bound s ts) in
        let both = both_of (row_binds_once s ts) (are_apart [] (row_bound s ts)) once in
        let same : fs ≡ rows = picked_apart number [] (row_bound s ts) both.1 (rows_distinct s ts) in
        All-map (Has fs) pattern.Both (choices (row_patterns d names ts))
        (All-weaker (AllHave rows) (λ ps. Has fs (pattern.Both ps)) (λ ps h. fields-Both ps ∙ h ∙ sym same) (choices (row_patterns d names ts)) (rows_are ts sides both.0 free))
    bare_are (Labelled' l a t) sides once free =
        let fs = filter_map number (union ((l ∷ []) ∷ row_bound s t)) in
        let rows = flat_map (filter_map number) (row_bound s t) in
        let both = both_of (row_binds_once s t) (are_apart (l ∷ []) (row_bound s t)) once in
        let here = both_of (is_none (number l) && true) (list_all has_free_labels (row_parts t)) free in
        let new = both_of (is_none (number l)) true here.0 in
        let same : fs ≡ rows =
        picked_apart number (l ∷ []) (row_bound s t) both.1 (rows_distinct s t) ∙ ap (λ xs. xs ++ rows) (label_free l (number l) refl new.0) in
        All-map (Has fs) (pattern.Label (label_number names l)) (boxed (row_patterns d names t))
        (All-weaker (Has rows) (λ p. Has fs (pattern.Label (label_number names l) p)) (λ p h. fields-Label (label_number names l) p ∙ h ∙ sym same) (boxed (row_patterns d names t))
        (one_are t sides both.0 here.1))
    bare_are (Loose' a t) sides once free =
        let fs = filter_map number (union (row_bound s t)) in
        let rows = flat_map (filter_map number) (row_bound s t) in
        All-map (Has fs) pattern.Loose (boxed (row_patterns d names t))
        (All-weaker (Has rows) (λ p. Has fs (pattern.Loose p)) (λ p h. fields-Loose p ∙ h ∙ sym (alone_picked s number t)) (boxed (row_patterns d names t)) (one_are t sides once free))
    bare_are (Group' a t) sides once free =
        All-weaker (Has (flat_map (filter_map number) (row_bound s t))) (Has (filter_map number (union (row_bound s t)))) (λ p h. h ∙ sym (alone_picked s number t)) (boxed (row_patterns d names t))
        (one_are t sides once free)
    bare_are Empty sides once free = alone (Has []) pattern.Empty refl
    bare_are (Word w) sides once free = alone (Has (filter_map number (bound s (Word w)))) (word_pattern d w) (word w)
    bare_are (Limit f r v) sides once free = mapped_each (Has []) (λ n. pattern.Limit (field_or_first d f) (relation_of r) n) (λ n. refl) (value_numbers v)
    bare_are (Apply k arguments) sides once free = alone (Has []) pattern.Empty refl

    one_are : (t : Row_of-PatternTree 1) → row_binds_nothing s t ≡ true → row_binds_once s t ≡ true → list_all has_free_labels (row_parts t) ≡ true
        → All (Has (flat_map (filter_map number) (row_bound s t))) (boxed (row_patterns d names t))
    one_are (more_of-PatternTree u end_of-PatternTree) sides once free =
        All-weaker (Has (filter_map number (bound s u))) (Has (filter_map number (bound s u) ++ [])) (λ p h. h ∙ sym (append-nil (filter_map number (bound s u)))) (patterns_of d names u)
        (bare_are u (both_of (sides_bind_nothing s u) true sides).0 (both_of (binds_once s u) true once).0 (split_free (parts u) [] free).0)

    rows_are : {n : _} (ts : Row_of-PatternTree n) → row_binds_nothing s ts ≡ true → row_binds_once s ts ≡ true → list_all has_free_labels (row_parts ts) ≡ true
        → All (AllHave (flat_map (filter_map number) (row_bound s ts))) (choices (row_patterns d names ts))
    rows_are end_of-PatternTree sides once free = alone (AllHave []) [] refl
    rows_are (more_of-PatternTree t ts) sides once free =
        let here = filter_map number (bound s t) in
        let later = flat_map (filter_map number) (row_bound s ts) in
        let nothing = both_of (sides_bind_nothing s t) (row_binds_nothing s ts) sides in
        let single = both_of (binds_once s t) (row_binds_once s ts) once in
        let frees = split_free (parts t) (row_parts ts) free in
        choices_next (Has here) (AllHave later) (AllHave (here ++ later)) (λ x chosen p q. appended (bare_fields x) (flat_map bare_fields chosen) here later p q) (patterns_of d names t)
        (row_patterns d names ts) (bare_are t nothing.0 single.0 frees.0) (rows_are ts nothing.1 single.1 frees.1)
