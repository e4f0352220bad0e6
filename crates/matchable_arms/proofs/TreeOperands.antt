-- The operands of the patterns that a tree makes: those of the names that it binds.
use Rattle.std.proofs.Common.{◌≡◌, ℕ, Bool, true, false, cond, List, [], ◌∷◌, ◌++◌, map, All, Some, None, refl, sym, ap, ◌∙◌}
use Rattle.std.specs.Prelude.{Option, ◌&&◌, is_none}
use Rattle.std.specs.List.{list_all, filter_map, flat_map, cons_option}
use Rattle.std.proofs.lemmas.List.{append-nil}
use Rattle.std.proofs.lemmas.List.Elements.{All-nil, All-cons, All-map, All-weaker}
use Rattle.std.proofs.lemmas.List.Folds.{list_all-append}
use Rattle.sled_parser.specs.declared.tree.PatternTree.{PatternTree, Row_of-PatternTree, end_of-PatternTree, more_of-PatternTree}
use Rattle.sled_parser.specs.declared.tree.PatternTree.TheVariants.{Either', Chain', Both', Labelled', Loose', Group', Empty, Word, Limit, Apply}
use Rattle.sled_model.specs.declared.pattern.Pattern.{Pattern}
use Rattle.sled_model.specs.declared.pattern.Pattern.TheVariants as pattern
use Rattle.sled_model.specs.Results.{operands_in}
use Rattle.sled_model.proofs.AdmittedLaws.{operands_in-Both, operands_in-Chain, operands_in-Loose, operands_in-Label}
use Rattle.tree_meaning.specs.Scopes.{Declared}
use Rattle.tree_meaning.specs.Parts.{parts, row_parts, part_labels}
use Rattle.tree_meaning.specs.Patterns.{patterns_of, row_patterns, choices, boxed, relation_of, field_or_first, label_number, word_pattern}
use Rattle.tree_meaning.specs.Values.{value_numbers}
use Rattle.tree_meaning.specs.Bindings.{word_binds, union, bound, row_bound, are_apart, binds_once, row_binds_once, sides_bind_nothing, row_binds_nothing}
use Rattle.tree_meaning.proofs.Merging.{merged_alone}
use Rattle.operand_meaning.proofs.ListFacts.{both_of}
use Rattle.constructor_plans.proofs.PickLemmas.{picked_apart, union_of_none}
use Rattle.constructor_plans.proofs.TreeFields.{choices_next, names_distinct}
use Rattle.constructor_readings.proofs.Nothing.{ReadsNothing}
use Rattle.constructor_readings.proofs.TreeReadings.{nothing_made}
use Rattle.tree_meaning.specs.Names.{are_distinct}

alone : {A : Type 0} (P : A → Type 0) (x : A) → P x → All P (x ∷ [])
alone P x h = All-cons P x [] h (All-nil P)

mapped_each : {A B : Type 0} (P : B → Type 0) (f : A → B) → ((x : A) → P (f x)) → (xs : List A) → All P (map f xs)
mapped_each P f each [] = All-nil P
mapped_each P f each (x ∷ xs) = All-cons P (f x) (map f xs) (each x) (mapped_each P f each xs)

appended : (xs ys us vs : List ℕ) → xs ≡ us → ys ≡ vs → xs ++ ys ≡ us ++ vs
appended xs ys us vs e f = ap (λ zs. zs ++ ys) e ∙ ap (λ zs. us ++ zs) f

module _ (s : Declared) where
  rows_distinct : {n : _} (ts : Row_of-PatternTree n) → list_all are_distinct (row_bound s ts) ≡ true
  rows_distinct end_of-PatternTree = refl
  rows_distinct (more_of-PatternTree t ts) = rw (names_distinct s t, rows_distinct ts) refl

  alone_picked : {A : Type 0} (pick : List ℕ → Option A) (t : Row_of-PatternTree 1) → filter_map pick (union (row_bound s t)) ≡ flat_map (filter_map pick) (row_bound s t)
  alone_picked pick (more_of-PatternTree u end_of-PatternTree) = ap (filter_map pick) (merged_alone (bound s u) (names_distinct s u)) ∙ sym (append-nil (filter_map pick (bound s u)))

-- The patterns are made in the scope d, the names bound in the scope s: they agree on each word, and a word that binds nothing reads
-- nothing.
module _ (d s : Declared) (names : List (List ℕ)) (silent : (w : List ℕ) → word_binds s w ≡ false → ReadsNothing (word_pattern d w)) (number : List ℕ → Option ℕ)
    (word : (w : List ℕ) → operands_in (word_pattern d w) ≡ filter_map number (cond (word_binds s w) (w ∷ []) [])) where
  abbrev Has : List ℕ → Pattern → Type 0
  Has ks p = operands_in p ≡ ks

  abbrev AllHave : List ℕ → List Pattern → Type 0
  AllHave ks ps = flat_map operands_in ps ≡ ks

  -- no label of the part is an operand's name
  abbrev pub has_free_labels : PatternTree → Bool
  has_free_labels t = list_all (λ l. is_none (number l)) (part_labels t)

  label_free : (l : List ℕ) (o : Option ℕ) → number l ≡ o → is_none o ≡ true → filter_map number (l ∷ []) ≡ []
  label_free l None is free = ap (λ o. cons_option o []) is
  label_free l (Some n) is free = cc

  split_free : (us vs : List PatternTree) → list_all has_free_labels (us ++ vs) ≡ true → (list_all has_free_labels us ≡ true) × (list_all has_free_labels vs ≡ true)
  split_free us vs free = both_of (list_all has_free_labels us) (list_all has_free_labels vs) (sym (list_all-append has_free_labels us vs) ∙ free)

  mutual
    -- the operands are those of the names that are bound, in order
    pub operands_are : (t : PatternTree) → sides_bind_nothing s t ≡ true → binds_once s t ≡ true → list_all has_free_labels (parts t) ≡ true
        → All (Has (filter_map number (bound s t))) (patterns_of d names t)
    operands_are (Either' a ts) sides once free =
        let none : union (row_bound s ts) ≡ [] = union_of_none (row_bound s ts) sides in
        let ks = filter_map number (union (row_bound s ts)) in
        let empty : [] ≡ ks = ap (filter_map number) (sym none) in
        All-weaker ReadsNothing (Has ks) (λ p h. h.1 ∙ empty) (patterns_of d names (Either' a ts)) (nothing_made d s names silent (Either' a ts) none)
    operands_are (Chain' a ts) sides once free =
        let ks = filter_map number (union (row_bound s ts)) in
        let rows = flat_map (filter_map number) (row_bound s ts) in
        let both = both_of (row_binds_once s ts) (are_apart [] (row_bound s ts)) once in
        let same : ks ≡ rows = picked_apart number [] (row_bound s ts) both.1 (rows_distinct s ts) in
        All-map (Has ks) pattern.Chain (choices (row_patterns d names ts))
        (All-weaker (AllHave rows) (λ ps. Has ks (pattern.Chain ps)) (λ ps h. operands_in-Chain ps ∙ h ∙ sym same) (choices (row_patterns d names ts)) (rows_are ts sides both.0 free))
    operands_are (Both' a ts) sides once free =
        let ks = filter_map number (union (row_bound s ts)) in
        let rows = flat_map (filter_map number) (row_bound s ts) in
        let both = both_of (row_binds_once s ts) (are_apart [] (row_bound s ts)) once in
        let same : ks ≡ rows = picked_apart number [] (row_bound s ts) both.1 (rows_distinct s ts) in
        All-map (Has ks) pattern.Both (choices (row_patterns d names ts))
        (All-weaker (AllHave rows) (λ ps. Has ks (pattern.Both ps)) (λ ps h. operands_in-Both ps ∙ h ∙ sym same) (choices (row_patterns d names ts)) (rows_are ts sides both.0 free))
    operands_are (Labelled' l a t) sides once free =
        let ks = filter_map number (union ((l ∷ []) ∷ row_bound s t)) in
        let rows = flat_map (filter_map number) (row_bound s t) in
        let both = both_of (row_binds_once s t) (are_apart (l ∷ []) (row_bound s t)) once in
        let here = both_of (is_none (number l) && true) (list_all has_free_labels (row_parts t)) free in
        let new = both_of (is_none (number l)) true here.0 in
        let same : ks ≡ rows =
        picked_apart number (l ∷ []) (row_bound s t) both.1 (rows_distinct s t) ∙ ap (λ xs. xs ++ rows) (label_free l (number l) refl new.0) in
        All-map (Has ks) (pattern.Label (label_number names l)) (boxed (row_patterns d names t))
        (All-weaker (Has rows) (λ p. Has ks (pattern.Label (label_number names l) p)) (λ p h. operands_in-Label (label_number names l) p ∙ h ∙ sym same) (boxed (row_patterns d names t))
        (one_are t sides both.0 here.1))
    operands_are (Loose' a t) sides once free =
        let ks = filter_map number (union (row_bound s t)) in
        let rows = flat_map (filter_map number) (row_bound s t) in
        All-map (Has ks) pattern.Loose (boxed (row_patterns d names t))
        (All-weaker (Has rows) (λ p. Has ks (pattern.Loose p)) (λ p h. operands_in-Loose p ∙ h ∙ sym (alone_picked s number t)) (boxed (row_patterns d names t)) (one_are t sides once free))
    operands_are (Group' a t) sides once free =
        All-weaker (Has (flat_map (filter_map number) (row_bound s t))) (Has (filter_map number (union (row_bound s t)))) (λ p h. h ∙ sym (alone_picked s number t)) (boxed (row_patterns d names t))
        (one_are t sides once free)
    operands_are Empty sides once free = alone (Has []) pattern.Empty refl
    operands_are (Word w) sides once free = alone (Has (filter_map number (bound s (Word w)))) (word_pattern d w) (word w)
    operands_are (Limit f r v) sides once free = mapped_each (Has []) (λ n. pattern.Limit (field_or_first d f) (relation_of r) n) (λ n. refl) (value_numbers v)
    operands_are (Apply k arguments) sides once free = alone (Has []) pattern.Empty refl

    one_are : (t : Row_of-PatternTree 1) → row_binds_nothing s t ≡ true → row_binds_once s t ≡ true → list_all has_free_labels (row_parts t) ≡ true
        → All (Has (flat_map (filter_map number) (row_bound s t))) (boxed (row_patterns d names t))
    one_are (more_of-PatternTree u end_of-PatternTree) sides once free =
        All-weaker (Has (filter_map number (bound s u))) (Has (filter_map number (bound s u) ++ [])) (λ p h. h ∙ sym (append-nil (filter_map number (bound s u)))) (patterns_of d names u)
        (operands_are u (both_of (sides_bind_nothing s u) true sides).0 (both_of (binds_once s u) true once).0 (split_free (parts u) [] free).0)

    rows_are : {n : _} (ts : Row_of-PatternTree n) → row_binds_nothing s ts ≡ true → row_binds_once s ts ≡ true → list_all has_free_labels (row_parts ts) ≡ true
        → All (AllHave (flat_map (filter_map number) (row_bound s ts))) (choices (row_patterns d names ts))
    rows_are end_of-PatternTree sides once free = alone (AllHave []) [] refl
    rows_are (more_of-PatternTree t ts) sides once free =
        let here = filter_map number (bound s t) in
        let later = flat_map (filter_map number) (row_bound s ts) in
        let nothing = both_of (sides_bind_nothing s t) (row_binds_nothing s ts) sides in
        let single = both_of (binds_once s t) (row_binds_once s ts) once in
        let frees = split_free (parts t) (row_parts ts) free in
        choices_next (Has here) (AllHave later) (AllHave (here ++ later)) (λ x chosen p q. appended (operands_in x) (flat_map operands_in chosen) here later p q) (patterns_of d names t)
        (row_patterns d names ts) (operands_are t nothing.0 single.0 frees.0) (rows_are ts nothing.1 single.1 frees.1)
