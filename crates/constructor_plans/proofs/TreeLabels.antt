-- The labels of the patterns that a tree makes: as many as the tree has.
use Rattle.std.proofs.Common.{◌≡◌, ℕ, ◌+◌, ◌≤◌, List, [], ◌∷◌, ◌++◌, length, length-append, map, All, refl, ap, ◌∙◌, arith}
use Rattle.std.specs.List.{flat_map}
use Rattle.std.proofs.lemmas.Grind.{flat_map-append}
use Rattle.std.proofs.lemmas.List.{append-nil}
use Rattle.std.proofs.lemmas.List.Elements.{All-nil, All-cons, All-map, All-weaker}
use Rattle.sled_parser.specs.declared.tree.PatternTree.{PatternTree, Row_of-PatternTree, end_of-PatternTree, more_of-PatternTree}
use Rattle.sled_parser.specs.declared.tree.PatternTree.TheVariants.{Either', Chain', Both', Labelled', Loose', Group', Empty, Word, Limit, Apply}
use Rattle.sled_model.specs.declared.pattern.Pattern.{Pattern, Row_of-Pattern, end_of-Pattern, more_of-Pattern, items-the_row-Pattern, items_hidden-the_row-Pattern-1}
use Rattle.sled_model.specs.declared.pattern.Argument.TheBlock.{hidden-the_row-Pattern-0, hidden-the_row-Pattern-1}
use denote.Hole.Carrier.{hidden}
use Rattle.sled_model.specs.declared.pattern.Pattern.TheVariants as pattern
use Rattle.sled_model.specs.Linear.{labels_in, row_labels}
use Rattle.tree_meaning.specs.Scopes.{Declared}
use Rattle.tree_meaning.specs.Parts.{parts, row_parts, part_labels, labels}
use Rattle.tree_meaning.specs.Patterns.{patterns_of, row_patterns, choices, boxed, relation_of, field_or_first, label_number, word_pattern}
use Rattle.tree_meaning.specs.Values.{value_numbers}
use Rattle.constructor_plans.proofs.TreeFields.{choices_next}

-- ---- labels of patterns that hold others

row_labels-row : {n : _} (ps : Row_of-Pattern n) → row_labels ps ≡ flat_map labels_in (items-the_row-Pattern _ ps)
row_labels-row end_of-Pattern = refl
row_labels-row (more_of-Pattern p ps) = ap (λ ls. labels_in p ++ ls) (row_labels-row ps)

within : (ps : List Pattern) → row_labels (hidden-the_row-Pattern-1 ps) ≡ flat_map labels_in ps
within ps = row_labels-row (hidden-the_row-Pattern-1 ps) ∙ ap (flat_map labels_in) (items_hidden-the_row-Pattern-1 ps)

labels-Both : (ps : List Pattern) → labels_in (pattern.Both ps) ≡ flat_map labels_in ps
labels-Both ps = within ps

labels-Either : (ps : List Pattern) → labels_in (pattern.Either ps) ≡ flat_map labels_in ps
labels-Either ps = within ps

labels-Chain : (ps : List Pattern) → labels_in (pattern.Chain ps) ≡ flat_map labels_in ps
labels-Chain ps = within ps

labels-Label : (l : ℕ) (p : Pattern) → labels_in (pattern.Label l p) ≡ l ∷ labels_in p
unfolding hidden-the_row-Pattern-0 hidden
labels-Label l p = ap (λ ls. l ∷ ls) (append-nil (labels_in p))

labels-Loose : (p : Pattern) → labels_in (pattern.Loose p) ≡ labels_in p
unfolding hidden-the_row-Pattern-0 hidden
labels-Loose p = append-nil (labels_in p)

-- ---- counts

-- the pattern, and the patterns, have so many labels or more
abbrev HasMore : ℕ → Pattern → Type 0
HasMore n p = n ≤ length (labels_in p)

abbrev AllHaveMore : ℕ → List Pattern → Type 0
AllHaveMore n ps = n ≤ length (flat_map labels_in ps)

as_many : (n : ℕ) (ls ms : List ℕ) → ls ≡ ms → n ≤ length ms → n ≤ length ls
as_many n ls ms same h = rw same h

two_parts : (m n : ℕ) (ls ms : List ℕ) → m ≤ length ls → n ≤ length ms → m + n ≤ length (ls ++ ms)
two_parts m n ls ms h k = omega (arith, length-append ls ms)

alone : {A : Type 0} (P : A → Type 0) (x : A) → P x → All P (x ∷ [])
alone P x h = All-cons P x [] h (All-nil P)

mapped_each : {A B : Type 0} (P : B → Type 0) (f : A → B) → ((x : A) → P (f x)) → (xs : List A) → All P (map f xs)
mapped_each P f each [] = All-nil P
mapped_each P f each (x ∷ xs) = All-cons P (f x) (map f xs) (each x) (mapped_each P f each xs)

-- the labels of the parts
abbrev count : List PatternTree → ℕ
count ts = length (flat_map part_labels ts)

count-append : (us vs : List PatternTree) → count (us ++ vs) ≡ count us + count vs
count-append us vs = ap length (flat_map-append part_labels us vs) ∙ length-append (flat_map part_labels us) (flat_map part_labels vs)

module _ (d : Declared) (names : List (List ℕ)) where
  mutual
    -- each pattern of a tree has as many labels as the tree
    pub labels_are : (t : PatternTree) → All (λ p. length (labels t) ≤ length (labels_in p)) (patterns_of d names t)
    labels_are (Either' a ts) =
        All-map (HasMore (count (row_parts ts))) pattern.Either (choices (row_patterns d names ts))
        (All-weaker (AllHaveMore (count (row_parts ts))) (λ ps. HasMore (count (row_parts ts)) (pattern.Either ps)) (λ ps h. as_many (count (row_parts ts)) (labels_in (pattern.Either ps)) (flat_map labels_in ps) (labels-Either ps) h)
        (choices (row_patterns d names ts)) (rows_are ts))
    labels_are (Chain' a ts) =
        All-map (HasMore (count (row_parts ts))) pattern.Chain (choices (row_patterns d names ts))
        (All-weaker (AllHaveMore (count (row_parts ts))) (λ ps. HasMore (count (row_parts ts)) (pattern.Chain ps)) (λ ps h. as_many (count (row_parts ts)) (labels_in (pattern.Chain ps)) (flat_map labels_in ps) (labels-Chain ps) h)
        (choices (row_patterns d names ts)) (rows_are ts))
    labels_are (Both' a ts) =
        All-map (HasMore (count (row_parts ts))) pattern.Both (choices (row_patterns d names ts))
        (All-weaker (AllHaveMore (count (row_parts ts))) (λ ps. HasMore (count (row_parts ts)) (pattern.Both ps)) (λ ps h. as_many (count (row_parts ts)) (labels_in (pattern.Both ps)) (flat_map labels_in ps) (labels-Both ps) h)
        (choices (row_patterns d names ts)) (rows_are ts))
    labels_are (Labelled' l a t) =
        let n = length (l ∷ flat_map part_labels (row_parts t)) in
        All-map (HasMore n) (pattern.Label (label_number names l)) (boxed (row_patterns d names t))
        (All-weaker (HasMore (count (row_parts t))) (λ p. HasMore n (pattern.Label (label_number names l) p))
        (λ p h. as_many n (labels_in (pattern.Label (label_number names l) p)) (label_number names l ∷ labels_in p) (labels-Label (label_number names l) p) (omega arith)) (boxed (row_patterns d names t)) (one_is t))
    labels_are (Loose' a t) =
        All-map (HasMore (count (row_parts t))) pattern.Loose (boxed (row_patterns d names t))
        (All-weaker (HasMore (count (row_parts t))) (λ p. HasMore (count (row_parts t)) (pattern.Loose p)) (λ p h. as_many (count (row_parts t)) (labels_in (pattern.Loose p)) (labels_in p) (labels-Loose p) h)
        (boxed (row_patterns d names t)) (one_is t))
    labels_are (Group' a t) = one_is t
    labels_are Empty = alone (HasMore 0) pattern.Empty (omega arith)
    labels_are (Word w) = alone (HasMore 0) (word_pattern d w) (omega arith)
    labels_are (Limit f r v) = mapped_each (HasMore 0) (λ n. pattern.Limit (field_or_first d f) (relation_of r) n) (λ n. omega arith) (value_numbers v)
    labels_are (Apply k arguments) = alone (HasMore 0) pattern.Empty (omega arith)

    one_is : (t : Row_of-PatternTree 1) → All (HasMore (count (row_parts t))) (boxed (row_patterns d names t))
    one_is (more_of-PatternTree u end_of-PatternTree) =
        All-weaker (HasMore (count (parts u))) (HasMore (count (parts u ++ []))) (λ p h. omega (arith, count-append (parts u) [])) (patterns_of d names u) (labels_are u)

    rows_are : {n : _} (ts : Row_of-PatternTree n) → All (AllHaveMore (count (row_parts ts))) (choices (row_patterns d names ts))
    rows_are end_of-PatternTree = alone (AllHaveMore 0) [] (omega arith)
    rows_are (more_of-PatternTree t ts) =
        choices_next (HasMore (count (parts t))) (AllHaveMore (count (row_parts ts))) (AllHaveMore (count (parts t ++ row_parts ts)))
        (λ x chosen p q. added (labels_in x) (flat_map labels_in chosen) p q) (patterns_of d names t) (row_patterns d names ts) (labels_are t) (rows_are ts)
      where
        added : (ls ms : List ℕ) → count (parts t) ≤ length ls → count (row_parts ts) ≤ length ms → count (parts t ++ row_parts ts) ≤ length (ls ++ ms)
        added ls ms h k = omega (arith, count-append (parts t) (row_parts ts), length-append ls ms)
