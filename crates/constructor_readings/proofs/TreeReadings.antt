-- What a tree that binds nothing makes reads nothing, no side of a disjunction reads anything, and an operand that a tree binds stands in what it makes.
use Rattle.std.proofs.Common.{◌≡◌, ◌⊎◌, inl, inr, ⊎_elim, ℕ, Bool, true, false, cond, List, [], ◌∷◌, ◌++◌, map, All, Some, None, refl, sym, ap, ◌∙◌}
use Rattle.std.specs.Prelude.{Option, ◌||◌, ◌==◌, bytes_eq, fold}
use Rattle.std.specs.List.{list_all, list_any, flat_map}
use Rattle.std.specs.Option.{option_map_or}
use Rattle.std.proofs.lemmas.Bool.{eq-eqb, or_cases, or_left, or_right}
use Rattle.std.proofs.lemmas.List.Concat.{flat_map-append}
use Rattle.std.proofs.lemmas.List.Elements.{All-nil, All-cons, All-head, All-tail, All-map, All-weaker}
use Rattle.std.proofs.lemmas.List.Folds.{list_any-append}
use Rattle.std.proofs.lemmas.Slice.Eq.{bytes_eq-Decides}
use Rattle.sled_parser.specs.declared.tree.PatternTree.{PatternTree, Row_of-PatternTree, end_of-PatternTree, more_of-PatternTree}
use Rattle.sled_parser.specs.declared.tree.PatternTree.TheVariants.{Either', Chain', Both', Labelled', Loose', Group', Empty, Word, Limit, Apply}
use Rattle.sled_model.specs.declared.pattern.Pattern.{Pattern}
use Rattle.sled_model.specs.declared.pattern.Pattern.TheVariants as pattern
use Rattle.sled_model.specs.Results.{operands_in}
use Rattle.sled_model.specs.SolvingOrder.{bare_fields, is_among as is_number_among}
use Rattle.sled_model.proofs.AdmittedLaws.{operands_in-Both, operands_in-Either, operands_in-Chain, operands_in-Loose, operands_in-Label}
use Rattle.eq_solver.proofs.BareFields.{fields-Both, fields-Either, fields-Chain, fields-Loose, fields-Label}
use Rattle.tree_meaning.specs.declared.scope.Meaning.TheVariants as meaning
use Rattle.tree_meaning.specs.Names.{is_among, merged}
use Rattle.tree_meaning.specs.Scopes.{Declared, meaning_of}
use Rattle.tree_meaning.specs.Parts.{parts, row_parts, part_labels}
use Rattle.tree_meaning.specs.Patterns.{patterns_of, row_patterns, choices, boxed, relation_of, field_or_first, label_number, meaning_pattern, word_pattern}
use Rattle.tree_meaning.specs.Values.{value_numbers}
use Rattle.tree_meaning.specs.Bindings.{word_binds, union, bound, row_bound, are_none, sides_bind_nothing, row_binds_nothing}
use Rattle.tree_meaning.proofs.Merging.{among_merged}
use Rattle.tree_meaning.proofs.Soundness.{All-choices}
use Rattle.operand_meaning.proofs.ListFacts.{both_of}
use Rattle.constructor_plans.proofs.PickLemmas.{none_of_union, none_is}
use Rattle.constructor_plans.proofs.TreeFields.{choices_next}
use Rattle.match_meaning.specs.Readable.{SidesReadNothing}
use Rattle.constructor_readings.proofs.Nothing.{ReadsNothing, sides-Both, sides-Either, sides-Chain, sides-Loose, sides-Label}

-- ---- lists

alone : {A : Type 0} (P : A → Type 0) (x : A) → P x → All P (x ∷ [])
alone P x h = All-cons P x [] h (All-nil P)

mapped_each : {A B : Type 0} (P : B → Type 0) (f : A → B) → ((x : A) → P (f x)) → (xs : List A) → All P (map f xs)
mapped_each P f each [] = All-nil P
mapped_each P f each (x ∷ xs) = All-cons P (f x) (map f xs) (each x) (mapped_each P f each xs)

all_boxed : {A : Type 0} (P : A → Type 0) (xss : List (List A)) → All (All P) xss → All P (boxed xss)
all_boxed P [] h = All-nil P
all_boxed P (xs ∷ xss) h = All-head (All P) xs xss h

all_any : {A : Type 0} (xs : List A) → All (λ x. Unit {0}) xs
all_any [] = All-nil (λ x. Unit {0})
all_any (x ∷ xs) = All-cons (λ y. Unit {0}) x xs tt (all_any xs)

all_none : {A : Type 0} (f : A → List ℕ) (xs : List A) → All (λ x. f x ≡ []) xs → flat_map f xs ≡ []
all_none f [] h = refl
all_none f (x ∷ xs) h =
    ap (λ ks. ks ++ flat_map f xs) (All-head (λ y. f y ≡ []) x xs h) ∙ all_none f xs (All-tail (λ y. f y ≡ []) x xs h)

-- ---- patterns that read nothing

fields_none : (ps : List Pattern) → All ReadsNothing ps → flat_map bare_fields ps ≡ []
fields_none ps h = all_none bare_fields ps (All-weaker ReadsNothing (λ p. bare_fields p ≡ []) (λ p r. r.0) ps h)

operands_none : (ps : List Pattern) → All ReadsNothing ps → flat_map operands_in ps ≡ []
operands_none ps h = all_none operands_in ps (All-weaker ReadsNothing (λ p. operands_in p ≡ []) (λ p r. r.1) ps h)

reads-Both : (ps : List Pattern) → All ReadsNothing ps → ReadsNothing (pattern.Both ps)
reads-Both ps h = (fields-Both ps ∙ fields_none ps h, operands_in-Both ps ∙ operands_none ps h)

pub reads-Either : (ps : List Pattern) → All ReadsNothing ps → ReadsNothing (pattern.Either ps)
reads-Either ps h = (fields-Either ps ∙ fields_none ps h, operands_in-Either ps ∙ operands_none ps h)

reads-Chain : (ps : List Pattern) → All ReadsNothing ps → ReadsNothing (pattern.Chain ps)
reads-Chain ps h = (fields-Chain ps ∙ fields_none ps h, operands_in-Chain ps ∙ operands_none ps h)

reads-Loose : (p : Pattern) → ReadsNothing p → ReadsNothing (pattern.Loose p)
reads-Loose p h = (fields-Loose p ∙ h.0, operands_in-Loose p ∙ h.1)

-- ---- names that are bound

or_nothing : (t : Bool) → t ≡ (t || false)
or_nothing true = refl
or_nothing false = refl

or_grouped : (a b c : Bool) → ((a || b) || c) ≡ (a || (b || c))
or_grouped true b c = refl
or_grouped false b c = refl

module _ (w : List ℕ) where
  -- the name is in one of the lists
  abbrev in_one : List (List (List ℕ)) → Bool
  in_one rows = list_any (λ names. is_among names w) rows

  among_folded : (rows : List (List (List ℕ))) (names : List (List ℕ)) → is_among (fold merged names rows) w ≡ (is_among names w || in_one rows)
  among_folded [] names = or_nothing (is_among names w)
  among_folded (ms ∷ rows) names =
      among_folded rows (merged names ms) ∙ ap (λ t. t || in_one rows) (among_merged names ms w) ∙ or_grouped (is_among names w) (is_among ms w) (in_one rows)

  among_union : (rows : List (List (List ℕ))) → is_among (union rows) w ≡ true → in_one rows ≡ true
  among_union rows h = sym (among_folded rows []) ∙ h

  none_among : (rows : List (List (List ℕ))) → list_all are_none rows ≡ true → in_one rows ≡ false
  none_among [] none = refl
  none_among ([] ∷ rows) none = none_among rows none
  none_among ((m ∷ ms) ∷ rows) none = cc

  among_front : (ns ms : List (List ℕ)) → is_among ns w ≡ true → is_among (ns ++ ms) w ≡ true
  among_front ns ms h = list_any-append (bytes_eq w) ns ms ∙ or_left (is_among ns w) (is_among ms w) h

  among_back : (ns ms : List (List ℕ)) → is_among ms w ≡ true → is_among (ns ++ ms) w ≡ true
  among_back ns ms h = list_any-append (bytes_eq w) ns ms ∙ or_right (is_among ns w) (is_among ms w) h

number_front : (k : ℕ) (js ks : List ℕ) → is_number_among js k ≡ true → is_number_among (js ++ ks) k ≡ true
number_front k js ks h = list_any-append (λ j. j == k) js ks ∙ or_left (is_number_among js k) (is_number_among ks k) h

number_back : (k : ℕ) (js ks : List ℕ) → is_number_among ks k ≡ true → is_number_among (js ++ ks) k ≡ true
number_back k js ks h = list_any-append (λ j. j == k) js ks ∙ or_right (is_number_among js k) (is_number_among ks k) h

-- ---- trees

-- the patterns are made in the scope d, the names bound in the scope s: a word that binds nothing reads nothing
module _ (d s : Declared) (names : List (List ℕ)) (silent : (w : List ℕ) → word_binds s w ≡ false → ReadsNothing (word_pattern d w)) where
  unbound : (w : List ℕ) (t : Bool) → word_binds s w ≡ t → cond t (w ∷ []) [] ≡ [] → word_binds s w ≡ false
  unbound w true is none = cc
  unbound w false is none = is

  mutual
    pub nothing_made : (t : PatternTree) → bound s t ≡ [] → All ReadsNothing (patterns_of d names t)
    nothing_made (Either' a ts) none =
        let chosen = choices (row_patterns d names ts) in
        All-map ReadsNothing pattern.Either chosen
        (All-weaker (All ReadsNothing) (λ ps. ReadsNothing (pattern.Either ps)) reads-Either chosen
        (All-choices ReadsNothing (row_patterns d names ts) (rows_nothing ts (none_of_union (row_bound s ts) none))))
    nothing_made (Chain' a ts) none =
        let chosen = choices (row_patterns d names ts) in
        All-map ReadsNothing pattern.Chain chosen
        (All-weaker (All ReadsNothing) (λ ps. ReadsNothing (pattern.Chain ps)) reads-Chain chosen
        (All-choices ReadsNothing (row_patterns d names ts) (rows_nothing ts (none_of_union (row_bound s ts) none))))
    nothing_made (Both' a ts) none =
        let chosen = choices (row_patterns d names ts) in
        All-map ReadsNothing pattern.Both chosen
        (All-weaker (All ReadsNothing) (λ ps. ReadsNothing (pattern.Both ps)) reads-Both chosen
        (All-choices ReadsNothing (row_patterns d names ts) (rows_nothing ts (none_of_union (row_bound s ts) none))))
    nothing_made (Labelled' l a t) none = let no = none_of_union ((l ∷ []) ∷ row_bound s t) none in cc
    nothing_made (Loose' a t) none =
        let inner = boxed (row_patterns d names t) in
        All-map ReadsNothing pattern.Loose inner
        (All-weaker ReadsNothing (λ p. ReadsNothing (pattern.Loose p)) reads-Loose inner
        (all_boxed ReadsNothing (row_patterns d names t) (rows_nothing t (none_of_union (row_bound s t) none))))
    nothing_made (Group' a t) none = all_boxed ReadsNothing (row_patterns d names t) (rows_nothing t (none_of_union (row_bound s t) none))
    nothing_made Empty none = alone ReadsNothing pattern.Empty (refl, refl)
    nothing_made (Word w) none = alone ReadsNothing (word_pattern d w) (silent w (unbound w (word_binds s w) refl none))
    nothing_made (Limit f r v) none = mapped_each ReadsNothing (λ n. pattern.Limit (field_or_first d f) (relation_of r) n) (λ n. (refl, refl)) (value_numbers v)
    nothing_made (Apply k arguments) none = alone ReadsNothing pattern.Empty (refl, refl)

    rows_nothing : {n : _} (ts : Row_of-PatternTree n) → list_all are_none (row_bound s ts) ≡ true → All (All ReadsNothing) (row_patterns d names ts)
    rows_nothing end_of-PatternTree none = All-nil (All ReadsNothing)
    rows_nothing (more_of-PatternTree t ts) none =
        let both = both_of (are_none (bound s t)) (list_all are_none (row_bound s ts)) none in
        All-cons (All ReadsNothing) (patterns_of d names t) (row_patterns d names ts) (nothing_made t (none_is (bound s t) both.0)) (rows_nothing ts both.1)

  module _ (quiet : (w : List ℕ) → SidesReadNothing (word_pattern d w)) where
    mutual
      -- where no side of a disjunction binds a name, none reads anything
      pub sides_made : (t : PatternTree) → sides_bind_nothing s t ≡ true → All SidesReadNothing (patterns_of d names t)
      sides_made (Either' a ts) none =
          let chosen = choices (row_patterns d names ts) in
          All-map SidesReadNothing pattern.Either chosen
          (All-weaker (All ReadsNothing) (λ ps. SidesReadNothing (pattern.Either ps)) (λ ps h. sides-Either ps (reads-Either ps h)) chosen
          (All-choices ReadsNothing (row_patterns d names ts) (rows_nothing ts none)))
      sides_made (Chain' a ts) none =
          let chosen = choices (row_patterns d names ts) in
          All-map SidesReadNothing pattern.Chain chosen
          (All-weaker (All SidesReadNothing) (λ ps. SidesReadNothing (pattern.Chain ps)) sides-Chain chosen
          (All-choices SidesReadNothing (row_patterns d names ts) (rows_quiet ts none)))
      sides_made (Both' a ts) none =
          let chosen = choices (row_patterns d names ts) in
          All-map SidesReadNothing pattern.Both chosen
          (All-weaker (All SidesReadNothing) (λ ps. SidesReadNothing (pattern.Both ps)) sides-Both chosen
          (All-choices SidesReadNothing (row_patterns d names ts) (rows_quiet ts none)))
      sides_made (Labelled' l a t) none =
          let inner = boxed (row_patterns d names t) in
          All-map SidesReadNothing (pattern.Label (label_number names l)) inner
          (All-weaker SidesReadNothing (λ p. SidesReadNothing (pattern.Label (label_number names l) p)) (sides-Label (label_number names l)) inner
          (all_boxed SidesReadNothing (row_patterns d names t) (rows_quiet t none)))
      sides_made (Loose' a t) none =
          let inner = boxed (row_patterns d names t) in
          All-map SidesReadNothing pattern.Loose inner
          (All-weaker SidesReadNothing (λ p. SidesReadNothing (pattern.Loose p)) sides-Loose inner
          (all_boxed SidesReadNothing (row_patterns d names t) (rows_quiet t none)))
      sides_made (Group' a t) none = all_boxed SidesReadNothing (row_patterns d names t) (rows_quiet t none)
      sides_made Empty none = alone SidesReadNothing pattern.Empty tt
      sides_made (Word w) none = alone SidesReadNothing (word_pattern d w) (quiet w)
      sides_made (Limit f r v) none = mapped_each SidesReadNothing (λ n. pattern.Limit (field_or_first d f) (relation_of r) n) (λ n. tt) (value_numbers v)
      sides_made (Apply k arguments) none = alone SidesReadNothing pattern.Empty tt

      rows_quiet : {n : _} (ts : Row_of-PatternTree n) → row_binds_nothing s ts ≡ true → All (All SidesReadNothing) (row_patterns d names ts)
      rows_quiet end_of-PatternTree none = All-nil (All SidesReadNothing)
      rows_quiet (more_of-PatternTree t ts) none =
          let both = both_of (sides_bind_nothing s t) (row_binds_nothing s ts) none in
          All-cons (All SidesReadNothing) (patterns_of d names t) (row_patterns d names ts) (sides_made t both.0) (rows_quiet ts both.1)

-- ---- an operand that is bound

module _ (d s : Declared) (names : List (List ℕ)) (w : List ℕ) (k : ℕ) (is : meaning_of d w ≡ Some (meaning.Operand k)) where
  -- the operand stands in the pattern, and among the patterns
  abbrev Has : Pattern → Type 0
  Has p = is_number_among (operands_in p) k ≡ true

  abbrev HasAmong : List Pattern → Type 0
  HasAmong ps = is_number_among (flat_map operands_in ps) k ≡ true

  -- the name is a label's of these trees, or the operand's
  abbrev IsLabel : List PatternTree → Type 0
  IsLabel ts = is_among (flat_map part_labels ts) w ≡ true

  has_same : (js ks : List ℕ) → js ≡ ks → is_number_among ks k ≡ true → is_number_among js k ≡ true
  has_same js ks same h = ap (λ is. is_number_among is k) same ∙ h

  label_front : (us vs : List PatternTree) → IsLabel us → IsLabel (us ++ vs)
  label_front us vs h = ap (λ ls. is_among ls w) (flat_map-append part_labels us vs) ∙ among_front w (flat_map part_labels us) (flat_map part_labels vs) h

  label_back : (us vs : List PatternTree) → IsLabel vs → IsLabel (us ++ vs)
  label_back us vs h = ap (λ ls. is_among ls w) (flat_map-append part_labels us vs) ∙ among_back w (flat_map part_labels us) (flat_map part_labels vs) h

  word_has : (v : List ℕ) (t : Bool) → is_among (cond t (v ∷ []) []) w ≡ true → Has (word_pattern d v)
  word_has v false among = cc
  word_has v true among = ⊎_elim
      (λ same.
      let name : w ≡ v = (bytes_eq-Decides w v).0 same in
      ap (λ m. is_number_among (operands_in (option_map_or meaning_pattern m pattern.Empty)) k) (ap (meaning_of d) (sym name) ∙ is) ∙ or_left (k == k) false (eq-eqb k k refl))
      (λ none. cc)
      (or_cases (bytes_eq w v) false among)

  mutual
    -- an operand that a tree binds stands in each pattern of the tree, where no label has its name
    pub operand_made : (t : PatternTree) → sides_bind_nothing s t ≡ true → is_among (bound s t) w ≡ true → IsLabel (parts t) ⊎ All Has (patterns_of d names t)
    operand_made (Either' a ts) sides among =
        let one = among_union w (row_bound s ts) among in
        let none = none_among w (row_bound s ts) sides in cc
    operand_made (Chain' a ts) sides among = ⊎_elim
        (λ l. inl l)
        (λ h. inr (All-map Has pattern.Chain (choices (row_patterns d names ts))
        (All-weaker HasAmong (λ ps. Has (pattern.Chain ps)) (λ ps g. has_same (operands_in (pattern.Chain ps)) (flat_map operands_in ps) (operands_in-Chain ps) g) (choices (row_patterns d names ts)) h)))
        (rows_operand ts sides (among_union w (row_bound s ts) among))
    operand_made (Both' a ts) sides among = ⊎_elim
        (λ l. inl l)
        (λ h. inr (All-map Has pattern.Both (choices (row_patterns d names ts))
        (All-weaker HasAmong (λ ps. Has (pattern.Both ps)) (λ ps g. has_same (operands_in (pattern.Both ps)) (flat_map operands_in ps) (operands_in-Both ps) g) (choices (row_patterns d names ts)) h)))
        (rows_operand ts sides (among_union w (row_bound s ts) among))
    operand_made (Labelled' l a t) sides among =
        let rest = flat_map part_labels (row_parts t) in
        let label = label_number names l in
        ⊎_elim
        (λ here. ⊎_elim (λ same. inl (or_left (bytes_eq w l) (is_among rest w) same)) (λ none. cc) (or_cases (bytes_eq w l) false here))
        (λ later. ⊎_elim
        (λ m. inl (or_right (bytes_eq w l) (is_among rest w) m))
        (λ h. inr (All-map Has (pattern.Label label) (boxed (row_patterns d names t))
        (All-weaker Has (λ p. Has (pattern.Label label p)) (λ p g. has_same (operands_in (pattern.Label label p)) (operands_in p) (operands_in-Label label p) g) (boxed (row_patterns d names t)) h)))
        (one_operand t sides later))
        (or_cases (is_among (l ∷ []) w) (in_one w (row_bound s t)) (among_union w ((l ∷ []) ∷ row_bound s t) among))
    operand_made (Loose' a t) sides among = ⊎_elim
        (λ l. inl l)
        (λ h. inr (All-map Has pattern.Loose (boxed (row_patterns d names t))
        (All-weaker Has (λ p. Has (pattern.Loose p)) (λ p g. has_same (operands_in (pattern.Loose p)) (operands_in p) (operands_in-Loose p) g) (boxed (row_patterns d names t)) h)))
        (one_operand t sides (among_union w (row_bound s t) among))
    operand_made (Group' a t) sides among = one_operand t sides (among_union w (row_bound s t) among)
    operand_made Empty sides among = cc
    operand_made (Word v) sides among = inr (alone Has (word_pattern d v) (word_has v (word_binds s v) among))
    operand_made (Limit f r v) sides among = cc
    operand_made (Apply j arguments) sides among = cc

    one_operand : (t : Row_of-PatternTree 1) → row_binds_nothing s t ≡ true → in_one w (row_bound s t) ≡ true → IsLabel (row_parts t) ⊎ All Has (boxed (row_patterns d names t))
    one_operand (more_of-PatternTree u end_of-PatternTree) sides among = ⊎_elim
        (λ here. ⊎_elim (λ l. inl (label_front (parts u) [] l)) (λ h. inr h) (operand_made u (both_of (sides_bind_nothing s u) true sides).0 here))
        (λ none. cc)
        (or_cases (is_among (bound s u) w) false among)

    rows_operand : {n : _} (ts : Row_of-PatternTree n) → row_binds_nothing s ts ≡ true → in_one w (row_bound s ts) ≡ true
        → IsLabel (row_parts ts) ⊎ All HasAmong (choices (row_patterns d names ts))
    rows_operand end_of-PatternTree sides among = cc
    rows_operand (more_of-PatternTree t ts) sides among =
        let both = both_of (sides_bind_nothing s t) (row_binds_nothing s ts) sides in
        ⊎_elim
        (λ here. ⊎_elim
        (λ l. inl (label_front (parts t) (row_parts ts) l))
        (λ h. inr (choices_next Has (λ (ps : List Pattern). Unit {0}) HasAmong (λ p ps g any. number_front k (operands_in p) (flat_map operands_in ps) g) (patterns_of d names t) (row_patterns d names ts)
        h (all_any (choices (row_patterns d names ts)))))
        (operand_made t both.0 here))
        (λ later. ⊎_elim
        (λ l. inl (label_back (parts t) (row_parts ts) l))
        (λ h. inr (choices_next (λ (p : Pattern). Unit {0}) HasAmong HasAmong (λ p ps any g. number_back k (operands_in p) (flat_map operands_in ps) g) (patterns_of d names t) (row_patterns d names ts)
        (all_any (patterns_of d names t)) h))
        (rows_operand ts both.1 later))
        (or_cases (is_among (bound s t) w) (in_one w (row_bound s ts)) among)
