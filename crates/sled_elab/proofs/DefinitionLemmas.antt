-- The names and the members of a group, and what conditions that are met say.
use Rattle.std.proofs.Common.{◌≡◌, ℕ, zero, suc, ◌+◌, ◌-◌, ◌^◌, ◌<◌, ◌≢◌, min, Bool, true, false, List, [], ◌∷◌, ◌++◌, length, map, take, get_or, Some, None, refl, sym, ap, subst, ◌∙◌, add-one, arith}
use Rattle.std.specs.Prelude.{not, ◌&&◌, ◌||◌, nat_eq, bytes_eq, fold}
use Rattle.std.specs.List.{list_any}
use Rattle.std.proofs.lemmas.Bool.Decides.{nat_tests}
use Rattle.std.proofs.lemmas.List.{append_assoc, append-nil}
use Rattle.std.proofs.lemmas.Slice.Eq.{bytes_eq-Decides}
use Rattle.sled_parser.specs.declared.tree.ItemTree.{ItemTree}
use Rattle.sled_parser.specs.declared.tree.ItemTree.TheVariants as item
use Rattle.sled_parser.specs.declared.tree.PatternTree.{PatternTree}
use Rattle.sled_model.specs.declared.pattern.Pattern.{Pattern}
use Rattle.tree_meaning.specs.declared.scope.Meaning.TheVariants as meaning
use Rattle.tree_meaning.specs.Bindings.{are_none}
use Rattle.tree_meaning.specs.Names.{is_among, are_new, are_distinct}
use Rattle.tree_meaning.specs.Scopes.{Declared}
use Rattle.tree_meaning.specs.Parts.{parts}
use Rattle.tree_meaning.specs.Patterns.{patterns_of, choices_among}
use Rattle.tree_meaning.proofs.ChoiceLemmas.{map-map}
use Rattle.tree_meaning.proofs.CountLemmas.{length-patterns_of}
use Rattle.sled_elab.specs.Declarations.{is_name, item_names, member, members, with_name, with_member, with_patterns}
use Rattle.sled_elab.specs.Conditions.{are_declared_once, choices_are_listed}
use Rattle.constructor_meaning.specs.Unmet.{first_unmet}

pub both_of : (s t : Bool) → (s && t) ≡ true → (s ≡ true) × (t ≡ true)
both_of true t h = (refl, h)
both_of false t h = cc

not_true : (t : Bool) → not t ≡ true → t ≡ false
not_true true h = cc
not_true false h = refl

-- ---- places and members

-- a list has a name where a place of it is one
pub some_name : (items : List ItemTree) → list_any is_name items ≡ not (are_none (item_names items))
some_name [] = refl
some_name (item.Name n ∷ items) = refl
some_name (item.Skip ∷ items) = some_name items

members_next : (items : List ItemTree) (ps : List Pattern) (i : ℕ) (x : ItemTree) (p : Pattern) → i < length items → i < length ps → x ≡ get_or items i x → p ≡ get_or ps i p
    → members (take (suc i) items) (take (suc i) ps) ≡ members (take i items) (take i ps) ++ member x p
members_next [] ps i x p h k is at = absurd (omega arith)
members_next (y ∷ items) [] i x p h k is at = absurd (omega arith)
members_next (y ∷ items) (q ∷ ps) zero x p h k is at =
    append-nil (member y q) ∙ ap (λ z. member z q) (sym is) ∙ ap (member x) (sym at)
members_next (y ∷ items) (q ∷ ps) (suc i) x p h k is at =
    ap (λ ms. member y q ++ ms) (members_next items ps i x p (omega arith) (omega arith) is at)
    ∙ sym (append_assoc (member y q) (members (take i items) (take i ps)) (member x p))

-- one place more
pub members_more : (items : List ItemTree) (ps : List Pattern) (i : ℕ) (x : ItemTree) (p : Pattern) → i < length items → i < length ps → x ≡ get_or items i x → p ≡ get_or ps i p
    → members (take (i + 1) items) (take (i + 1) ps) ≡ members (take i items) (take i ps) ++ member x p
members_more items ps i x p h k is at = rw (add-one) (members_next items ps i x p h k is at)

abbrev pub member_names : List (List ℕ × Pattern) → List (List ℕ)
member_names ms = map (λ m. m.0) ms

-- where each choice has a place, the members' names are those in the list
pub names_of_members : (items : List ItemTree) (ps : List Pattern) → length items ≡ length ps → member_names (members items ps) ≡ item_names items
names_of_members [] [] h = refl
names_of_members [] (p ∷ ps) h = absurd (omega arith)
names_of_members (y ∷ items) [] h = absurd (omega arith)
names_of_members (item.Name n ∷ items) (p ∷ ps) h = ap (λ ns. n ∷ ns) (names_of_members items ps (omega arith))
names_of_members (item.Skip ∷ items) (p ∷ ps) h = names_of_members items ps (omega arith)

-- ---- names that are declared once, one after another

eq_sym : (xs ys : List ℕ) → bytes_eq xs ys ≡ bytes_eq ys xs
eq_sym xs ys = by_test (bytes_eq xs ys) (bytes_eq ys xs) refl refl where
  by_test : (s t : Bool) → bytes_eq xs ys ≡ s → bytes_eq ys xs ≡ t → s ≡ t
  by_test true true a b = refl
  by_test false false a b = refl
  by_test true false a b = let e = (bytes_eq-Decides xs ys).0 a in let back = (bytes_eq-Decides ys xs).1 (sym e) in cc
  by_test false true a b = let e = (bytes_eq-Decides ys xs).0 b in let back = (bytes_eq-Decides xs ys).1 (sym e) in cc

none_of : (s t : Bool) → (s || t) ≡ false → (s ≡ false) × (t ≡ false)
none_of true t h = cc
none_of false t h = (refl, h)

among_push : (ns : List (List ℕ)) (y n : List ℕ) → is_among ns n ≡ false → bytes_eq n y ≡ false → is_among (ns ++ y ∷ []) n ≡ false
among_push [] y n h e = rw e refl
among_push (m ∷ ns) y n h e = let parts = none_of (bytes_eq n m) (is_among ns n) h in rw (parts.0, among_push ns y n parts.1 e) refl

new_push : (names : List (List ℕ)) (n : List ℕ) (ns : List (List ℕ)) → are_new names ns ≡ true → is_among ns n ≡ false → are_new (names ++ n ∷ []) ns ≡ true
new_push names n [] new apart = refl
new_push names n (m ∷ ns) new apart =
    let here = both_of (not (is_among names m)) (are_new names ns) new in
    let differ = none_of (bytes_eq n m) (is_among ns n) apart in
    rw (among_push names n m (not_true (is_among names m) here.0) (eq_sym m n ∙ differ.0), new_push names n ns here.1 differ.1) refl

module _ (names : List (List ℕ)) (n : List ℕ) (ns : List (List ℕ)) (once : (are_new names (n ∷ ns) && are_distinct (n ∷ ns)) ≡ true) where
  -- the first of names that are declared once was not declared before
  pub first_fresh : is_among names n ≡ false
  first_fresh =
      let parts = both_of (are_new names (n ∷ ns)) (are_distinct (n ∷ ns)) once in
      not_true (is_among names n) (both_of (not (is_among names n)) (are_new names ns) parts.0).0

  -- and with it, the others are declared once
  pub others_once : (are_new (names ++ n ∷ []) ns && are_distinct ns) ≡ true
  others_once =
      let parts = both_of (are_new names (n ∷ ns)) (are_distinct (n ∷ ns)) once in
      let apart = both_of (not (is_among ns n)) (are_distinct ns) parts.1 in
      rw (new_push names n ns (both_of (not (is_among names n)) (are_new names ns) parts.0).1 (not_true (is_among ns n) apart.0), apart.1) refl

-- the next member's name was not declared, nor is it that of a member before it
pub next_fresh : {A : Type 0} (now : A → List ℕ × Pattern) (declared : Declared) (ms : List A) (i : ℕ) (m : A) → i < length ms → m ≡ get_or ms i m
    → are_declared_once declared (member_names (map now ms)) ≡ true → is_among (fold with_member declared (map now (take i ms))).names (now m).0 ≡ false
next_fresh now declared [] i m h is once = absurd (omega arith)
next_fresh now declared (x ∷ ms) zero m h is once =
    subst (λ y. is_among declared.names (now y).0 ≡ false) (sym is) (first_fresh declared.names (now x).0 (member_names (map now ms)) once)
next_fresh now declared (x ∷ ms) (suc i) m h is once =
    next_fresh now (with_member declared (now x)) ms i m (omega arith) is (others_once declared.names (now x).0 (member_names (map now ms)) once)

-- the same in a group
pub next_member : {A : Type 0} (now : A → List ℕ × Pattern) (xs : List A) (declared current : Declared) (name : List ℕ) (group : List Pattern) (items : List ItemTree) (ps : List Pattern) (i : ℕ) (x : A)
    → are_declared_once declared (name ∷ item_names items) ≡ true → length items ≡ length ps → map now xs ≡ members items ps → i < length xs → x ≡ get_or xs i x
    → current ≡ fold with_member (with_name declared name (meaning.Group group)) (map now (take i xs)) → is_among current.names (now x).0 ≡ false
next_member now xs declared current name group items ps i x once whole are h is made =
    let names : member_names (map now xs) ≡ item_names items = ap member_names are ∙ names_of_members items ps whole in
    let base : Declared = with_name declared name (meaning.Group group) in
    let rest : are_declared_once base (member_names (map now xs)) ≡ true =
    subst (λ ns. are_declared_once base ns ≡ true) (sym names) (others_once declared.names name (item_names items) once) in
    subst (λ (y : Declared). is_among y.names (now x).0 ≡ false) (sym made) (next_fresh now base xs i x h is rest)

-- a group and all its members, behind references
pub group_made : {A : Type 0} (now : A → List ℕ × Pattern) (xs : List A) (declared new : Declared) (name : List ℕ) (items : List ItemTree) (ps : List Pattern)
    → map now xs ≡ members items ps → new ≡ fold with_member (with_name declared name (meaning.Group (map (λ x. (now x).1) xs))) (map now xs)
    → new ≡ with_patterns declared name (Some items) ps
group_made now xs declared new name items ps are made =
    made ∙ ap (λ group. fold with_member (with_name declared name (meaning.Group group)) (map now xs)) (sym (map-map (λ m. m.1) now xs))
    ∙ ap (λ ms. fold with_member (with_name declared name (meaning.Group (map (λ m. m.1) ms))) ms) are

-- ---- how many places

-- counts that stop at a limit are compared with what is below it
pub listed_count : (len count : ℕ) → len < 2 ^ 64 - 1 → nat_eq len (min count (2 ^ 64 - 1)) ≡ nat_eq len count
listed_count len count h = by_test (nat_eq len (min count (2 ^ 64 - 1))) (nat_eq len count) refl refl where
  by_test : (s t : Bool) → nat_eq len (min count (2 ^ 64 - 1)) ≡ s → nat_eq len count ≡ t → s ≡ t
  by_test true true a b = refl
  by_test false false a b = refl
  by_test true false a b = let e : len ≡ min count (2 ^ 64 - 1) = grind (arith, nat_tests) in let ne : len ≢ count = grind (arith, nat_tests) in absurd (omega arith)
  by_test false true a b = let e : len ≡ count = grind (arith, nat_tests) in let ne : len ≢ min count (2 ^ 64 - 1) = grind (arith, nat_tests) in absurd (omega arith)

pub as_many : (items : List ItemTree) (ps : List Pattern) → nat_eq (length items) (length ps) ≡ true → length items ≡ length ps
as_many items ps h = grind (arith, nat_tests)

-- a list with a name in it has a place for each choice
pub listed_some : (declared : Declared) (items : List ItemTree) (tree : PatternTree) (ts : List PatternTree) (named placed : Bool) → named ≡ true → named ≡ not (are_none (item_names items)) → ts ≡ parts tree
    → placed ≡ nat_eq (length items) (choices_among ts) → placed ≡ choices_are_listed declared (Some items) tree
listed_some declared items tree ts named placed has names are is =
    let whole = nat_eq (length items) (length (patterns_of declared [] tree)) in
    is ∙ ap (nat_eq (length items)) (ap choices_among are ∙ sym (length-patterns_of declared [] tree)) ∙ ap (λ t. t && whole) (sym has ∙ names)

-- ---- conditions

-- naming conditions of which none is unmet
pub all_met : (a b c e : Bool) → first_unmet ((1, a) ∷ (2, b) ∷ (4, c) ∷ (5, e) ∷ []) ≡ None → (a ≡ true) × ((b ≡ true) × ((c ≡ true) × (e ≡ true)))
all_met true true true true h = (refl, (refl, (refl, refl)))
all_met false b c e h = cc
all_met true false c e h = cc
all_met true true false e h = cc
all_met true true true false h = cc
