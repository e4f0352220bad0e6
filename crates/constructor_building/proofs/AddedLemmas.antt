-- Constructors that are added one after the other.
use Rattle.std.proofs.Common.{◌≡◌, ◌≢◌, ℕ, Bool, true, false, List, [], ◌∷◌, ◌++◌, length, map, reverse, refl, sym, ap, subst, ◌∙◌, append_assoc}
use Rattle.std.specs.Prelude.{All, not, ◌||◌, ◌&&◌, bytes_eq}
use Rattle.std.proofs.lemmas.List.{append-nil, map-append, reverse-append, reverse-reverse}
use Rattle.std.proofs.lemmas.List.Elements.{All-nil, All-cons, All-head, All-tail}
use Rattle.std.proofs.lemmas.List.Folds.{list_any-append}
use Rattle.std.proofs.lemmas.Slice.Eq.{bytes_eq-Decides}
use Rattle.sled_model.specs.declared.constructor.Constructor.{Constructor}
use Rattle.sled_model.specs.declared.spec.Spec.{Spec}
use Rattle.sled_model.specs.Specs.{IsSpec, IsConstructorOf, IsNewConstructorName, constructor_names_of}
use Rattle.type_tables.specs.Tables.{IsTableOf}
use Rattle.type_tables.specs.declared.table.TypeTable.{TypeTable}
use Rattle.tree_meaning.specs.Names.{is_among, are_new, are_distinct}
use Rattle.tree_meaning.proofs.Soundness.{and_split}
use Rattle.constructor_scopes.specs.Names.{have_new_names}
use Rattle.constructor_building.specs.Building.{with_constructors}

-- ---- lists from behind

-- the last is the first of what is turned round
pub reverse-last : {A : Type 0} (xs ys : List A) (x : A) → xs ≡ ys ++ x ∷ [] → reverse xs ≡ x ∷ reverse ys
reverse-last xs ys x is = ap reverse is ∙ reverse-append ys (x ∷ [])

-- ---- descriptions

abbrev given : Spec → List Constructor → List (List ℕ) → Spec
given spec cs ns = record spec { constructors = cs; constructor_names = ns }

pub with_none : (spec : Spec) → with_constructors spec [] ≡ spec
with_none spec =
    ap (λ cs. given spec cs (spec.constructor_names ++ [])) (append-nil spec.constructors)
    ∙ ap (λ ns. given spec spec.constructors ns) (append-nil spec.constructor_names)

pub with_first : (spec : Spec) (c : Constructor) (cs : List Constructor) → with_constructors (with_constructors spec (c ∷ [])) cs ≡ with_constructors spec (c ∷ cs)
with_first spec c cs =
    let names = map (λ (x : Constructor). x.name) cs in
    ap (λ xs. given spec xs ((spec.constructor_names ++ c.name ∷ []) ++ names)) (append_assoc spec.constructors (c ∷ []) cs)
    ∙ ap (λ ns. given spec (spec.constructors ++ c ∷ cs) ns) (append_assoc spec.constructor_names (c.name ∷ []) names)

-- ---- names

not_true : (t : Bool) → not t ≡ true → t ≡ false
not_true true h = cc
not_true false h = refl

none_of : (s t : Bool) → (s || t) ≡ false → (s ≡ false) × (t ≡ false)
none_of true t h = cc
none_of false t h = (refl, h)

eq_turned : (n m : List ℕ) → bytes_eq n m ≡ false → bytes_eq m n ≡ false
eq_turned n m h = by_test (bytes_eq m n) refl where
  by_test : (t : Bool) → bytes_eq m n ≡ t → t ≡ false
  by_test false is = refl
  by_test true is =
      let same : m ≡ n = (bytes_eq-Decides m n).0 is in
      let there : bytes_eq n m ≡ true = (bytes_eq-Decides n m).1 (sym same) in cc

-- the name is none of these
apart_all : (names : List (List ℕ)) (name : List ℕ) → is_among names name ≡ false → All (λ other. other ≢ name) names
apart_all [] name h = All-nil (λ other. other ≢ name)
apart_all (n ∷ names) name h =
    let both = none_of (bytes_eq name n) (is_among names name) h in
    All-cons (λ other. other ≢ name) n names (λ e. let there : bytes_eq name n ≡ true = (bytes_eq-Decides name n).1 (sym e) in let absent = both.0 in cc) (apart_all names name both.1)

-- names that are new stay so where another name is added
still_new : (names : List (List ℕ)) (name : List ℕ) (ns : List (List ℕ)) → are_new names ns ≡ true → is_among ns name ≡ false → are_new (names ++ name ∷ []) ns ≡ true
still_new names name [] new apart = refl
still_new names name (n ∷ ns) new apart =
    let here = and_split (not (is_among names n)) (are_new names ns) new in
    let other = none_of (bytes_eq name n) (is_among ns name) apart in
    let absent : is_among (names ++ name ∷ []) n ≡ false =
    list_any-append (bytes_eq n) names (name ∷ []) ∙ ap (λ t. t || is_among (name ∷ []) n) (not_true (is_among names n) here.0) ∙ ap (λ t. t || false) (eq_turned name n other.0) in
    rw (absent, still_new names name ns here.1 other.1) refl

module _ (spec : Spec) (c : Constructor) (ns : List (List ℕ)) (new : have_new_names spec (c.name ∷ ns) ≡ true) where
  abbrev names : List (List ℕ)
  names = constructor_names_of spec

  are_new_all : are_new names (c.name ∷ ns) ≡ true
  are_new_all = (and_split (are_new names (c.name ∷ ns)) (are_distinct (c.name ∷ ns)) new).0

  differ : (not (is_among ns c.name) ≡ true) × (are_distinct ns ≡ true)
  differ = and_split (not (is_among ns c.name)) (are_distinct ns) (and_split (are_new names (c.name ∷ ns)) (are_distinct (c.name ∷ ns)) new).1

  first_new : (not (is_among names c.name) ≡ true) × (are_new names ns ≡ true)
  first_new = and_split (not (is_among names c.name)) (are_new names ns) are_new_all

  -- the first name is new
  pub new_first : IsNewConstructorName spec c.name
  new_first = apart_all names c.name (not_true (is_among names c.name) first_new.0)

  -- and the others are where the first is there
  pub new_others : have_new_names (with_constructors spec (c ∷ [])) ns ≡ true
  new_others =
      let is : constructor_names_of (with_constructors spec (c ∷ [])) ≡ names ++ c.name ∷ [] = map-append (λ (x : Constructor). x.name) spec.constructors (c ∷ []) in
      ap (λ xs. are_new xs ns && are_distinct ns) is ∙ rw (still_new names c.name ns first_new.1 (not_true (is_among ns c.name) differ.0), differ.1) refl

-- ---- the turns

-- what is there, with what is left, is what was there with all of them; and what is left may be added
pub record IsAddedOf (before : Spec) (all : List Constructor) (spec : Spec) (table : TypeTable) (left : List Constructor) : Type 0 where
  pub whole : with_constructors spec left ≡ with_constructors before all
  pub sound : IsSpec spec
  pub entries : IsTableOf spec table
  pub fresh : have_new_names spec (map (λ (c : Constructor). c.name) left) ≡ true
  pub known : All (IsConstructorOf spec.tokens (length spec.type_names)) left

-- nothing was added
pub added_none : (spec : Spec) (all : List Constructor) (table : TypeTable) (turned : List Constructor) → turned ≡ reverse all → IsSpec spec → IsTableOf spec table
    → have_new_names spec (map (λ (c : Constructor). c.name) all) ≡ true → All (IsConstructorOf spec.tokens (length spec.type_names)) all → IsAddedOf spec all spec table (reverse turned)
added_none spec all table turned is sound entries fresh known =
    subst (IsAddedOf spec all spec table) (sym (ap reverse is ∙ reverse-reverse all)) (record { whole = refl; sound = sound; entries = entries; fresh = fresh; known = known })

-- the next constructor was added
pub added_next : (before : Spec) (all : List Constructor) (spec later : Spec) (table grown : TypeTable) (c : Constructor) (left : List Constructor)
    → IsAddedOf before all spec table (c ∷ left) → later ≡ with_constructors spec (c ∷ []) → IsSpec later → IsTableOf later grown → IsAddedOf before all later grown left
added_next before all spec later table grown c left h is sound entries =
    let names = map (λ (x : Constructor). x.name) left in
    record {
      whole = ap (λ (x : Spec). with_constructors x left) is ∙ with_first spec c left ∙ h.whole;
      sound = sound;
      entries = entries;
      fresh = ap (λ (x : Spec). have_new_names x names) is ∙ new_others spec c names h.fresh;
      known = subst (λ (x : Spec). All (IsConstructorOf x.tokens (length x.type_names)) left) (sym is)
          (All-tail (IsConstructorOf spec.tokens (length spec.type_names)) c left h.known);
    }

module _ (before : Spec) (all : List Constructor) (spec : Spec) (table : TypeTable) (c : Constructor) (left : List Constructor) (h : IsAddedOf before all spec table (c ∷ left)) where
  pub next_fresh : IsNewConstructorName spec c.name
  next_fresh = new_first spec c (map (λ (x : Constructor). x.name) left) h.fresh

  pub next_known : IsConstructorOf spec.tokens (length spec.type_names) c
  next_known = All-head (IsConstructorOf spec.tokens (length spec.type_names)) c left h.known

-- one of what is left is the next
pub next_of : (before : Spec) (all : List Constructor) (spec : Spec) (table : TypeTable) (turned rest : List Constructor) (c : Constructor)
    → IsAddedOf before all spec table (reverse turned) → turned ≡ rest ++ c ∷ [] → IsAddedOf before all spec table (c ∷ reverse rest)
next_of before all spec table turned rest c h is = subst (IsAddedOf before all spec table) (reverse-last turned rest c is) h

-- all were added
pub added_all : (before : Spec) (all : List Constructor) (spec : Spec) (table : TypeTable) (turned : List Constructor) → IsAddedOf before all spec table (reverse turned) → turned ≡ []
    → spec ≡ with_constructors before all
added_all before all spec table turned h none = sym (with_none spec) ∙ ap (λ xs. with_constructors spec (reverse xs)) (sym none) ∙ h.whole
