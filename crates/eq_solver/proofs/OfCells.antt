-- The order by cells is the order by field numbers.
use Rattle.std.proofs.Common.{ℕ, suc, ◌≡◌, ◌≢◌, ◌<◌, ◌==◌, Bool, true, false, not, ◌&&◌, ◌||◌, if◌then◌else◌, List, [], ◌∷◌, length, map, filter, get_or, set, refl, ap, sym, ◌∙◌, arith}
use Rattle.std.specs.List.{list_all, filter_map, cons_option}
use Rattle.std.proofs.lemmas.List.{get_or-map}
use Rattle.std.proofs.lemmas.Bool.Decides.{nat_tests}
use Rattle.sled_model.specs.declared.constructor.Atom.{Atom}
use Rattle.sled_model.specs.declared.constructor.Atom.TheVariants.{Name, Field, Signed, Slice, Label}
use Rattle.sled_model.specs.declared.constructor.Term.{Term}
use Rattle.sled_model.specs.SolvingOrder.{is_among, atom_field, unknown_fields, is_one_at_most, excluding}
use Rattle.eq_solver.specs.declared.plan.Open.{Open}
use Rattle.eq_solver.specs.declared.plan.Open.TheVariants.{Nothing, One, Many}
use Rattle.eq_solver.specs.Order.{is_open}
use Rattle.eq_solver.specs.Solving.{with_field, with_field_if, with_atom, open_from, open_of, is_few, closed}
use Rattle.eq_solver.specs.Cells.{cell_of, celled_atom, celled_term, IsAtomAmong}

-- ---- tests

pub same_number : (g f : ℕ) → (g == f) ≡ true → g ≡ f
same_number g f h = grind (arith, nat_tests)

pub tests_same : (g : ℕ) → (g == g) ≡ true
tests_same g = grind (arith, nat_tests)

pub other_number : (g f : ℕ) → (g == f) ≡ false → g ≢ f
other_number g f h = grind (arith, nat_tests)

pub tests_other : (g f : ℕ) → g ≢ f → (g == f) ≡ false
tests_other g f h = grind (arith, nat_tests)

pub by_test : (b : Bool) {A : Type 0} → (b ≡ true → A) → (b ≡ false → A) → A
by_test true h k = h refl
by_test false h k = k refl

-- ---- cells

cell_at_if : (g f d : ℕ) (fs : List ℕ) (b : Bool) → (g == f) ≡ b → (is_among fs f ≡ true → get_or fs (cell_of fs f) d ≡ f) → (b || is_among fs f) ≡ true → get_or (g ∷ fs) (if b then 0 else suc (cell_of fs f)) d ≡ f
cell_at_if g f d fs true e rec h = same_number g f e
cell_at_if g f d fs false e rec h = rec h

-- the field of a field's cell
pub cell_at : (fs : List ℕ) (f d : ℕ) → is_among fs f ≡ true → get_or fs (cell_of fs f) d ≡ f
cell_at [] f d h = cc
cell_at (g ∷ fs) f d h = cell_at_if g f d fs (g == f) refl (cell_at fs f d) h

cell_below_if : (g f : ℕ) (fs : List ℕ) (b : Bool) → (is_among fs f ≡ true → cell_of fs f < length fs) → (b || is_among fs f) ≡ true → (if b then 0 else suc (cell_of fs f)) < suc (length fs)
cell_below_if g f fs true rec h = omega arith
cell_below_if g f fs false rec h = let r = rec h in omega arith

pub cell_below : (fs : List ℕ) (f : ℕ) → is_among fs f ≡ true → cell_of fs f < length fs
cell_below [] f h = cc
cell_below (g ∷ fs) f h = cell_below_if g f fs (g == f) (cell_below fs f) h

-- what stands in a field's cell of a list over the fields
pub in_cell : {X : Type 0} (u : ℕ → X) (fs : List ℕ) (f : ℕ) (e : X) → is_among fs f ≡ true → get_or (map u fs) (cell_of fs f) e ≡ u f
in_cell u fs f e h = get_or-map u fs (cell_of fs f) 0 e (cell_below fs f h) ∙ ap u (cell_at fs f 0 h)

same_cell : (fs : List ℕ) (f g : ℕ) → is_among fs f ≡ true → is_among fs g ≡ true → cell_of fs f ≡ cell_of fs g → f ≡ g
same_cell fs f g h k e = sym (cell_at fs f 0 h) ∙ ap (λ i. get_or fs i 0) e ∙ cell_at fs g 0 k

pub tests_cell : (fs : List ℕ) (f g : ℕ) → is_among fs f ≡ true → is_among fs g ≡ true → (cell_of fs f == cell_of fs g) ≡ (f == g)
tests_cell fs f g h k = by_test (f == g)
    (λ e. ap (λ i. cell_of fs f == cell_of fs i) (sym (same_number f g e)) ∙ tests_same (cell_of fs f) ∙ sym e)
    (λ e. tests_other (cell_of fs f) (cell_of fs g) (λ q. other_number f g e (same_cell fs f g h k q)) ∙ sym e)

-- the fields of the terms are among these
abbrev pub AreAtomsAmong : List ℕ → List Term → Type 0
AreAtomsAmong fs [] = Unit {0}
AreAtomsAmong fs (t ∷ ts) = IsAtomAmong fs t.atom × AreAtomsAmong fs ts

abbrev pub AreAmong : List ℕ → List ℕ → Type 0
AreAmong fs [] = Unit {0}
AreAmong fs (g ∷ gs) = (is_among fs g ≡ true) × AreAmong fs gs

-- no field stands twice
abbrev pub AreApart : List ℕ → Type 0
AreApart [] = Unit {0}
AreApart (f ∷ fs) = (is_among fs f ≡ false) × AreApart fs

-- ---- the open fields of a sum

abbrev pub open_among : List ℕ → Open → List ℕ → Open
open_among fs acc [] = acc
open_among fs acc (g ∷ gs) = open_among fs (with_field acc (cell_of fs g)) gs

-- one more field, that counts if it is unknown
field_open : (fs : List ℕ) (u : ℕ → Bool) (acc : Open) (f : ℕ) (b : Bool) (gs : List ℕ) → u f ≡ b → is_among fs f ≡ true
    → open_among fs (with_field_if acc (cell_of fs f) (is_open (map u fs) (cell_of fs f))) gs ≡ open_among fs acc (if b then f ∷ gs else gs)
field_open fs u acc f true gs e h = ap (λ c. open_among fs (with_field_if acc (cell_of fs f) c) gs) (in_cell u fs f true h ∙ e)
field_open fs u acc f false gs e h = ap (λ c. open_among fs (with_field_if acc (cell_of fs f) c) gs) (in_cell u fs f true h ∙ e)

atom_open : (fs : List ℕ) (u : ℕ → Bool) (acc : Open) (a : Atom) (gs : List ℕ) → IsAtomAmong fs a
    → open_among fs (with_atom (map u fs) acc (celled_atom fs a)) (filter u gs) ≡ open_among fs acc (filter u (cons_option (atom_field a) gs))
atom_open fs u acc (Field f) gs h = field_open fs u acc f.0 (u f.0) (filter u gs) refl h
atom_open fs u acc (Signed f) gs h = field_open fs u acc f.0 (u f.0) (filter u gs) refl h
atom_open fs u acc (Name k) gs h = refl
atom_open fs u acc (Slice k lo hi) gs h = refl
atom_open fs u acc (Label k) gs h = refl

terms_open : (fs : List ℕ) (u : ℕ → Bool) (acc : Open) (ts : List Term) → AreAtomsAmong fs ts → open_from (map u fs) acc (map (celled_term fs) ts) ≡ open_among fs acc (unknown_fields u ts)
terms_open fs u acc [] h = refl
terms_open fs u acc (t ∷ ts) h =
    terms_open fs u (with_atom (map u fs) acc (celled_atom fs t.atom)) ts h.1 ∙ atom_open fs u acc t.atom (filter_map (λ (t : Term). atom_field t.atom) ts) h.0

many_open : (fs gs : List ℕ) → open_among fs Many gs ≡ Many
many_open fs [] = refl
many_open fs (g ∷ gs) = many_open fs gs

one_open_if : (fs : List ℕ) (f g : ℕ) (gs : List ℕ) (b : Bool) → is_few (open_among fs (One (cell_of fs f)) gs) ≡ list_all (λ h. h == f) gs
    → is_few (open_among fs (if b then One (cell_of fs f) else Many) gs) ≡ (b && list_all (λ h. h == f) gs)
one_open_if fs f g gs true rec = rec
one_open_if fs f g gs false rec = ap is_few (many_open fs gs)

turned_test : (f g : ℕ) → (f == g) ≡ (g == f)
turned_test f g = by_test (g == f) (λ e. ap (λ k. f == k) (same_number g f e) ∙ tests_same f ∙ sym e) (λ e. tests_other f g (λ q. other_number g f e (sym q)) ∙ sym e)

one_open : (fs : List ℕ) (f : ℕ) (gs : List ℕ) → is_among fs f ≡ true → AreAmong fs gs → is_few (open_among fs (One (cell_of fs f)) gs) ≡ list_all (λ g. g == f) gs
one_open fs f [] h k = refl
one_open fs f (g ∷ gs) h k =
    ap (λ b. is_few (open_among fs (if b then One (cell_of fs f) else Many) gs)) (tests_cell fs f g h k.0 ∙ turned_test f g) ∙ one_open_if fs f g gs (g == f) (one_open fs f gs h k.1)

few_open : (fs gs : List ℕ) → AreAmong fs gs → is_few (open_among fs Nothing gs) ≡ is_one_at_most gs
few_open fs [] h = refl
few_open fs (g ∷ gs) h = one_open fs g gs h.0 h.1

pub same_open : (fs : List ℕ) (f : ℕ) (gs : List ℕ) → is_among fs f ≡ true → AreAmong fs gs → list_all (λ g. g == f) gs ≡ true → open_among fs (One (cell_of fs f)) gs ≡ One (cell_of fs f)
same_open fs f [] h k e = refl
same_open fs f (g ∷ gs) h k e =
    let d = both_true (g == f) (list_all (λ g. g == f) gs) e in
    ap (λ b. open_among fs (if b then One (cell_of fs f) else Many) gs) (tests_cell fs f g h k.0 ∙ turned_test f g ∙ d.0) ∙ same_open fs f gs h k.1 d.1
  where
    both_true : (a b : Bool) → (a && b) ≡ true → (a ≡ true) × (b ≡ true)
    both_true true b h = (refl, h)
    both_true false b h = cc

among_if : (fs : List ℕ) (f : ℕ) (gs : List ℕ) (b : Bool) → is_among fs f ≡ true → AreAmong fs gs → AreAmong fs (if b then f ∷ gs else gs)
among_if fs f gs true h k = (h, k)
among_if fs f gs false h k = k

unknown_atom : (fs : List ℕ) (u : ℕ → Bool) (a : Atom) (gs : List ℕ) → IsAtomAmong fs a → AreAmong fs (filter u gs) → AreAmong fs (filter u (cons_option (atom_field a) gs))
unknown_atom fs u (Field f) gs h k = among_if fs f.0 (filter u gs) (u f.0) h k
unknown_atom fs u (Signed f) gs h k = among_if fs f.0 (filter u gs) (u f.0) h k
unknown_atom fs u (Name j) gs h k = k
unknown_atom fs u (Slice j lo hi) gs h k = k
unknown_atom fs u (Label j) gs h k = k

pub unknown_among : (fs : List ℕ) (u : ℕ → Bool) (ts : List Term) → AreAtomsAmong fs ts → AreAmong fs (unknown_fields u ts)
unknown_among fs u [] h = tt
unknown_among fs u (t ∷ ts) h = unknown_atom fs u t.atom (filter_map (λ (t : Term). atom_field t.atom) ts) h.0 (unknown_among fs u ts h.1)

pub open_is : (fs : List ℕ) (u : ℕ → Bool) (ts : List Term) → AreAtomsAmong fs ts → open_of (map u fs) (map (celled_term fs) ts) ≡ open_among fs Nothing (unknown_fields u ts)
open_is fs u ts h = terms_open fs u Nothing ts h

pub few_is : (fs : List ℕ) (u : ℕ → Bool) (ts : List Term) → AreAtomsAmong fs ts → is_few (open_of (map u fs) (map (celled_term fs) ts)) ≡ is_one_at_most (unknown_fields u ts)
few_is fs u ts h = ap is_few (open_is fs u ts h) ∙ few_open fs (unknown_fields u ts) (unknown_among fs u ts h)

-- ---- what is open when a field has a value

pub map_same : {X : Type 0} (u v : ℕ → X) (fs : List ℕ) → ((f : ℕ) → is_among fs f ≡ true → u f ≡ v f) → map u fs ≡ map v fs
map_same u v [] h = refl
map_same u v (f ∷ fs) h =
    ap (λ x. x ∷ map u fs) (h f (ap (λ b. b || is_among fs f) (tests_same f))) ∙ ap (λ xs. v f ∷ xs) (map_same u v fs (λ g k. h g (or_true (f == g) (is_among fs g) k)))
  where
    or_true : (a b : Bool) → b ≡ true → (a || b) ≡ true
    or_true true b h = refl
    or_true false b h = h

unchanged : (u : ℕ → Bool) (f : ℕ) (fs : List ℕ) → is_among fs f ≡ false → map u fs ≡ map (λ g. u g && not (f == g)) fs
unchanged u f fs h = map_same u (λ g. u g && not (f == g)) fs (λ g k. kept (u g) (f == g) (tests_other f g (λ e. never (is_among fs f) h (ap (is_among fs) e ∙ k))))
  where
    kept : (a b : Bool) → b ≡ false → a ≡ (a && not b)
    kept true b e = ap not (sym e)
    kept false b e = refl

    never : (b : Bool) → b ≡ false → b ≡ true → ⊥
    never b e d = cc

closed_if : (u : ℕ → Bool) (f g : ℕ) (fs : List ℕ) (b : Bool) → (g == f) ≡ b → is_among fs g ≡ false → (is_among fs f ≡ true → set (map u fs) (cell_of fs f) false ≡ map (λ h. u h && not (f == h)) fs) → (b || is_among fs f) ≡ true
    → set (u g ∷ map u fs) (if b then 0 else suc (cell_of fs f)) false ≡ (u g && not (f == g)) ∷ map (λ h. u h && not (f == h)) fs
closed_if u f g fs true e a rec h =
    ap (λ b. b ∷ map u fs) (out (u g) (f == g) (turned_test f g ∙ e)) ∙ ap (λ xs. (u g && not (f == g)) ∷ xs) (unchanged u f fs (ap (is_among fs) (sym (same_number g f e)) ∙ a))
  where
    out : (a b : Bool) → b ≡ true → false ≡ (a && not b)
    out true b e = ap not (sym e)
    out false b e = refl
closed_if u f g fs false e a rec h = ap (λ b. b ∷ set (map u fs) (cell_of fs f) false) (kept (u g) (f == g) (turned_test f g ∙ e)) ∙ ap (λ xs. (u g && not (f == g)) ∷ xs) (rec h)
  where
    kept : (a b : Bool) → b ≡ false → a ≡ (a && not b)
    kept true b e = ap not (sym e)
    kept false b e = refl

set_closed : (u : ℕ → Bool) (f : ℕ) (fs : List ℕ) → AreApart fs → is_among fs f ≡ true → set (map u fs) (cell_of fs f) false ≡ map (λ g. u g && not (f == g)) fs
set_closed u f [] a h = cc
set_closed u f (g ∷ fs) a h = closed_if u f g fs (g == f) refl a.0 (set_closed u f fs a.1) h

-- a field among others that are all f is f
all_same : (f x : ℕ) (gs : List ℕ) → list_all (λ g. g == f) gs ≡ true → ((f == x) || is_among gs x) ≡ (f == x)
all_same f x [] h = or_false (f == x)
  where
    or_false : (b : Bool) → (b || false) ≡ b
    or_false true = refl
    or_false false = refl
all_same f x (g ∷ gs) h = first (g == f) refl (all_same f x gs) h
  where
    twice : (a b : Bool) → (a || (a || b)) ≡ (a || b)
    twice true b = refl
    twice false b = refl

    first : (b : Bool) → (g == f) ≡ b → (list_all (λ g. g == f) gs ≡ true → ((f == x) || is_among gs x) ≡ (f == x)) → (b && list_all (λ g. g == f) gs) ≡ true → ((f == x) || ((g == x) || is_among gs x)) ≡ (f == x)
    first false e rec h = cc
    first true e rec h = ap (λ k. (f == x) || ((k == x) || is_among gs x)) (same_number g f e) ∙ twice (f == x) (is_among gs x) ∙ rec h

-- what is open once the unknown fields of a sum, one at most, have a value
closed_is : (fs : List ℕ) (u : ℕ → Bool) (gs : List ℕ) → AreApart fs → AreAmong fs gs → is_one_at_most gs ≡ true → closed (map u fs) (open_among fs Nothing gs) ≡ map (excluding u gs) fs
closed_is fs u [] a k e = map_same u (excluding u []) fs (λ f h. kept (u f))
  where
    kept : (b : Bool) → b ≡ (b && true)
    kept true = refl
    kept false = refl
closed_is fs u (f ∷ gs) a k e =
    ap (closed (map u fs)) (same_open fs f gs k.0 k.1 e) ∙ set_closed u f fs a k.0
    ∙ map_same (λ g. u g && not (f == g)) (excluding u (f ∷ gs)) fs (λ x h. ap (λ b. u x && not b) (sym (all_same f x gs e)))

pub closed_by_cells : (fs : List ℕ) (u : ℕ → Bool) (ts : List Term) → AreApart fs → AreAtomsAmong fs ts → is_one_at_most (unknown_fields u ts) ≡ true
    → closed (map u fs) (open_of (map u fs) (map (celled_term fs) ts)) ≡ map (excluding u (unknown_fields u ts)) fs
closed_by_cells fs u ts a h e = ap (closed (map u fs)) (open_is fs u ts h) ∙ closed_is fs u (unknown_fields u ts) a (unknown_among fs u ts h) e
