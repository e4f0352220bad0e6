-- The steps of a plan are the equations in solving order, and there is a plan where condition 12 is met.
use Rattle.std.proofs.Common.{ℕ, zero, suc, ◌+◌, ◌≡◌, ◌≢◌, ◌<◌, ◌≤◌, ◌==◌, nat_le, Bool, true, false, not, ◌&&◌, ◌||◌, if◌then◌else◌, List, [], ◌∷◌, length, map, filter, get_or, set, Option, Some, slice_get, ℤ, refl, ap, sym, ◌∙◌, arith, subst}
use Rattle.std.specs.List.{list_all, filter_map, cons_option}
use Rattle.std.proofs.lemmas.List.{get_or-set_same, get_or-set_other}
use Rattle.std.proofs.lemmas.Bool.Decides.{nat_tests}
use Rattle.sled_model.specs.declared.constructor.Atom.{Atom}
use Rattle.sled_model.specs.declared.constructor.Atom.TheVariants.{Name, Field, Signed, Slice, Label}
use Rattle.sled_model.specs.declared.constructor.Term.{Term}
use Rattle.sled_model.specs.declared.constructor.Equation.{Equation}
use Rattle.sled_model.specs.SolvingOrder.{is_among, atom_field, unknown_fields, is_one_at_most, including, next_equation}
use Rattle.eq_solver.specs.declared.plan.Open.TheVariants.{Nothing, One}
use Rattle.eq_solver.specs.declared.plan.Occurrence.{Occurrence}
use Rattle.eq_solver.specs.declared.plan.Occurrence.TheVariants.{Absent, Once, Often}
use Rattle.eq_solver.specs.Solving.{next_open_equation, one_more, occurrence_if, occurrence_with, occurrence_from}
use Rattle.eq_solver.specs.Determined.{IsSingle}
use Rattle.eq_solver.specs.Cells.{IsAtomAmong, cell_of, celled_atom, celled_term, celled}
use Rattle.eq_solver.proofs.OfCells.{same_number, tests_same, tests_cell, AreAtomsAmong, AreAmong, open_among, open_is, few_is, same_open, unknown_among}

-- the fields of the equations are among these
abbrev pub AreEquationsAmong : List ℕ → List Equation → Type 0
AreEquationsAmong fs [] = Unit {0}
AreEquationsAmong fs (e ∷ es) = AreAtomsAmong fs e.terms × AreEquationsAmong fs es

-- the list says which numbers are in the set
abbrev pub Tells : List Bool → (ℕ → Bool) → Type 0
Tells taken set = (j : ℕ) → get_or taken j false ≡ set j

-- ---- the next equation

next_if : (a b c d : Bool) (k : ℕ) (o p : Option ℕ) → a ≡ c → b ≡ d → o ≡ p → (if not a && b then Some k else o) ≡ (if not c && d then Some k else p)
next_if a b c d k o p e f g = ap (λ x. if not x && b then Some k else o) e ∙ ap (λ x. if not c && x then Some k else o) f ∙ ap (λ x. if not c && d then Some k else x) g

pub next_same : (fs : List ℕ) (u : ℕ → Bool) (taken : List Bool) (set : ℕ → Bool) (k : ℕ) (es : List Equation) → Tells taken set → AreEquationsAmong fs es
    → next_open_equation taken (map u fs) k (map (celled fs) es) ≡ next_equation set u k es
next_same fs u taken set k [] t h = refl
next_same fs u taken set k (e ∷ es) t h = next_if _ _ _ _ k _ _ (t k) (few_is fs u e.terms h.0) (next_same fs u taken set (k + 1) es t h.1)

-- the equation is there, and holds one unknown field at most. k is the number of the first of es
pub record IsNext (done u : ℕ → Bool) (k : ℕ) (es : List Equation) (number : ℕ) : Type 0 where
  pub fresh : done number ≡ false
  pub place : ℕ
  pub equation : Equation
  pub number_is : number ≡ k + place
  pub is_there : slice_get es place ≡ Some equation
  pub few : is_one_at_most (unknown_fields u equation.terms) ≡ true

next_is_if : (u done : ℕ → Bool) (k : ℕ) (e : Equation) (es : List Equation) (n : ℕ) (o : Option ℕ) (a b : Bool) → done k ≡ a → is_one_at_most (unknown_fields u e.terms) ≡ b → (o ≡ Some n → IsNext done u (k + 1) es n)
    → (if not a && b then Some k else o) ≡ Some n → IsNext done u k (e ∷ es) n
next_is_if u done k e es n o false true d f rec q =
    let s : k ≡ n = cc in let z : n ≡ k + 0 = omega (arith, s) in record { fresh = ap done (sym s) ∙ d; place = 0; equation = e; number_is = z; is_there = refl; few = f }
next_is_if u done k e es n o false false d f rec q =
    let r = rec q in let z : n ≡ k + suc r.place = omega (arith, r.number_is) in record { fresh = r.fresh; place = suc r.place; equation = r.equation; number_is = z; is_there = r.is_there; few = r.few }
next_is_if u done k e es n o true b d f rec q =
    let r = rec q in let z : n ≡ k + suc r.place = omega (arith, r.number_is) in record { fresh = r.fresh; place = suc r.place; equation = r.equation; number_is = z; is_there = r.is_there; few = r.few }

next_is : (u done : ℕ → Bool) (k : ℕ) (es : List Equation) (n : ℕ) → next_equation done u k es ≡ Some n → IsNext done u k es n
next_is u done k [] n h = cc
next_is u done k (e ∷ es) n h = next_is_if u done k e es n (next_equation done u (k + 1) es) (done k) (is_one_at_most (unknown_fields u e.terms)) refl refl (next_is u done (k + 1) es n) h

-- it, as the first of all
pub record IsFirst (done u : ℕ → Bool) (es : List Equation) (number : ℕ) : Type 0 where
  pub fresh : done number ≡ false
  pub equation : Equation
  pub is_there : slice_get es number ≡ Some equation
  pub few : is_one_at_most (unknown_fields u equation.terms) ≡ true

pub first_is : (u done : ℕ → Bool) (es : List Equation) (n : ℕ) → next_equation done u 0 es ≡ Some n → IsFirst done u es n
first_is u done es n h =
    let r = next_is u done 0 es n h in
    let e : r.place ≡ n = omega (arith, r.number_is) in
    record { fresh = r.fresh; equation = r.equation; is_there = subst (λ i. slice_get es i ≡ Some r.equation) e r.is_there; few = r.few }

-- ---- how often a field stands

abbrev Counts : Occurrence → ℕ → Type 0
Counts Absent n = n ≡ 0
Counts (Once signed c) n = n ≡ 1
Counts Often n = 2 ≤ n

counts_more : (acc : Occurrence) (n : ℕ) (signed : Bool) (c : ℤ) → Counts acc n → Counts (one_more acc signed c) (n + 1)
counts_more Absent n signed c h = omega (arith, h)
counts_more (Once s d) n signed c h = omega (arith, h)
counts_more Often n signed c h = omega (arith, h)

-- the unknown fields are all f
abbrev AreAll : ℕ → List ℕ → Type 0
AreAll f gs = list_all (λ g. g == f) gs ≡ true

counts_field : (fs : List ℕ) (u : ℕ → Bool) (f g : ℕ) (acc : Occurrence) (n : ℕ) (signed : Bool) (c : ℤ) (gs : List ℕ) (a b : Bool) → u g ≡ a → (g == f) ≡ b → u f ≡ true → AreAll f (if a then g ∷ gs else gs)
    → Counts acc n → (m : ℕ) × (m + length gs ≡ n + length (if a then g ∷ gs else gs)) × Counts (occurrence_if acc b signed c) m × AreAll f gs
counts_field fs u f g acc n signed c gs true true e d h k z = (n + 1, omega arith, counts_more acc n signed c z, rest (g == f) k)
  where
    rest : (b : Bool) → (b && list_all (λ g. g == f) gs) ≡ true → AreAll f gs
    rest true h = h
    rest false h = cc
counts_field fs u f g acc n signed c gs true false e d h k z = absurd (never (g == f) d k)
  where
    never : (b : Bool) → b ≡ false → (b && list_all (λ g. g == f) gs) ≡ true → ⊥
    never true h k = cc
    never false h k = cc
counts_field fs u f g acc n signed c gs false true e d h k z = absurd (never (u f) (ap u (sym (same_number g f d)) ∙ e) h)
  where
    never : (b : Bool) → b ≡ false → b ≡ true → ⊥
    never b h k = cc
counts_field fs u f g acc n signed c gs false false e d h k z = (n, refl, z, k)

counts_atom : (fs : List ℕ) (u : ℕ → Bool) (f : ℕ) (acc : Occurrence) (n : ℕ) (c : ℤ) (a : Atom) (gs : List ℕ) → is_among fs f ≡ true → IsAtomAmong fs a → u f ≡ true → AreAll f (filter u (cons_option (atom_field a) gs))
    → Counts acc n → (m : ℕ) × (m + length (filter u gs) ≡ n + length (filter u (cons_option (atom_field a) gs))) × Counts (occurrence_with (cell_of fs f) acc c (celled_atom fs a)) m × AreAll f (filter u gs)
counts_atom fs u f acc n c (Field g) gs i j h k z =
    let r = counts_field fs u f g.0 acc n false c (filter u gs) (u g.0) (g.0 == f) refl refl h k z in
    (r.0, r.1, subst (λ b. Counts (occurrence_if acc b false c) r.0) (sym (tests_cell fs g.0 f j i)) r.2, r.3)
counts_atom fs u f acc n c (Signed g) gs i j h k z =
    let r = counts_field fs u f g.0 acc n true c (filter u gs) (u g.0) (g.0 == f) refl refl h k z in
    (r.0, r.1, subst (λ b. Counts (occurrence_if acc b true c) r.0) (sym (tests_cell fs g.0 f j i)) r.2, r.3)
counts_atom fs u f acc n c (Name x) gs i j h k z = (n, refl, z, k)
counts_atom fs u f acc n c (Slice x lo hi) gs i j h k z = (n, refl, z, k)
counts_atom fs u f acc n c (Label x) gs i j h k z = (n, refl, z, k)

counts : (fs : List ℕ) (u : ℕ → Bool) (f : ℕ) (acc : Occurrence) (n : ℕ) (ts : List Term) → is_among fs f ≡ true → AreAtomsAmong fs ts → u f ≡ true → AreAll f (unknown_fields u ts) → Counts acc n
    → Counts (occurrence_from (cell_of fs f) acc (map (celled_term fs) ts)) (n + length (unknown_fields u ts))
counts fs u f acc n [] i j h k z = let e : n ≡ n + 0 = omega arith in subst (Counts acc) e z
counts fs u f acc n (t ∷ ts) i j h k z =
    let r = counts_atom fs u f acc n t.coefficient t.atom (filter_map (λ (t : Term). atom_field t.atom) ts) i j.0 h k z in
    subst (Counts _) r.1 (counts fs u f (occurrence_with (cell_of fs f) acc t.coefficient (celled_atom fs t.atom)) r.0 ts i j.1 h r.3 r.2)

unknown_first : (u : ℕ → Bool) (gs : List ℕ) (f : ℕ) (hs : List ℕ) → filter u gs ≡ f ∷ hs → u f ≡ true
unknown_first u [] f hs h = cc
unknown_first u (g ∷ gs) f hs h = first (u g) refl (unknown_first u gs f hs) h
  where
    first : (b : Bool) → u g ≡ b → (filter u gs ≡ f ∷ hs → u f ≡ true) → (if b then g ∷ filter u gs else filter u gs) ≡ f ∷ hs → u f ≡ true
    first true e rec h = let s : g ≡ f = cc in ap u (sym s) ∙ e
    first false e rec h = rec h

-- one field in one term
once_of : (o : Occurrence) (n : ℕ) → Counts o n → n ≡ 1 → (signed : Bool) × (c : ℤ) × (o ≡ Once signed c)
once_of Absent n h e = absurd (omega (arith, h, e))
once_of (Once signed c) n h e = (signed, c, refl)
once_of Often n h e = absurd (omega (arith, h, e))

of_once : (o : Occurrence) (n : ℕ) (signed : Bool) (c : ℤ) → Counts o n → o ≡ Once signed c → n ≡ 1
of_once o n signed c h e = let k : Counts (Once signed c) n = subst (λ o. Counts o n) e h in k

pub single_cases : (fs : List ℕ) (u : ℕ → Bool) (e : Equation) (us : List ℕ) → unknown_fields u e.terms ≡ us → AreAtomsAmong fs e.terms → is_one_at_most us ≡ true
    → (IsSingle (map u fs) (celled fs e) → nat_le (length us) 1 ≡ true) × (nat_le (length us) 1 ≡ true → IsSingle (map u fs) (celled fs e))
single_cases fs u e [] q h k = ((λ s. refl), (λ l f o. absurd (never f (sym (open_is fs u e.terms h ∙ ap (open_among fs Nothing) q) ∙ o))))
  where
    never : (f : ℕ) → Nothing ≡ One f → ⊥
    never f e = cc
single_cases fs u e (f ∷ gs) q h k =
    let among = subst (AreAmong fs) q (unknown_among fs u e.terms h) in
    let is = open_is fs u e.terms h ∙ ap (open_among fs Nothing) q ∙ same_open fs f gs among.0 among.1 k in
    let all : AreAll f (f ∷ gs) = ap (λ b. b && list_all (λ g. g == f) gs) (tests_same f) ∙ k in
    let unknown = unknown_first u (filter_map (λ (t : Term). atom_field t.atom) e.terms) f gs q in
    let n = subst (λ us. Counts (occurrence_from (cell_of fs f) Absent (map (celled_term fs) e.terms)) (0 + length us)) q (counts fs u f Absent 0 e.terms among.0 h unknown (subst (AreAll f) (sym q) all) refl) in (
      (λ s. let r = s (cell_of fs f) is in small (length gs) (of_once _ _ r.0 r.1 n r.2)),
      (λ l f' o.
          let same : cell_of fs f ≡ f' = one_of (cell_of fs f) f' (sym is ∙ o) in
          subst (λ i. (signed : Bool) × (c : ℤ) × (occurrence_from i Absent (map (celled_term fs) e.terms) ≡ Once signed c)) same (once_of _ _ n (only (length gs) l))),
    )
  where
    one_of : (f g : ℕ) → One f ≡ One g → f ≡ g
    one_of f g e = cc

    small : (n : ℕ) → 0 + suc n ≡ 1 → nat_le (suc n) 1 ≡ true
    small n h = let z : n ≡ 0 = omega (arith, h) in ap (λ k. nat_le (suc k) 1) z

    only : (n : ℕ) → nat_le (suc n) 1 ≡ true → 0 + suc n ≡ 1
    only n h = grind (arith, nat_tests)

-- ---- the order

pub among_at : (fs : List ℕ) (es : List Equation) (k : ℕ) (e : Equation) → AreEquationsAmong fs es → slice_get es k ≡ Some e → AreAtomsAmong fs e.terms
among_at fs [] k e h q = cc
among_at fs (d ∷ es) zero e h q = let s : d ≡ e = cc in subst (λ (x : Equation). AreAtomsAmong fs x.terms) s h.0
among_at fs (d ∷ es) (suc k) e h q = among_at fs es k e h.1 q

pub tells_more : (taken : List Bool) (set' : ℕ → Bool) (k : ℕ) → k < length taken → Tells taken set' → Tells (set taken k true) (including set' k)
tells_more taken set' k l t j = case (j == k) refl
  where
    or_true : (b : Bool) → true ≡ (b || true)
    or_true true = refl
    or_true false = refl

    or_false : (b : Bool) → b ≡ (b || false)
    or_false true = refl
    or_false false = refl

    case : (b : Bool) → (j == k) ≡ b → get_or (set taken k true) j false ≡ (set' j || (j == k))
    case true e = ap (λ i. get_or (set taken k true) i false) (same_number j k e) ∙ get_or-set_same taken k true false l ∙ or_true (set' j) ∙ ap (λ b. set' j || b) (sym e)
    case false e = get_or-set_other taken k j true false (apart j k e) ∙ t j ∙ or_false (set' j) ∙ ap (λ b. set' j || b) (sym e)
      where
        apart : (j k : ℕ) → (j == k) ≡ false → j ≢ k
        apart j k e = grind (arith, nat_tests)
