-- What a plan tells of its cells, of the fields.
use Rattle.std.proofs.Common.{ℕ, zero, suc, ◌≡◌, ◌<◌, ◌==◌, Bool, true, false, ◌||◌, if◌then◌else◌, List, [], ◌∷◌, length, map, get_or, Option, Some, None, option_map, slice_get, All, ℤ, pos, ◌+ℤ◌, ◌*ℤ◌, refl, ap, sym, ◌∙◌, arith, subst}
use Rattle.std.specs.List.{cons_option}
use Rattle.std.proofs.lemmas.List.Elements.{All-head, All-tail, All-cons, All-nil}
use Rattle.std.proofs.lemmas.Option.{slice_get-map, slice_get_within, slice_get-get_or, get_or_from_slice_get}
use Rattle.token_bits.specs.declared.tokens.Tokens.{Tokens}
use Rattle.sled_model.specs.declared.constructor.Atom.{Atom}
use Rattle.sled_model.specs.declared.constructor.Atom.TheVariants.{Name, Field, Signed, Slice, Label}
use Rattle.sled_model.specs.declared.constructor.Term.{Term}
use Rattle.sled_model.specs.declared.constructor.Equation.{Equation}
use Rattle.sled_model.specs.Equations.{half_of, sign_extended, atom_value, sum_of, IsSatisfied, EachSatisfied}
use Rattle.sled_model.specs.SolvingOrder.{is_among}
use Rattle.sled_model.specs.Solutions.{equations_at, setting_of}
use Rattle.eq_solver.specs.declared.plan.SolvingStep.{SolvingStep}
use Rattle.eq_solver.specs.Sums.{at, setting_from}
use Rattle.eq_solver.specs.Steps.{StepsSatisfied}
use Rattle.eq_solver.specs.Cells.{cell_of, IsAtomAmong, celled_atom, celled_term, celled}
use Rattle.eq_solver.proofs.OfCells.{same_number, tests_same, tests_other, cell_at, in_cell, AreAtomsAmong, AreApart}
use Rattle.eq_solver.proofs.Numbers.{AreEquationsAmong, among_at}
use Rattle.eq_solver.proofs.Orders.{map_some}

-- ---- cells and fields

field_among_if : (g k : ℕ) (fs : List ℕ) (f : ℕ) (b : Bool) → is_among fs f ≡ true → (b || is_among fs f) ≡ true
field_among_if g k fs f true h = refl
field_among_if g k fs f false h = h

-- the field of a cell is one of them
pub field_among : (fs : List ℕ) (k : ℕ) → k < length fs → is_among fs (get_or fs k 0) ≡ true
field_among [] k l = absurd (omega arith)
field_among (g ∷ fs) zero l = ap (λ b. b || is_among fs g) (tests_same g)
field_among (g ∷ fs) (suc k) l = let m : k < length fs = omega arith in field_among_if g k fs (get_or fs k 0) (g == get_or fs k 0) (field_among fs k m)

pub apart_from : (g : ℕ) (fs : List ℕ) (f : ℕ) → is_among fs g ≡ false → is_among fs f ≡ true → (g == f) ≡ false
apart_from g fs f a h = tests_other g f (λ e. never (is_among fs g) (ap (is_among fs) e ∙ h) a)
  where
    never : (b : Bool) → b ≡ true → b ≡ false → ⊥
    never true h k = cc
    never false h k = cc

-- and it has that cell
pub cell_back : (fs : List ℕ) (k : ℕ) → AreApart fs → k < length fs → cell_of fs (get_or fs k 0) ≡ k
cell_back [] k a l = absurd (omega arith)
cell_back (g ∷ fs) zero a l = ap (λ b. if b then 0 else suc (cell_of fs g)) (tests_same g)
cell_back (g ∷ fs) (suc k) a l =
    let m : k < length fs = omega arith in
    let f = get_or fs k 0 in
    ap (λ b. if b then 0 else suc (cell_of fs f)) (apart_from g fs f a.0 (field_among fs k m)) ∙ ap suc (cell_back fs k a.1 m)

-- v' has in the cells what v has at the fields
abbrev pub Match : List ℕ → (ℕ → ℤ) → (ℕ → ℤ) → Type 0
Match fs v' v = (f : ℕ) → is_among fs f ≡ true → v' (cell_of fs f) ≡ v f

abbrev pub by_cell : List ℕ → (ℕ → ℤ) → ℕ → ℤ
by_cell fs v k = v (get_or fs k 0)

abbrev pub by_field : List ℕ → (ℕ → ℤ) → ℕ → ℤ
by_field fs v' f = if is_among fs f then v' (cell_of fs f) else pos 0

pub by_cell_match : (fs : List ℕ) (v : ℕ → ℤ) → Match fs (by_cell fs v) v
by_cell_match fs v f h = ap v (cell_at fs f 0 h)

pub by_field_match : (fs : List ℕ) (v' : ℕ → ℤ) → Match fs v' (by_field fs v')
by_field_match fs v' f h = ap (λ b. if b then v' (cell_of fs f) else pos 0) (sym h)

pub matched : (fs : List ℕ) (out : List ℤ) (v : ℕ → ℤ) → AreApart fs → length out ≡ length fs → Match fs (at out) v → map v fs ≡ out
matched [] [] v a l m = refl
matched [] (x ∷ xs) v a l m = absurd (omega arith)
matched (g ∷ fs) [] v a l m = absurd (omega arith)
matched (g ∷ fs) (x ∷ xs) v a l m =
    let here : x ≡ v g = ap (λ b. get_or (x ∷ xs) (if b then 0 else suc (cell_of fs g)) (pos 0)) (sym (tests_same g)) ∙ m g (ap (λ b. b || is_among fs g) (tests_same g)) in
    let size : length xs ≡ length fs = omega arith in
    ap (λ y. y ∷ map v fs) (sym here)
    ∙ ap (λ ys. x ∷ ys) (matched fs xs v a.1 size (λ f h.
    ap (λ b. get_or (x ∷ xs) (if b then 0 else suc (cell_of fs f)) (pos 0)) (sym (apart_from g fs f a.0 h)) ∙ m f (field_among_if g 0 fs f (g == f) h)))

pub matches : (fs : List ℕ) (out : List ℤ) (v : ℕ → ℤ) → map v fs ≡ out → Match fs (at out) v
matches fs out v e f h = ap (λ xs. at xs (cell_of fs f)) (sym e) ∙ in_cell v fs f (pos 0) h

-- ---- sums

module _ (tokens : Tokens) (fs : List ℕ) (halves operands labels : List ℤ) (v' v : ℕ → ℤ) (halved : halves ≡ map (half_of tokens) fs) (match : Match fs v' v) where
  pub half_in_cell : (f : ℕ) → is_among fs f ≡ true → at halves (cell_of fs f) ≡ half_of tokens f
  half_in_cell f h = ap (λ xs. at xs (cell_of fs f)) halved ∙ in_cell (half_of tokens) fs f (pos 0) h

  same_atom : (a : Atom) → IsAtomAmong fs a → atom_value (setting_from halves operands labels) v' (celled_atom fs a) ≡ atom_value (setting_of tokens (at operands) (at labels)) v a
  same_atom (Name k) h = refl
  same_atom (Field f) h = match f.0 h
  same_atom (Signed f) h = ap (λ half. sign_extended half (v' (cell_of fs f.0))) (half_in_cell f.0 h) ∙ ap (sign_extended (half_of tokens f.0)) (match f.0 h)
  same_atom (Slice k lo hi) h = refl
  same_atom (Label l) h = refl

  pub same_sum : (ts : List Term) → AreAtomsAmong fs ts → sum_of (setting_from halves operands labels) v' (map (celled_term fs) ts) ≡ sum_of (setting_of tokens (at operands) (at labels)) v ts
  same_sum [] h = refl
  same_sum (t ∷ ts) h =
      ap (λ x. (t.coefficient *ℤ x) +ℤ sum_of (setting_from halves operands labels) v' (map (celled_term fs) ts)) (same_atom t.atom h.0)
      ∙ ap (λ x. (t.coefficient *ℤ atom_value (setting_of tokens (at operands) (at labels)) v t.atom) +ℤ x) (same_sum ts h.1)

  satisfied_field : (e : Equation) → AreAtomsAmong fs e.terms → IsSatisfied (setting_from halves operands labels) v' (celled fs e) → IsSatisfied (setting_of tokens (at operands) (at labels)) v e
  satisfied_field e h s = ap (λ x. x +ℤ e.rest) (sym (same_sum e.terms h)) ∙ s

  satisfied_cell : (e : Equation) → AreAtomsAmong fs e.terms → IsSatisfied (setting_of tokens (at operands) (at labels)) v e → IsSatisfied (setting_from halves operands labels) v' (celled fs e)
  satisfied_cell e h s = ap (λ x. x +ℤ e.rest) (same_sum e.terms h) ∙ s

  -- ---- the equations of some steps

  module _ (es es' : List Equation) (celled_es : es' ≡ map (celled fs) es) (among : AreEquationsAmong fs es) where
    cell_there : (k : ℕ) (e : Equation) → slice_get es k ≡ Some e → slice_get es' k ≡ Some (celled fs e)
    cell_there k e q = ap (λ xs. slice_get xs k) celled_es ∙ slice_get-map (celled fs) es k ∙ ap (option_map (celled fs)) q

    field_there : (k : ℕ) (d : Equation) → slice_get es' k ≡ Some d → (e : Equation) × (slice_get es k ≡ Some e) × (celled fs e ≡ d)
    field_there k d q = map_some (celled fs) (slice_get es k) d (sym (slice_get-map (celled fs) es k) ∙ ap (λ xs. slice_get xs k) (sym celled_es) ∙ q)

    one_field : (k : ℕ) (o : Option Equation) (rest : List Equation) → slice_get es k ≡ o → ((d : Equation) → slice_get es' k ≡ Some d → IsSatisfied (setting_from halves operands labels) v' d)
        → EachSatisfied (setting_of tokens (at operands) (at labels)) v rest → EachSatisfied (setting_of tokens (at operands) (at labels)) v (cons_option o rest)
    one_field k None rest q s r = r
    one_field k (Some e) rest q s r =
        All-cons (IsSatisfied (setting_of tokens (at operands) (at labels)) v) e rest (satisfied_field e (among_at fs es k e among q) (s (celled fs e) (cell_there k e q))) r

    pub steps_field : (ss : List SolvingStep) → StepsSatisfied (setting_from halves operands labels) es' v' ss → EachSatisfied (setting_of tokens (at operands) (at labels)) v (equations_at es (map (λ (s : SolvingStep). s.equation) ss))
    steps_field [] h = All-nil (IsSatisfied (setting_of tokens (at operands) (at labels)) v)
    steps_field (s ∷ ss) h = one_field s.equation (slice_get es s.equation) (equations_at es (map (λ (s : SolvingStep). s.equation) ss)) refl h.0 (steps_field ss h.1)

    one_cell : (k : ℕ) (o : Option Equation) (rest : List Equation) → slice_get es k ≡ o → EachSatisfied (setting_of tokens (at operands) (at labels)) v (cons_option o rest)
        → ((d : Equation) → slice_get es' k ≡ Some d → IsSatisfied (setting_from halves operands labels) v' d) × EachSatisfied (setting_of tokens (at operands) (at labels)) v rest
    one_cell k None rest q h = ((λ d p. absurd (never (field_there k d p).0 (sym q ∙ (field_there k d p).1))), h)
      where
        never : (e : Equation) → None ≡ Some e → ⊥
        never e h = cc
    one_cell k (Some e) rest q h = (
      (λ d p.
          let f = field_there k d p in
          let same : e ≡ f.0 = some_same e f.0 (sym q ∙ f.1) in
          subst (IsSatisfied (setting_from halves operands labels) v') (ap (celled fs) same ∙ f.2)
          (satisfied_cell e (among_at fs es k e among q) (All-head (IsSatisfied (setting_of tokens (at operands) (at labels)) v) e rest h))),
      All-tail (IsSatisfied (setting_of tokens (at operands) (at labels)) v) e rest h,
    )
      where
        some_same : (e d : Equation) → Some e ≡ Some d → e ≡ d
        some_same e d h = cc

    pub steps_cell : (ss : List SolvingStep) → EachSatisfied (setting_of tokens (at operands) (at labels)) v (equations_at es (map (λ (s : SolvingStep). s.equation) ss)) → StepsSatisfied (setting_from halves operands labels) es' v' ss
    steps_cell [] h = tt
    steps_cell (s ∷ ss) h = let r = one_cell s.equation (slice_get es s.equation) (equations_at es (map (λ (s : SolvingStep). s.equation) ss)) refl h in (r.0, steps_cell ss r.1)

-- ---- all equations

rest_holds : (P : Equation → Type 0) (o : Option Equation) (rest : List Equation) → All P (cons_option o rest) → All P rest
rest_holds P None rest h = h
rest_holds P (Some e) rest h = All-tail P e rest h

first_holds : (P : Equation → Type 0) (o : Option Equation) (e : Equation) (rest : List Equation) → o ≡ Some e → All P (cons_option o rest) → P e
first_holds P None e rest q h = cc
first_holds P (Some d) e rest q h = let s : d ≡ e = cc in subst P s (All-head P d rest h)

at_number_if : (P : Equation → Type 0) (es : List Equation) (j : ℕ) (ks : List ℕ) (k : ℕ) (e : Equation) (b : Bool) → (j == k) ≡ b → All P (equations_at es (j ∷ ks)) → (is_among ks k ≡ true → P e) → (b || is_among ks k) ≡ true → slice_get es k ≡ Some e → P e
at_number_if P es j ks k e true d h rec m q = first_holds P (slice_get es j) e (equations_at es ks) (ap (slice_get es) (same_number j k d) ∙ q) h
at_number_if P es j ks k e false d h rec m q = rec m

at_number : (P : Equation → Type 0) (es : List Equation) (ks : List ℕ) (k : ℕ) (e : Equation) → All P (equations_at es ks) → is_among ks k ≡ true → slice_get es k ≡ Some e → P e
at_number P es [] k e h m q = cc
at_number P es (j ∷ ks) k e h m q =
    at_number_if P es j ks k e (j == k) refl h (λ n. at_number P es ks k e (rest_holds P (slice_get es j) (equations_at es ks) h) n q) m q

-- an order with each number has all equations
pub all_equations : (P : Equation → Type 0) (es : List Equation) (ks : List ℕ) → ((k : ℕ) → k < length es → is_among ks k ≡ true) → All P (equations_at es ks) → All P es
all_equations P es ks a h k d l = at_number P es ks k (get_or es k d) h (a k l) (slice_get-get_or es k d l)

some_if : (P : Equation → Type 0) (es : List Equation) (k : ℕ) (rest : List Equation) (o : Option Equation) → slice_get es k ≡ o → All P es → All P rest → All P (cons_option o rest)
some_if P es k rest None q h r = r
some_if P es k rest (Some e) q h r = All-cons P e rest (subst P (get_or_from_slice_get es k e e q) (h k e (slice_get_within es k e q))) r

pub some_equations : (P : Equation → Type 0) (es : List Equation) (ks : List ℕ) → All P es → All P (equations_at es ks)
some_equations P es [] h = All-nil P
some_equations P es (k ∷ ks) h = some_if P es k (equations_at es ks) (slice_get es k) refl h (some_equations P es ks h)
