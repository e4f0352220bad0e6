-- What the solving order gives.
use Rattle.std.proofs.Common.{ℕ, zero, suc, ◌^◌, ◌≡◌, ◌≢◌, ◌<◌, ◌==◌, ◌⊎◌, inl, inr, Bool, true, false, if◌then◌else◌, List, [], ◌∷◌, length, set, Option, Some, None, option_map, option_and_then, slice_get, ℤ, pos, ◌+ℤ◌, ◌*ℤ◌, refl, ap, sym, ◌∙◌, arith, subst, length-set}
use Rattle.std.proofs.lemmas.Int.{ints}
use Rattle.std.proofs.lemmas.Bool.Decides.{nat_tests}
use Rattle.std.proofs.Math.IntN.{*ℤ-zero}
use Rattle.sled_model.specs.declared.constructor.Atom.{Atom}
use Rattle.sled_model.specs.declared.constructor.Atom.TheVariants.{Name, Field, Signed, Slice, Label}
use Rattle.sled_model.specs.declared.constructor.Term.{Term}
use Rattle.sled_model.specs.declared.constructor.Equation.{Equation}
use Rattle.eq_solver.specs.declared.plan.SolvingStep.{SolvingStep}
use Rattle.eq_solver.specs.declared.plan.Work.{Work}
use Rattle.eq_solver.specs.declared.plan.Work.TheVariants.{Check, Solve}
use Rattle.eq_solver.specs.declared.plan.Open.{Open}
use Rattle.eq_solver.specs.declared.plan.Open.TheVariants.{Nothing, One, Many}
use Rattle.eq_solver.specs.declared.plan.Occurrence.{Occurrence}
use Rattle.eq_solver.specs.declared.plan.Occurrence.TheVariants.{Absent, Once, Often}
use Rattle.sled_model.specs.Linear.{IsWithin}
use Rattle.eq_solver.specs.Sums.{IsFieldOf}
use Rattle.eq_solver.specs.Order.{is_open, part_of, share, IsOpenAtMost, AreOpenAtMost, IsClosed, AreClosed}
use Rattle.eq_solver.specs.Steps.{as_read, IsStep, closed_by}
use Rattle.std.specs.Option.{option_map_or}
use Rattle.eq_solver.specs.Determined.{AreFieldsOf, AreCoefficients, AreGood, IsPlan}
use Rattle.eq_solver.specs.Solving.{next_step, with_field_if, with_atom, open_from, open_of, next_open_equation, closed, open_at, cell_order, occurrence_if, occurrence_with, occurrence_from, occurrence_work, work_for, work_at, none_open, plan_from}

-- ---- nothing is open

nothing_if : (left : List Bool) (acc : Open) (g : ℕ) (b : Bool) → is_open left g ≡ b → with_field_if acc g b ≡ Nothing → (acc ≡ Nothing) × (is_open left g ≡ false)
nothing_if left acc g false e h = (h, e)
nothing_if left Nothing g true e h = cc
nothing_if left (One f) g true e h = absurd (one_never (f == g) h)
  where
    one_never : (b : Bool) → (if b then One f else Many) ≡ Nothing → ⊥
    one_never true h = cc
    one_never false h = cc
nothing_if left Many g true e h = cc

nothing_atom : (left : List Bool) (acc : Open) (a : Atom) → with_atom left acc a ≡ Nothing → (acc ≡ Nothing) × IsClosed left a
nothing_atom left acc (Field g) h = nothing_if left acc g.0 (is_open left g.0) refl h
nothing_atom left acc (Signed g) h = nothing_if left acc g.0 (is_open left g.0) refl h
nothing_atom left acc (Name k) h = (h, tt)
nothing_atom left acc (Slice k lo hi) h = (h, tt)
nothing_atom left acc (Label k) h = (h, tt)

pub nothing_open : (left : List Bool) (acc : Open) (ts : List Term) → open_from left acc ts ≡ Nothing → (acc ≡ Nothing) × AreClosed left ts
nothing_open left acc [] h = (h, tt)
nothing_open left acc (t ∷ ts) h =
    let r = nothing_open left (with_atom left acc t.atom) ts h in
    let s = nothing_atom left acc t.atom r.0 in (s.0, (s.1, r.1))

-- ---- one field is open

abbrev Leads : Open → ℕ → Type 0
Leads acc f = (acc ≡ Nothing) ⊎ (acc ≡ One f)

-- what one atom more says of f
pub record Met (left : List Bool) (acc : Open) (f g : ℕ) : Type 0 where
  pub leads : Leads acc f
  pub closed_or : (is_open left g ≡ false) ⊎ (g ≡ f)

one_if : (left : List Bool) (acc : Open) (f g : ℕ) (b : Bool) → is_open left g ≡ b → Leads (with_field_if acc g b) f → Met left acc f g
one_if left acc f g false e h = record { leads = h; closed_or = inl e }
one_if left Nothing f g true e (inl h) = cc
one_if left Nothing f g true e (inr h) = record { leads = inl refl; closed_or = inr (cc) }
one_if left (One k) f g true e h = same (k == g) refl h
  where
    same : (b : Bool) → (k == g) ≡ b → Leads (if b then One k else Many) f → Met left (One k) f g
    same true d (inl h) = cc
    same true d (inr h) = let s : k ≡ g = grind (arith, nat_tests) in let r : k ≡ f = cc in record { leads = inr h; closed_or = inr (sym s ∙ r) }
    same false d (inl h) = cc
    same false d (inr h) = cc
one_if left Many f g true e (inl h) = cc
one_if left Many f g true e (inr h) = cc

one_atom : (left : List Bool) (acc : Open) (f : ℕ) (a : Atom) → Leads (with_atom left acc a) f → Leads acc f × IsOpenAtMost left f a
one_atom left acc f (Field g) h = let r = one_if left acc f g.0 (is_open left g.0) refl h in (r.leads, r.closed_or)
one_atom left acc f (Signed g) h = let r = one_if left acc f g.0 (is_open left g.0) refl h in (r.leads, r.closed_or)
one_atom left acc f (Name k) h = (h, tt)
one_atom left acc f (Slice k lo hi) h = (h, tt)
one_atom left acc f (Label k) h = (h, tt)

pub one_open : (left : List Bool) (acc : Open) (f : ℕ) (ts : List Term) → Leads (open_from left acc ts) f → Leads acc f × AreOpenAtMost left f ts
one_open left acc f [] h = (h, tt)
one_open left acc f (t ∷ ts) h =
    let r = one_open left (with_atom left acc t.atom) f ts h in
    let s = one_atom left acc f t.atom r.0 in (s.0, (s.1, r.1))

-- that field is open, and in place
abbrev IsFound : ℕ → List Bool → Open → ℕ → Type 0
IsFound n left acc f = (acc ≡ One f) ⊎ ((is_open left f ≡ true) × (f < n))

found_if : (n : ℕ) (left : List Bool) (acc : Open) (f g : ℕ) (b : Bool) → is_open left g ≡ b → g < n → with_field_if acc g b ≡ One f → IsFound n left acc f
found_if n left acc f g false e l h = inl h
found_if n left Nothing f g true e l h = let s : g ≡ f = cc in inr (ap (is_open left) (sym s) ∙ e, subst (λ k. k < n) s l)
found_if n left (One k) f g true e l h = same (k == g) h
  where
    same : (b : Bool) → (if b then One k else Many) ≡ One f → IsFound n left (One k) f
    same true h = inl h
    same false h = cc
found_if n left Many f g true e l h = cc

found_atom : (n : ℕ) (left : List Bool) (acc : Open) (f : ℕ) (a : Atom) → IsFieldOf n a → with_atom left acc a ≡ One f → IsFound n left acc f
found_atom n left acc f (Field g) l h = found_if n left acc f g.0 (is_open left g.0) refl l h
found_atom n left acc f (Signed g) l h = found_if n left acc f g.0 (is_open left g.0) refl l h
found_atom n left acc f (Name k) l h = inl h
found_atom n left acc f (Slice k lo hi) l h = inl h
found_atom n left acc f (Label k) l h = inl h

pub found_open : (n : ℕ) (left : List Bool) (acc : Open) (f : ℕ) (ts : List Term) → AreFieldsOf n ts → open_from left acc ts ≡ One f → IsFound n left acc f
found_open n left acc f [] l h = inl h
found_open n left acc f (t ∷ ts) l h = elim (found_open n left (with_atom left acc t.atom) f ts l.1 h) [
  | inl s ↦ found_atom n left acc f t.atom l.0 s
  | inr o ↦ inr o
]

-- ---- the one term

abbrev weight : ℤ → ℤ → Occurrence → ℤ
weight half x Absent = pos 0
weight half x (Once s c) = c *ℤ as_read s half x
weight half x Often = pos 0

often : (f : ℕ) (ts : List Term) → occurrence_from f Often ts ≡ Often
often f [] = refl
often f (t ∷ ts) = ap (λ k. occurrence_from f k ts) (same t.coefficient t.atom) ∙ often f ts
  where
    cases : (b s : Bool) (c : ℤ) → occurrence_if Often b s c ≡ Often
    cases true s c = refl
    cases false s c = refl

    same : (c : ℤ) (a : Atom) → occurrence_with f Often c a ≡ Often
    same c (Field g) = cases (g.0 == f) false c
    same c (Signed g) = cases (g.0 == f) true c
    same c (Name k) = refl
    same c (Slice k lo hi) = refl
    same c (Label k) = refl

-- one more term either is the second, or adds its weight
abbrev Adds : ℤ → ℤ → Occurrence → Occurrence → ℤ → ℤ → Type 0
Adds half x acc next c part = (next ≡ Often) ⊎ (weight half x next ≡ weight half x acc +ℤ (c *ℤ part))

plus_zero : (a c : ℤ) → a ≡ a +ℤ (c *ℤ pos 0)
plus_zero a c = let z = *ℤ-zero c in regroup a (c *ℤ pos 0) z
  where
    regroup : (a z : ℤ) → z ≡ pos 0 → a ≡ a +ℤ z
    regroup a z e = omega (arith, ints)

zero_plus : (a : ℤ) → a ≡ pos 0 +ℤ a
zero_plus a = omega (arith, ints)

adds_if : (half x : ℤ) (acc : Occurrence) (b s : Bool) (c : ℤ) → Adds half x acc (occurrence_if acc b s c) c (if b then as_read s half x else pos 0)
adds_if half x acc false s c = inr (plus_zero (weight half x acc) c)
adds_if half x Absent true s c = inr (zero_plus (c *ℤ as_read s half x))
adds_if half x (Once t d) true s c = inl refl
adds_if half x Often true s c = inl refl

adds : (half x : ℤ) (f : ℕ) (acc : Occurrence) (c : ℤ) (a : Atom) → Adds half x acc (occurrence_with f acc c a) c (part_of half f x a)
adds half x f acc c (Field g) = adds_if half x acc (g.0 == f) false c
adds half x f acc c (Signed g) = adds_if half x acc (g.0 == f) true c
adds half x f acc c (Name k) = inr (plus_zero (weight half x acc) c)
adds half x f acc c (Slice k lo hi) = inr (plus_zero (weight half x acc) c)
adds half x f acc c (Label k) = inr (plus_zero (weight half x acc) c)

pub occurrence_share : (half x : ℤ) (f : ℕ) (s : Bool) (c : ℤ) (acc : Occurrence) (ts : List Term) → occurrence_from f acc ts ≡ Once s c → weight half x acc +ℤ share half f x ts ≡ c *ℤ as_read s half x
occurrence_share half x f s c acc [] h = add_zero (weight half x acc) ∙ ap (weight half x) h
  where
    add_zero : (a : ℤ) → a +ℤ pos 0 ≡ a
    add_zero a = omega (arith, ints)
occurrence_share half x f s c acc (t ∷ ts) h = elim (adds half x f acc t.coefficient t.atom) [
  | inl o ↦ absurd (never (sym (often f ts) ∙ ap (λ k. occurrence_from f k ts) (sym o) ∙ h))
  | inr e ↦ regroup _ _ _ _ _ e (occurrence_share half x f s c (occurrence_with f acc t.coefficient t.atom) ts h)
]
  where
    never : Often ≡ Once s c → ⊥
    never h = cc

    regroup : (a w p r g : ℤ) → a ≡ w +ℤ p → a +ℤ r ≡ g → w +ℤ (p +ℤ r) ≡ g
    regroup a w p r g e d = omega (arith, ints)

-- ---- the whole plan

abbrev Counts : Occurrence → Type 0
Counts Absent = Unit {0}
Counts (Once s c) = IsWithin (2 ^ 16) c × (c ≢ pos 0)
Counts Often = Unit {0}

counts_if : (acc : Occurrence) (b s : Bool) (c : ℤ) → Counts acc → (IsWithin (2 ^ 16) c × (c ≢ pos 0)) → Counts (occurrence_if acc b s c)
counts_if acc false s c h k = h
counts_if Absent true s c h k = k
counts_if (Once t d) true s c h k = tt
counts_if Often true s c h k = tt

counts_atom : (f : ℕ) (acc : Occurrence) (c : ℤ) (a : Atom) → Counts acc → (IsWithin (2 ^ 16) c × (c ≢ pos 0)) → Counts (occurrence_with f acc c a)
counts_atom f acc c (Field g) h k = counts_if acc (g.0 == f) false c h k
counts_atom f acc c (Signed g) h k = counts_if acc (g.0 == f) true c h k
counts_atom f acc c (Name j) h k = h
counts_atom f acc c (Slice j lo hi) h k = h
counts_atom f acc c (Label j) h k = h

counts : (f : ℕ) (acc : Occurrence) (ts : List Term) → AreCoefficients ts → Counts acc → Counts (occurrence_from f acc ts)
counts f acc [] k h = h
counts f acc (t ∷ ts) k h = counts f (occurrence_with f acc t.coefficient t.atom) ts k.1 (counts_atom f acc t.coefficient t.atom h k.0)

zero_left : (a : ℤ) (b : ℤ) → pos 0 +ℤ a ≡ b → a ≡ b
zero_left a b e = omega (arith, ints)

solving : (halves : ℕ → ℤ) (left : List Bool) (e : Equation) (f : ℕ) (k : Occurrence) (work : Work) → AreFieldsOf (length left) e.terms → AreCoefficients e.terms → open_of left e.terms ≡ One f → occurrence_from f Absent e.terms ≡ k → Counts k
    → occurrence_work f k ≡ Some work → IsStep halves left e work × (closed left (One f) ≡ closed_by left work)
solving halves left e f Absent work l m o s n h = cc
solving halves left e f Often work l m o s n h = cc
solving halves left e f (Once signed c) work l m o s n h =
    let is : Solve f signed c ≡ work = cc in
    let found = found_or (found_open (length left) left Nothing f e.terms l o) in
    subst (λ (k : Work). IsStep halves left e k × (closed left (One f) ≡ closed_by left k)) is (
      record {
        open_field = found.0;
        within = found.1;
        others = (one_open left Nothing f e.terms (inr o)).1;
        coefficient = n.0;
        nonzero = n.1;
        share_is = λ x. zero_left _ _ (occurrence_share (halves f) x f signed c Absent e.terms s);
      },
      refl,
    )
  where
    found_or : IsFound (length left) left Nothing f → (is_open left f ≡ true) × (f < length left)
    found_or (inl h) = cc
    found_or (inr h) = h

pub work_is : (halves : ℕ → ℤ) (left : List Bool) (e : Equation) (o : Open) (work : Work) → AreFieldsOf (length left) e.terms → AreCoefficients e.terms → open_of left e.terms ≡ o → work_for o e.terms ≡ Some work
    → IsStep halves left e work × (closed left o ≡ closed_by left work)
work_is halves left e Nothing work l m o h =
    let is : Check ≡ work = cc in
    subst (λ (k : Work). IsStep halves left e k × (closed left Nothing ≡ closed_by left k)) is ((nothing_open left Nothing e.terms o).1, refl)
work_is halves left e (One f) work l m o h = solving halves left e f (occurrence_from f Absent e.terms) work l m o refl (counts f Absent e.terms m tt) h
work_is halves left e Many work l m o h = cc

pub and_then_some : {A B : Type 0} (f : A → Option B) (o : Option A) (r : B) → option_and_then f o ≡ Some r → (a : A) × (o ≡ Some a) × (f a ≡ Some r)
and_then_some f None r h = cc
and_then_some f (Some a) r h = (a, refl, h)

pub map_some : {A B : Type 0} (f : A → B) (o : Option A) (r : B) → option_map f o ≡ Some r → (a : A) × (o ≡ Some a) × (f a ≡ r)
map_some f None r h = cc
map_some f (Some a) r h = (a, refl, cc)

length_closed : (left : List Bool) (work : Work) → length (closed_by left work) ≡ length left
length_closed left Check = refl
length_closed left (Solve f signed c) = length-set left f false

same_some : (o : Option Equation) (e d : Equation) → o ≡ Some e → o ≡ Some d → e ≡ d
same_some o e d p q = cc

pub end_of : (left : List Bool) (b : Bool) (ss : List SolvingStep) → none_open left ≡ b → (if b then Some [] else None) ≡ Some ss → (ss ≡ []) × (none_open left ≡ true)
end_of left true ss e h = (cc, e)
end_of left false ss e h = cc

pub planned : (halves : ℕ → ℤ) (n : ℕ) (es : List Equation) (taken left : List Bool) (ss : List SolvingStep) → AreGood (length left) es → plan_from n es taken left ≡ Some ss → IsPlan halves n es taken left ss
planned halves zero es taken left ss g h =
    let r = end_of left (none_open left) ss refl h in
    subst (λ z. IsPlan halves zero es taken left z) (sym r.0) (record { steps = tt; order = refl; closed_all = r.1; all_taken = refl })
planned halves (suc n) es taken left ss g h =
    let a = and_then_some (λ (s : SolvingStep). option_map (λ rest. s ∷ rest) (plan_from n es (set taken s.equation true) (closed_by left s.work))) (next_step es taken left) ss h in
    let s = a.0 in
    let b = map_some (λ (rest : List SolvingStep). s ∷ rest) (plan_from n es (set taken s.equation true) (closed_by left s.work)) ss a.2 in
    let d = and_then_some (λ k. option_map (λ (work : Work). record { equation = k; work = work }) (work_at es left k)) (next_open_equation taken left 0 es) s a.1 in
    let m = map_some (λ (work : Work). record { equation = d.0; work = work }) (work_at es left d.0) s d.2 in
    let k = ap (λ (z : SolvingStep). z.equation) m.2 in
    let w = ap (λ (z : SolvingStep). z.work) m.2 in
    let e = and_then_some (λ (e : Equation). work_for (open_of left e.terms) e.terms) (slice_get es d.0) m.0 m.1 in
    let good = g d.0 e.0 e.1 in
    let is = work_is halves left e.0 (open_of left e.0.terms) m.0 good.0 good.1 refl e.2 in
    let rest = planned halves n es (set taken s.equation true) (closed_by left s.work) b.0 (subst (λ z. AreGood z es) (sym (length_closed left s.work)) g) b.1 in
    subst (λ z. IsPlan halves (suc n) es taken left z) b.2 (record {
      steps = ((λ x q. subst (IsStep halves left x) w (subst (λ z. IsStep halves left z m.0) (same_some _ _ _ e.1 (ap (slice_get es) k ∙ q)) is.0)), rest.steps);
      order = ap (λ z. s.equation ∷ z) rest.order
          ∙ ap (λ z. s.equation ∷ cell_order n es (set taken s.equation true) z) (sym (is.1 ∙ ap (closed_by left) w))
          ∙ ap (λ z. z ∷ cell_order n es (set taken z true) (closed left (open_of left e.0.terms))) (sym k)
          ∙ ap (λ z. d.0 ∷ cell_order n es (set taken d.0 true) (closed left z)) (sym (ap (λ o. option_map_or (λ (x : Equation). open_of left x.terms) o Nothing) e.1))
          ∙ sym (ap (λ o. option_map_or (λ j. j ∷ cell_order n es (set taken j true) (closed left (open_at es left j))) o []) d.1);
      closed_all = rest.closed_all;
      all_taken = ap suc rest.all_taken;
    })
