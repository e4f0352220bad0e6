-- Where the condition on the order is with_field there is a plan.
use Rattle.std.proofs.Common.{ℕ, zero, suc, ◌+◌, ◌≡◌, Bool, true, false, not, ◌&&◌, if◌then◌else◌, List, [], ◌∷◌, length, get_or, set, Option, Some, None, option_map, option_and_then, slice_get, ℤ, refl, ap, sym, ◌∙◌, arith, subst}
use Rattle.std.specs.Option.{option_map_or}
use Rattle.sled_model.specs.declared.constructor.Equation.{Equation}
use Rattle.eq_solver.specs.declared.plan.SolvingStep.{SolvingStep}
use Rattle.sled_model.specs.declared.constructor.Term.{Term}
use Rattle.eq_solver.specs.declared.plan.Work.{Work}
use Rattle.eq_solver.specs.declared.plan.Work.TheVariants.{Check, Solve}
use Rattle.eq_solver.specs.declared.plan.Open.{Open}
use Rattle.eq_solver.specs.declared.plan.Open.TheVariants.{Nothing, One, Many}
use Rattle.eq_solver.specs.declared.plan.Occurrence.TheVariants.{Absent, Once, Often}
use Rattle.eq_solver.specs.Steps.{closed_by}
use Rattle.eq_solver.specs.Solving.{is_few, next_open_equation, next_step, open_at, open_of, closed, cell_order, work_for, work_at, none_open, plan_from, occurrence_work, occurrence_from}
use Rattle.eq_solver.specs.declared.plan.Occurrence.{Occurrence}
use Rattle.eq_solver.proofs.Orders.{and_then_some, map_some, end_of}
use Rattle.eq_solver.specs.Determined.{IsSingle, left_by, AreSingle, DeterminesAll}

-- the next equation is there, and holds at most one open field. `at` is the number of the first of es
abbrev IsThere : List Bool → ℕ → List Equation → ℕ → Type 0
IsThere left at es k = (j : ℕ) × (e : Equation) × (k ≡ at + j) × (slice_get es j ≡ Some e) × (is_few (open_of left e.terms) ≡ true)

there_if : (left : List Bool) (at : ℕ) (e : Equation) (es : List Equation) (k : ℕ) (o : Option ℕ) (a b : Bool) → is_few (open_of left e.terms) ≡ b → (o ≡ Some k → IsThere left (at + 1) es k) → (if a && b then Some at else o) ≡ Some k → IsThere left at (e ∷ es) k
there_if left at e es k o true true b rec q = let s : at ≡ k = cc in let z : k ≡ at + 0 = omega (arith, s) in (0, e, z, refl, b)
there_if left at e es k o true false b rec q = let r = rec q in let s : k ≡ at + suc r.0 = omega (arith, r.2) in (suc r.0, r.1, s, r.3, r.4)
there_if left at e es k o false true b rec q = let r = rec q in let s : k ≡ at + suc r.0 = omega (arith, r.2) in (suc r.0, r.1, s, r.3, r.4)
there_if left at e es k o false false b rec q = let r = rec q in let s : k ≡ at + suc r.0 = omega (arith, r.2) in (suc r.0, r.1, s, r.3, r.4)

next_there : (taken left : List Bool) (at : ℕ) (es : List Equation) (k : ℕ) → next_open_equation taken left at es ≡ Some k → IsThere left at es k
next_there taken left at [] k h = cc
next_there taken left at (e ∷ es) k h = there_if left at e es k (next_open_equation taken left (at + 1) es) (not (get_or taken at false)) (is_few (open_of left e.terms)) refl (next_there taken left (at + 1) es k) h

-- so there is work for it
work_there : (left : List Bool) (ts : List Term) (o : Open) → is_few o ≡ true → ((f : ℕ) → o ≡ One f → (signed : Bool) × (c : ℤ) × (occurrence_from f Absent ts ≡ Once signed c))
    → (work : Work) × (work_for o ts ≡ Some work) × (closed left o ≡ closed_by left work)
work_there left ts Nothing h s = (Check, refl, refl)
work_there left ts (One f) h s = let r = s f refl in (Solve f r.0 r.1, ap (occurrence_work f) r.2, refl)
work_there left ts Many h s = cc

abbrev Goes : ℕ → List Equation → List Bool → List Bool → Option ℕ → List ℕ
Goes n es taken left o = option_map_or (λ k. k ∷ cell_order n es (set taken k true) (closed left (open_at es left k))) o []

go : (n : ℕ) (es : List Equation) (taken left : List Bool) → DeterminesAll (suc n) es taken left → ((taken' left' : List Bool) → DeterminesAll n es taken' left' → (ss : List SolvingStep) × (plan_from n es taken' left' ≡ Some ss))
    → (o : Option ℕ) → next_open_equation taken left 0 es ≡ o → (ss : List SolvingStep) × (plan_from (suc n) es taken left ≡ Some ss)
go n es taken left d rec None q = let l : length (Goes n es taken left None) ≡ suc n = ap (λ o. length (Goes n es taken left o)) (sym q) ∙ d.takes in cc
go n es taken left d rec (Some k) q =
    let order = ap (Goes n es taken left) q in
    let next = cell_order n es (set taken k true) (closed left (open_at es left k)) in
    let r = next_there taken left 0 es k q in
    let j : r.0 ≡ k = omega (arith, r.2) in
    let e = subst (λ i. slice_get es i ≡ Some r.1) j r.3 in
    let single = subst (AreSingle es left) order d.single in
    let w = work_there left r.1.terms (open_of left r.1.terms) r.4 (single.0 r.1 e) in
    let work : work_at es left k ≡ Some w.0 = ap (λ o. option_and_then (λ (x : Equation). work_for (open_of left x.terms) x.terms) o) e ∙ w.1 in
    let is_open : open_at es left k ≡ open_of left r.1.terms = ap (λ o. option_map_or (λ (x : Equation). open_of left x.terms) o Nothing) e in
    let closes : closed left (open_at es left k) ≡ closed_by left w.0 = ap (closed left) is_open ∙ w.2 in
    let s : SolvingStep = record { equation = k; work = w.0 } in
    let step : next_step es taken left ≡ Some s =
    ap (λ o. option_and_then (λ i. option_map (λ (x : Work). record { equation = i; work = x }) (work_at es left i)) o) q ∙ ap (λ o. option_map (λ (x : Work). record { equation = k; work = x }) o) work in
    let rest = rec (set taken k true) (closed left (open_at es left k)) (record {
      takes = less (length next) n (ap length (sym order) ∙ d.takes);
      determines = ap (λ ks. none_open (left_by es left ks)) (sym order) ∙ d.determines;
      single = single.1;
    }) in
    let there = ap (λ l. plan_from n es (set taken k true) l) (sym closes) ∙ rest.1 in
    (s ∷ rest.0, ap (λ o. option_and_then (λ (x : SolvingStep). option_map (λ ss. x ∷ ss) (plan_from n es (set taken x.equation true) (closed_by left x.work))) o) step ∙ ap (λ o. option_map (λ ss. s ∷ ss) o) there)
  where
    less : (a b : ℕ) → suc a ≡ suc b → a ≡ b
    less a b h = omega arith

pub is_planned : (n : ℕ) (es : List Equation) (taken left : List Bool) → DeterminesAll n es taken left → (ss : List SolvingStep) × (plan_from n es taken left ≡ Some ss)
is_planned zero es taken left d = ([], ap (λ b. if b then Some [] else None) d.determines)
is_planned (suc n) es taken left d = go n es taken left d (is_planned n es) (next_open_equation taken left 0 es) refl

-- ---- and where there is a plan the condition is with_field

once_of : (f : ℕ) (k : Occurrence) (work : Work) → occurrence_work f k ≡ Some work → (signed : Bool) × (c : ℤ) × (k ≡ Once signed c)
once_of f Absent work h = cc
once_of f (Once signed c) work h = (signed, c, refl)
once_of f Often work h = cc

closes_it : (left : List Bool) (o : Open) (ts : List Term) (work : Work) → work_for o ts ≡ Some work → closed left o ≡ closed_by left work
closes_it left Nothing ts work h = let is : Check ≡ work = cc in ap (closed_by left) is
closes_it left (One f) ts work h =
    let r = once_of f (occurrence_from f Absent ts) work h in
    let q : Some (Solve f r.0 r.1) ≡ Some work = ap (occurrence_work f) (sym r.2) ∙ h in
    let is : Solve f r.0 r.1 ≡ work = cc in
    ap (closed_by left) is
closes_it left Many ts work h = cc

single_of : (left : List Bool) (e : Equation) (work : Work) → work_for (open_of left e.terms) e.terms ≡ Some work → IsSingle left e
single_of left e work h f o = once_of f (occurrence_from f Absent e.terms) work (ap (λ k. work_for k e.terms) (sym o) ∙ h)

same_equation : (o : Option Equation) (e d : Equation) → o ≡ Some e → o ≡ Some d → e ≡ d
same_equation o e d p q = cc

pub determined : (n : ℕ) (es : List Equation) (taken left : List Bool) (ss : List SolvingStep) → plan_from n es taken left ≡ Some ss → DeterminesAll n es taken left
determined zero es taken left ss h = record { takes = refl; determines = (end_of left (none_open left) ss refl h).1; single = tt }
determined (suc n) es taken left ss h =
    let a = and_then_some (λ (s : SolvingStep). option_map (λ rest. s ∷ rest) (plan_from n es (set taken s.equation true) (closed_by left s.work))) (next_step es taken left) ss h in
    let s = a.0 in
    let b = map_some (λ (rest : List SolvingStep). s ∷ rest) (plan_from n es (set taken s.equation true) (closed_by left s.work)) ss a.2 in
    let d = and_then_some (λ k. option_map (λ (work : Work). record { equation = k; work = work }) (work_at es left k)) (next_open_equation taken left 0 es) s a.1 in
    let m = map_some (λ (work : Work). record { equation = d.0; work = work }) (work_at es left d.0) s d.2 in
    let k = ap (λ (z : SolvingStep). z.equation) m.2 in
    let w = ap (λ (z : SolvingStep). z.work) m.2 in
    let e = and_then_some (λ (x : Equation). work_for (open_of left x.terms) x.terms) (slice_get es d.0) m.0 m.1 in
    let is_open : open_at es left d.0 ≡ open_of left e.0.terms = ap (λ o. option_map_or (λ (x : Equation). open_of left x.terms) o Nothing) e.1 in
    let closing : closed left (open_at es left d.0) ≡ closed_by left s.work = ap (closed left) is_open ∙ closes_it left (open_of left e.0.terms) e.0.terms m.0 e.2 ∙ ap (closed_by left) w in
    let rest = determined n es (set taken s.equation true) (closed_by left s.work) b.0 b.1 in
    let rest' = subst (λ z. DeterminesAll n es z (closed left (open_at es left d.0))) (ap (λ j. set taken j true) (sym k)) (subst (λ z. DeterminesAll n es (set taken s.equation true) z) (sym closing) rest) in
    let order = ap (Goes n es taken left) d.1 in
    record {
      takes = ap length order ∙ ap suc rest'.takes;
      determines = ap (λ ks. none_open (left_by es left ks)) order ∙ rest'.determines;
      single = subst (AreSingle es left) (sym order) ((λ x q. subst (IsSingle left) (same_equation _ _ _ e.1 q) (single_of left e.0 m.0 e.2)), rest'.single);
    }

pub no_plan : (n : ℕ) (es : List Equation) (taken left : List Bool) → plan_from n es taken left ≡ None → DeterminesAll n es taken left → ⊥
no_plan n es taken left h d = let r = is_planned n es taken left d in never r.0 (sym h ∙ r.1)
  where
    never : (ss : List SolvingStep) → None ≡ Some ss → ⊥
    never ss h = cc
