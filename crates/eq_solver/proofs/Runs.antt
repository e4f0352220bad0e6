-- Steps one after the other.
use Rattle.std.proofs.Common.{ℕ, ◌+◌, ◌≡◌, ◌<◌, Bool, true, false, List, [], ◌∷◌, ◌++◌, length, get_or, take, drop, ℤ, Some, slice_get, refl, ap, sym, ◌∙◌, subst, length-set, Option}
use Rattle.std.specs.Bool.{MatchBool}
use Rattle.std.proofs.lemmas.List.{take_more, drop_more}
use Rattle.std.proofs.lemmas.Option.{slice_get-get_or}
use Rattle.sled_model.specs.declared.constructor.Equation.{Equation}
use Rattle.eq_solver.specs.declared.plan.SolvingStep.{SolvingStep}
use Rattle.eq_solver.specs.declared.plan.Work.{Work}
use Rattle.eq_solver.specs.declared.plan.Work.TheVariants.{Check, Solve}
use Rattle.sled_model.specs.Equations.{Setting, IsSatisfied}
use Rattle.eq_solver.specs.Sums.{setting_from, at, AreValues}
use Rattle.eq_solver.specs.Order.{Agree}
use Rattle.eq_solver.specs.Steps.{Advances, Sticks, Finds, closed_by, left_after, AreSteps, StepsSatisfied, CanSatisfySteps, Solved, IsUnsolvable}

-- where the loop stands after i steps
pub record Running (halves operands labels : List ℤ) (hidden : List Bool) (es : List Equation) (ss : List SolvingStep) (before : List ℤ) (i : ℕ) (out : List ℤ) : Type 0 where
  pub values : AreValues halves operands labels out
  pub size : length (left_after hidden (take i ss)) ≡ length out
  pub steps : AreSteps (at halves) es (left_after hidden (take i ss)) (drop i ss)
  pub solved : Solved (setting_from halves operands labels) (length out) hidden es (take i ss) (at before) (at out)

left_snoc : (left : List Bool) (ss : List SolvingStep) (s : SolvingStep) → left_after left (ss ++ s ∷ []) ≡ closed_by (left_after left ss) s.work
left_snoc left [] s = refl
left_snoc left (t ∷ ss) s = left_snoc (closed_by left t.work) ss s

length_closed : (left : List Bool) (work : Work) → length (closed_by left work) ≡ length left
length_closed left Check = refl
length_closed left (Solve f signed c) = length-set left f false

each_snoc : (w : Setting) (es : List Equation) (v : ℕ → ℤ) (ss : List SolvingStep) (s : SolvingStep) → StepsSatisfied w es v ss → ((e : Equation) → slice_get es s.equation ≡ Some e → IsSatisfied w v e) → StepsSatisfied w es v (ss ++ s ∷ [])
each_snoc w es v [] s h g = (g, tt)
each_snoc w es v (t ∷ ss) s h g = (h.0, each_snoc w es v ss s h.1 g)

each_first : (w : Setting) (es : List Equation) (v : ℕ → ℤ) (ss : List SolvingStep) (s : SolvingStep) → StepsSatisfied w es v (ss ++ s ∷ []) → StepsSatisfied w es v ss × ((e : Equation) → slice_get es s.equation ≡ Some e → IsSatisfied w v e)
each_first w es v [] s h = (tt, h.0)
each_first w es v (t ∷ ss) s h = let r = each_first w es v ss s h.1 in ((h.0, r.0), r.1)

same_some : (o : Option Equation) (e d : Equation) → o ≡ Some e → o ≡ Some d → e ≡ d
same_some o e d p q = cc

solved_snoc : (w : Setting) (n : ℕ) (left : List Bool) (es : List Equation) (ss : List SolvingStep) (s : SolvingStep) (e : Equation) (u u' u'' : ℕ → ℤ) → slice_get es s.equation ≡ Some e → Solved w n left es ss u u'
    → Advances w n (left_after left ss) (closed_by (left_after left ss) s.work) e u' u'' → Solved w n left es (ss ++ s ∷ []) u u''
solved_snoc w n left es ss s e u u' u'' q d a = record {
  fields = a.fields;
  only = λ v f g h.
      let r = each_first w es v ss s h in
      subst (λ l. Agree l v u'') (sym (left_snoc left ss s)) (a.only v f (d.only v f g r.0) (r.1 e q));
  kept = λ v g. d.kept v (a.kept v (subst (λ l. Agree l v u'') (left_snoc left ss s) g));
  satisfied = λ v g.
      let k = subst (λ l. Agree l v u'') (left_snoc left ss s) g in
      each_snoc w es v ss s (d.satisfied v (a.kept v k)) (λ m p. subst (λ z. IsSatisfied w v z) (same_some _ _ _ q p) (a.satisfied v k));
}

stuck_snoc : (w : Setting) (n : ℕ) (left : List Bool) (es : List Equation) (ss : List SolvingStep) (s : SolvingStep) (e : Equation) (u u' : ℕ → ℤ) → slice_get es s.equation ≡ Some e → Solved w n left es ss u u'
    → Sticks w n (left_after left ss) e u' → CanSatisfySteps w n left es u (ss ++ s ∷ []) → ⊥
stuck_snoc w n left es ss s e u u' q d k c =
    let r = each_first w es c.0 ss s c.3 in k c.0 c.1 (d.only c.0 c.1 c.2 r.0) (r.1 e q)

pub unsolvable : (w : Setting) (n : ℕ) (left : List Bool) (es : List Equation) (ss : List SolvingStep) (i : ℕ) (d : SolvingStep) (e : Equation) (u u' : ℕ → ℤ) → i < length ss → slice_get es (get_or ss i d).equation ≡ Some e → Solved w n left es (take i ss) u u'
    → Sticks w n (left_after left (take i ss)) e u' → IsUnsolvable w n left es ss u (get_or ss i d).equation
unsolvable w n left es ss i d e u u' b q s k = record {
  place = i;
  named = get_or ss i d;
  is_there = slice_get-get_or ss i d b;
  number = refl;
  before = (u', s.fields, s.kept u' (λ g c. refl), s.satisfied u' (λ g c. refl));
  after = λ c. stuck_snoc w n left es (take i ss) (get_or ss i d) e u u' q s k (subst (CanSatisfySteps w n left es u) (take_more ss i d b) c);
}

pub running_more : (halves operands labels : List ℤ) (hidden : List Bool) (es : List Equation) (ss : List SolvingStep) (before : List ℤ) (i : ℕ) (out out' : List ℤ) (d : SolvingStep) (e : Equation) (found : Bool)
    → Running halves operands labels hidden es ss before i out → i < length ss → slice_get es (get_or ss i d).equation ≡ Some e → length out' ≡ length out
    → Finds (setting_from halves operands labels) (length out) e (get_or ss i d).work (at out) (at out') found → found ≡ true → Running halves operands labels hidden es ss before (i + 1) out'
running_more halves operands labels hidden es ss before i out out' d e found r b q l f t =
    let w = setting_from halves operands labels in
    let s = get_or ss i d in
    let left = left_after hidden (take i ss) in
    let rest = subst (AreSteps (at halves) es left) (drop_more ss i d b) r.steps in
    let a = subst (λ z. MatchBool z (Advances w (length out) left (closed_by left s.work) e (at out) (at out')) (Sticks w (length out) left e (at out))) t (f left (rest.0 e q) r.size) in
    let m = take_more ss i d b in
    let k : left_after hidden (take (i + 1) ss) ≡ closed_by left s.work = ap (left_after hidden) m ∙ left_snoc hidden (take i ss) s in
    record {
      values = record { one_each = r.values.one_each ∙ sym l; half = r.values.half; operand = r.values.operand; label = r.values.label; field = λ f b'. a.fields.each f (subst (λ z. f < z) r.values.one_each b') };
      size = ap length k ∙ length_closed left s.work ∙ r.size ∙ sym l;
      steps = subst (λ z. AreSteps (at halves) es z (drop (i + 1) ss)) (sym k) rest.1;
      solved = subst (λ z. Solved w z hidden es (take (i + 1) ss) (at before) (at out')) (sym l) (subst (λ z. Solved w (length out) hidden es z (at before) (at out')) (sym m) (solved_snoc w (length out) hidden es (take i ss) s e (at before) (at out) (at out') q r.solved a));
    }

pub running_stuck : (halves operands labels : List ℤ) (hidden : List Bool) (es : List Equation) (ss : List SolvingStep) (before : List ℤ) (i n : ℕ) (out out' : List ℤ) (d : SolvingStep) (e : Equation) (found : Bool)
    → Running halves operands labels hidden es ss before i out → i < length ss → slice_get es (get_or ss i d).equation ≡ Some e → length out ≡ n
    → Finds (setting_from halves operands labels) (length out) e (get_or ss i d).work (at out) (at out') found → found ≡ false → IsUnsolvable (setting_from halves operands labels) n hidden es ss (at before) (get_or ss i d).equation
running_stuck halves operands labels hidden es ss before i n out out' d e found r b q l f t =
    let w = setting_from halves operands labels in
    let s = get_or ss i d in
    let left = left_after hidden (take i ss) in
    let rest = subst (AreSteps (at halves) es left) (drop_more ss i d b) r.steps in
    let k = subst (λ z. MatchBool z (Advances w (length out) left (closed_by left s.work) e (at out) (at out')) (Sticks w (length out) left e (at out))) t (f left (rest.0 e q) r.size) in
    subst (λ z. IsUnsolvable w z hidden es ss (at before) s.equation) l (unsolvable w (length out) hidden es ss i d e (at before) (at out) b q r.solved k)
