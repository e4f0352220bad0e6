-- From the operands to the first values, and from the last values to the solution.
use Rattle.std.proofs.Common.{ℕ, zero, suc, ◌+◌, ◌≡◌, ◌<◌, inl, inr, Bool, true, false, List, [], ◌∷◌, length, map, ℤ, pos, refl, ap, sym, ◌∙◌, arith, subst, length-set, set}
use Rattle.std.proofs.lemmas.List.{length-map, get_or-set_same, get_or-set_other}
use Rattle.std.proofs.lemmas.Bool.{cases_eq}
use Rattle.eq_solver.specs.declared.plan.Source.{Source}
use Rattle.eq_solver.specs.declared.plan.Source.TheVariants.{Hidden, Plain, Extended}
use Rattle.sled_model.specs.declared.constructor.Equation.{Equation}
use Rattle.eq_solver.specs.declared.plan.SolvingStep.{SolvingStep}
use Rattle.eq_solver.specs.declared.plan.Work.{Work}
use Rattle.eq_solver.specs.declared.plan.Work.TheVariants.{Check, Solve}
use Rattle.sled_model.specs.Equations.{Setting, sign_extended}
use Rattle.eq_solver.specs.Sums.{at}
use Rattle.eq_solver.specs.Order.{is_open, Agree}
use Rattle.eq_solver.specs.Steps.{AreFields, Solved, IsUnsolvable, left_after, closed_by}
use Rattle.eq_solver.specs.Solving.{none_open}
use Rattle.eq_solver.specs.Plans.{FitsSource, source_at, CellsFit, IsSolution, HasNoSolution, is_hidden_source}
use Rattle.eq_solver.specs.Starts.{IsStart}

-- the first values are right
pub record AreStarts (w : Setting) (sources : List Source) (u : ℕ → ℤ) : Type 0 where
  pub each : (f : ℕ) → f < length sources → IsStart (w.halves f) w.operands (source_at sources f) (u f)

open_is_hidden : (sources : List Source) (f : ℕ) → is_open (map is_hidden_source sources) f ≡ is_hidden_source (source_at sources f)
open_is_hidden [] f = refl
open_is_hidden (s ∷ ss) zero = refl
open_is_hidden (s ∷ ss) (suc f) = open_is_hidden ss f

closed_within : (left : List Bool) (f : ℕ) → is_open left f ≡ false → f < length left
closed_within [] f h = cc
closed_within (b ∷ bs) zero h = omega arith
closed_within (b ∷ bs) (suc f) h = let r = closed_within bs f h in omega arith

agree_of_fit : (w : Setting) (sources : List Source) (hidden : List Bool) (u v : ℕ → ℤ) → hidden ≡ map is_hidden_source sources → AreStarts w sources u → CellsFit w sources v → Agree hidden v u
agree_of_fit w sources hidden u v e s h g c =
    let o : is_hidden_source (source_at sources g) ≡ false = sym (open_is_hidden sources g) ∙ ap (λ l. is_open l g) (sym e) ∙ c in
    let l : g < length sources = subst (λ n. g < n) (ap length e ∙ length-map {B = Bool} sources is_hidden_source) (closed_within hidden g c) in
    elim ((s.each g l).only (v g) (h.fields.each g l) (h.given g l)) [
      | inl n ↦ cc (ap is_hidden_source n)
      | inr r ↦ r
    ]

given_of : (half : ℤ) (operands : ℕ → ℤ) (x y : ℤ) (source : Source) → (is_hidden_source source ≡ false → x ≡ y) → FitsSource half operands y source → FitsSource half operands x source
given_of half operands x y Hidden e h = tt
given_of half operands x y (Plain k) e h = e refl ∙ h
given_of half operands x y (Extended k) e h = ap (sign_extended half) (e refl) ∙ h

fit_of_agree : (w : Setting) (sources : List Source) (hidden : List Bool) (u v : ℕ → ℤ) → hidden ≡ map is_hidden_source sources → AreStarts w sources u → AreFields w.halves (length sources) v → Agree hidden v u → CellsFit w sources v
fit_of_agree w sources hidden u v e s a g = record {
  fields = a;
  given = λ f l. given_of (w.halves f) w.operands (v f) (u f) (source_at sources f) (λ c. g f (ap (λ k. is_open k f) e ∙ open_is_hidden sources f ∙ c)) (s.each f l).given;
}

all_closed : (left : List Bool) (f : ℕ) → none_open left ≡ true → f < length left → is_open left f ≡ false
all_closed [] f h l = absurd (omega arith)
all_closed (true ∷ bs) f h l = cc
all_closed (false ∷ bs) zero h l = refl
all_closed (false ∷ bs) (suc f) h l = let m : f < length bs = omega arith in all_closed bs f h m

length_closed : (left : List Bool) (work : Work) → length (closed_by left work) ≡ length left
length_closed left Check = refl
length_closed left (Solve f signed c) = length-set left f false

length_after : (left : List Bool) (ss : List SolvingStep) → length (left_after left ss) ≡ length left
length_after left [] = refl
length_after left (s ∷ ss) = length_after (closed_by left s.work) ss ∙ length_closed left s.work

pub solution_of : (w : Setting) (n : ℕ) (sources : List Source) (hidden : List Bool) (es : List Equation) (ss : List SolvingStep) (u u' : ℕ → ℤ) → n ≡ length sources → hidden ≡ map is_hidden_source sources → none_open (left_after hidden ss) ≡ true
    → AreStarts w sources u → Solved w n hidden es ss u u' → IsSolution w sources es ss u'
solution_of w n sources hidden es ss u u' k e c s d =
    let a = subst (λ m. AreFields w.halves m u') k d.fields in
    record {
      fit = fit_of_agree w sources hidden u u' e s a (d.kept u' (λ g h. refl));
      satisfied = d.satisfied u' (λ g h. refl);
      only = λ v h i f l.
          d.only v (subst (λ m. AreFields w.halves m v) (sym k) h.fields) (agree_of_fit w sources hidden u v e s h) i f
          (all_closed (left_after hidden ss) f c (subst (λ m. f < m) (sym (length_after hidden ss ∙ ap length e ∙ length-map {B = Bool} sources is_hidden_source)) l));
    }

pub no_solution_of : (w : Setting) (n : ℕ) (sources : List Source) (hidden : List Bool) (es : List Equation) (ss : List SolvingStep) (u : ℕ → ℤ) (equation : ℕ) → n ≡ length sources → hidden ≡ map is_hidden_source sources
    → AreStarts w sources u → IsUnsolvable w n hidden es ss u equation → HasNoSolution w sources es ss equation
no_solution_of w n sources hidden es ss u equation k e s d = record {
  place = d.place;
  named = d.named;
  is_there = d.is_there;
  number = d.number;
  before = (d.before.0, fit_of_agree w sources hidden u d.before.0 e s (subst (λ m. AreFields w.halves m d.before.0) k d.before.1) d.before.2, d.before.3);
  after = λ c. d.after (c.0, subst (λ m. AreFields w.halves m c.0) (sym k) c.1.fields, agree_of_fit w sources hidden u c.0 e s c.1, c.2);
}

pub filled : (halves operands : List ℤ) (sources : List Source) (out : List ℤ) (i : ℕ) (h y y' : ℤ) → ((f : ℕ) → f < i → IsStart (at halves f) (at operands) (source_at sources f) (at out f)) → i < length out
    → h ≡ at halves i → IsStart h (at operands) (source_at sources i) y → y' ≡ y → (f : ℕ) → f < i + 1 → IsStart (at halves f) (at operands) (source_at sources f) (at (set out i y') f)
filled halves operands sources out i h y y' p b e s d f l = elim (cases_eq f i) as (λ _. IsStart (at halves f) (at operands) (source_at sources f) (at (set out i y') f)) [
  | inl q ↦ subst (λ k. IsStart (at halves k) (at operands) (source_at sources k) (at (set out i y') k)) (sym q)
      (subst (λ z. IsStart (at halves i) (at operands) (source_at sources i) z) (sym (get_or-set_same out i y' (pos 0) b ∙ d)) (subst (λ z. IsStart z (at operands) (source_at sources i) y) e s))
  | inr q ↦ let m : f < i = omega (arith, below f i q l) in
      subst (λ z. IsStart (at halves f) (at operands) (source_at sources f) z) (sym (get_or-set_other out i f y' (pos 0) q)) (p f m)
]
  where
    below : (f i : ℕ) → (f ≡ i → ⊥) → f < i + 1 → f < i
    below f i q l = omega arith

pub subst2 : {A B : Type 0} (P : A → B → Type 0) {a a' : A} {b b' : B} → a ≡ a' → b ≡ b' → P a b → P a' b'
subst2 P {a' = a'} {b = b} e d h = subst (P a') d (subst (λ x. P x b) e h)

pub subst4 : {A B C D : Type 0} (P : A → B → C → D → Type 0) {a a' : A} {b b' : B} {c c' : C} {d d' : D} → a ≡ a' → b ≡ b' → c ≡ c' → d ≡ d' → P a b c d → P a' b' c' d'
subst4 P {a' = a'} {b = b} {b' = b'} {c = c} {d = d} e f g i h = subst2 (P a' b') g i (subst2 (λ x y. P x y c d) e f h)
