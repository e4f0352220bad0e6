-- A round of the search for the steps.
use Rattle.std.proofs.Common.{ℕ, suc, ◌+◌, ◌-◌, ◌≡◌, ◌<◌, Bool, true, false, List, [], ◌∷◌, ◌++◌, length, set, Option, Some, None, option_map, option_and_then, refl, ap, sym, ◌∙◌, arith, append_assoc, length-set}
use Rattle.sled_model.specs.declared.constructor.Equation.{Equation}
use Rattle.eq_solver.specs.declared.plan.SolvingStep.{SolvingStep}
use Rattle.eq_solver.specs.declared.plan.Work.{Work}
use Rattle.eq_solver.specs.declared.plan.Work.TheVariants.{Check, Solve}
use Rattle.eq_solver.specs.Steps.{closed_by}
use Rattle.eq_solver.specs.Solving.{next_step, plan_from}

pushed : (steps : List SolvingStep) (s : SolvingStep) (o : Option (List SolvingStep)) → option_map (λ rest. steps ++ rest) (option_map (λ ss. s ∷ ss) o) ≡ option_map (λ rest. (steps ++ s ∷ []) ++ rest) o
pushed steps s None = refl
pushed steps s (Some ss) = ap Some (sym (append_assoc steps (s ∷ []) ss))

abbrev Takes : List SolvingStep → ℕ → List Equation → List Bool → List Bool → Option SolvingStep → Option (List SolvingStep)
Takes steps n es taken left o = option_map (λ rest. steps ++ rest) (option_and_then (λ (s : SolvingStep). option_map (λ ss. s ∷ ss) (plan_from n es (set taken s.equation true) (closed_by left s.work))) o)

pub plan_more : (n r : ℕ) (whole : Option (List SolvingStep)) (es : List Equation) (taken left taken' left' : List Bool) (steps steps' : List SolvingStep) (s : SolvingStep) → r < n
    → whole ≡ option_map (λ rest. steps ++ rest) (plan_from (n - r) es taken left) → Some s ≡ next_step es taken left → taken' ≡ set taken s.equation true → left' ≡ closed_by left s.work → steps' ≡ steps ++ s ∷ []
    → whole ≡ option_map (λ rest. steps' ++ rest) (plan_from (n - (r + 1)) es taken' left')
plan_more n r whole es taken left taken' left' steps steps' s b h q t l p =
    let k : n - r ≡ suc (n - (r + 1)) = omega arith in
    h ∙ ap (λ m. option_map (λ rest. steps ++ rest) (plan_from m es taken left)) k ∙ ap (Takes steps (n - (r + 1)) es taken left) (sym q)
    ∙ pushed steps s (plan_from (n - (r + 1)) es (set taken s.equation true) (closed_by left s.work))
    ∙ ap (λ z. option_map (λ rest. z ++ rest) (plan_from (n - (r + 1)) es (set taken s.equation true) (closed_by left s.work))) (sym p)
    ∙ ap (λ z. option_map (λ rest. steps' ++ rest) (plan_from (n - (r + 1)) es z (closed_by left s.work))) (sym t)
    ∙ ap (λ z. option_map (λ rest. steps' ++ rest) (plan_from (n - (r + 1)) es taken' z)) (sym l)

pub length_closed : (left : List Bool) (work : Work) → length (closed_by left work) ≡ length left
length_closed left Check = refl
length_closed left (Solve f signed c) = length-set left f false
