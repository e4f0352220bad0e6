-- The solving order, and what its steps do.
use Rattle.std.specs.Prelude.{ℕ, zero, suc, ◌+◌, ◌<◌, ◌==◌, Bool, true, false, not, ◌&&◌, if◌then◌else◌, List, [], ◌∷◌, get_or, set, Option, Some, None, option_map, option_and_then, slice_get, ℤ}
use Rattle.sled_model.specs.declared.constructor.Atom.{Atom}
use Rattle.sled_model.specs.declared.constructor.Atom.TheVariants.{Name, Field, Signed, Slice, Label}
use Rattle.sled_model.specs.declared.constructor.Term.{Term}
use Rattle.sled_model.specs.declared.constructor.Equation.{Equation}
use Rattle.eq_solver.specs.declared.plan.SolvingStep.{SolvingStep}
use Rattle.eq_solver.specs.declared.plan.Work.{Work}
use Rattle.eq_solver.specs.declared.plan.Work.TheVariants.{Check, Solve}
use Rattle.eq_solver.specs.declared.plan.Open.{Open}
use Rattle.eq_solver.specs.declared.plan.Open.TheVariants.{Nothing, One, Many}
use Rattle.eq_solver.specs.declared.plan.Occurrence.{Occurrence}
use Rattle.eq_solver.specs.declared.plan.Occurrence.TheVariants.{Absent, Once, Often}
use Rattle.std.specs.Option.{option_map_or}
use Rattle.eq_solver.specs.Order.{is_open}
use Rattle.eq_solver.specs.Steps.{closed_by}

-- one more open field, that may stand already
abbrev pub with_field : Open → ℕ → Open
with_field Nothing f = One f
with_field (One g) f = if g == f then One g else Many
with_field Many f = Many

abbrev pub with_field_if : Open → ℕ → Bool → Open
with_field_if found f true = with_field found f
with_field_if found f false = found

abbrev pub with_atom : List Bool → Open → Atom → Open
with_atom left found (Field f) = with_field_if found f.0 (is_open left f.0)
with_atom left found (Signed f) = with_field_if found f.0 (is_open left f.0)
with_atom left found (Name k) = found
with_atom left found (Slice k lo hi) = found
with_atom left found (Label k) = found

-- what is open in a sum: nothing, one field (however often it stands), or more
abbrev pub open_from : List Bool → Open → List Term → Open
open_from left found [] = found
open_from left found (t ∷ ts) = open_from left (with_atom left found t.atom) ts

abbrev pub open_of : List Bool → List Term → Open
open_of left ts = open_from left Nothing ts

abbrev pub is_few : Open → Bool
is_few Nothing = true
is_few (One f) = true
is_few Many = false

-- the first equation, from number k on, that is not taken and holds at most one open field
abbrev pub next_open_equation : List Bool → List Bool → ℕ → List Equation → Option ℕ
next_open_equation taken left k [] = None
next_open_equation taken left k (e ∷ es) = if not (get_or taken k false) && is_few (open_of left e.terms) then Some k else next_open_equation taken left (k + 1) es

abbrev pub closed : List Bool → Open → List Bool
closed left (One f) = set left f false
closed left Nothing = left
closed left Many = left

-- what is open in the equation of this number
abbrev pub open_at : List Equation → List Bool → ℕ → Open
open_at es left k = option_map_or (λ (e : Equation). open_of left e.terms) (slice_get es k) Nothing

-- the solving order, for n more equations
abbrev pub cell_order : ℕ → List Equation → List Bool → List Bool → List ℕ
cell_order zero es taken left = []
cell_order (suc n) es taken left =
    option_map_or (λ k. k ∷ cell_order n es (set taken k true) (closed left (open_at es left k))) (next_open_equation taken left 0 es) []

-- how a field stands in a sum: not at all, in one term, or in more
abbrev pub one_more : Occurrence → Bool → ℤ → Occurrence
one_more Absent signed c = Once signed c
one_more (Once s d) signed c = Often
one_more Often signed c = Often

abbrev pub occurrence_if : Occurrence → Bool → Bool → ℤ → Occurrence
occurrence_if found true signed c = one_more found signed c
occurrence_if found false signed c = found

abbrev pub occurrence_with : ℕ → Occurrence → ℤ → Atom → Occurrence
occurrence_with f found c (Field g) = occurrence_if found (g.0 == f) false c
occurrence_with f found c (Signed g) = occurrence_if found (g.0 == f) true c
occurrence_with f found c (Name k) = found
occurrence_with f found c (Slice k lo hi) = found
occurrence_with f found c (Label k) = found

abbrev pub occurrence_from : ℕ → Occurrence → List Term → Occurrence
occurrence_from f found [] = found
occurrence_from f found (t ∷ ts) = occurrence_from f (occurrence_with f found t.coefficient t.atom) ts

abbrev pub occurrence_work : ℕ → Occurrence → Option Work
occurrence_work f (Once signed c) = Some (Solve f signed c)
occurrence_work f Absent = None
occurrence_work f Often = None

-- what a step does with an equation, if the field that it determines stands in one term
abbrev pub work_for : Open → List Term → Option Work
work_for Nothing ts = Some Check
work_for (One f) ts = occurrence_work f (occurrence_from f Absent ts)
work_for Many ts = None

abbrev pub work_at : List Equation → List Bool → ℕ → Option Work
work_at es left k = option_and_then (λ (e : Equation). work_for (open_of left e.terms) e.terms) (slice_get es k)

-- the next step, if there is one
abbrev pub next_step : List Equation → List Bool → List Bool → Option SolvingStep
next_step es taken left = option_and_then (λ k. option_map (λ (work : Work). record { equation = k; work = work }) (work_at es left k)) (next_open_equation taken left 0 es)

abbrev pub none_open : List Bool → Bool
none_open [] = true
none_open (b ∷ bs) = not b && none_open bs

-- the steps, where the order takes every equation and determines every field
abbrev pub plan_from : ℕ → List Equation → List Bool → List Bool → Option (List SolvingStep)
plan_from zero es taken left = if none_open left then Some [] else None
plan_from (suc n) es taken left =
    option_and_then (λ (s : SolvingStep). option_map (λ ss. s ∷ ss) (plan_from n es (set taken s.equation true) (closed_by left s.work))) (next_step es taken left)

-- the field that the step determines is below n
abbrev pub IsWorkOf : ℕ → Work → Type 0
IsWorkOf n Check = Unit {0}
IsWorkOf n (Solve f signed c) = f < n

abbrev pub IsOpenOf : ℕ → Open → Type 0
IsOpenOf n (One f) = f < n
IsOpenOf n Nothing = Unit {0}
IsOpenOf n Many = Unit {0}
