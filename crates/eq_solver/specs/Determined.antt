-- The order takes every equation and determines every field.
use Rattle.std.specs.Prelude.{ℕ, ◌≡◌, ◌≢◌, ◌^◌, Bool, true, List, [], ◌∷◌, length, map, slice_get, Some, ℤ, pos}
use Rattle.sled_model.specs.declared.constructor.Equation.{Equation}
use Rattle.sled_model.specs.declared.constructor.Term.{Term}
use Rattle.eq_solver.specs.declared.plan.SolvingStep.{SolvingStep}
use Rattle.sled_model.specs.Linear.{IsWithin}
use Rattle.eq_solver.specs.Sums.{IsFieldOf}
use Rattle.eq_solver.specs.Steps.{AreSteps, left_after}
use Rattle.eq_solver.specs.declared.plan.Open.TheVariants.{One}
use Rattle.eq_solver.specs.declared.plan.Occurrence.TheVariants.{Absent, Once}
use Rattle.eq_solver.specs.Solving.{open_at, closed, cell_order, none_open, occurrence_from, open_of}

-- what is open after these equations
abbrev pub left_by : List Equation → List Bool → List ℕ → List Bool
left_by es left [] = left
left_by es left (k ∷ ks) = left_by es (closed left (open_at es left k)) ks

-- the field that an equation determines stands in it in one term
abbrev pub IsSingle : List Bool → Equation → Type 0
IsSingle left e = (f : ℕ) → open_of left e.terms ≡ One f → (signed : Bool) × (c : ℤ) × (occurrence_from f Absent e.terms ≡ Once signed c)

abbrev pub AreSingle : List Equation → List Bool → List ℕ → Type 0
AreSingle es left [] = Unit {0}
AreSingle es left (k ∷ ks) = ((e : Equation) → slice_get es k ≡ Some e → IsSingle left e) × AreSingle es (closed left (open_at es left k)) ks

pub record DeterminesAll (n : ℕ) (es : List Equation) (taken left : List Bool) : Type 0 where
  pub takes : length (cell_order n es taken left) ≡ n
  pub determines : none_open (left_by es left (cell_order n es taken left)) ≡ true
  pub single : AreSingle es left (cell_order n es taken left)

-- the fields of the terms are in place
abbrev pub AreFieldsOf : ℕ → List Term → Type 0
AreFieldsOf n [] = Unit {0}
AreFieldsOf n (t ∷ ts) = IsFieldOf n t.atom × AreFieldsOf n ts

abbrev pub AreCoefficients : List Term → Type 0
AreCoefficients [] = Unit {0}
AreCoefficients (t ∷ ts) = (IsWithin (2 ^ 16) t.coefficient × (t.coefficient ≢ pos 0)) × AreCoefficients ts

-- each equation has fields in place and coefficients
abbrev pub AreGood : ℕ → List Equation → Type 0
AreGood n es = (k : ℕ) (e : Equation) → slice_get es k ≡ Some e → AreFieldsOf n e.terms × AreCoefficients e.terms

-- a plan's steps are the equations in solving order, each can be made in its place, and they leave nothing open
pub record IsPlan (halves : ℕ → ℤ) (n : ℕ) (es : List Equation) (taken left : List Bool) (ss : List SolvingStep) : Type 0 where
  pub steps : AreSteps halves es left ss
  pub order : map (λ (s : SolvingStep). s.equation) ss ≡ cell_order n es taken left
  pub closed_all : none_open (left_after left ss) ≡ true
  pub all_taken : length ss ≡ n
