-- What a plan tells of the fields.
use Rattle.std.specs.Prelude.{ℕ, ◌+◌, ◌≡◌, ◌<◌, Bool, true, false, List, length, get_or, take, slice_get, Some, ℤ, pos, ◌+ℤ◌, ◌-ℤ◌}
use Rattle.eq_solver.specs.declared.plan.Source.{Source}
use Rattle.eq_solver.specs.declared.plan.Source.TheVariants.{Hidden, Plain, Extended}
use Rattle.sled_model.specs.declared.constructor.Equation.{Equation}
use Rattle.eq_solver.specs.declared.plan.SolvingStep.{SolvingStep}
use Rattle.sled_model.specs.Equations.{Setting, sign_extended, IsBetween}
use Rattle.eq_solver.specs.Steps.{AreFields, StepsSatisfied}

-- where a bare field's value comes from
abbrev pub FitsSource : ℤ → (ℕ → ℤ) → ℤ → Source → Type 0
FitsSource half operands x Hidden = Unit {0}
FitsSource half operands x (Plain k) = x ≡ operands k
FitsSource half operands x (Extended k) = sign_extended half x ≡ operands k

-- the operand that gives a field is in its range
abbrev pub IsInRange : ℤ → (ℕ → ℤ) → Source → Type 0
IsInRange half operands Hidden = Unit {0}
IsInRange half operands (Plain k) = IsBetween (pos 0) (half +ℤ half) (operands k)
IsInRange half operands (Extended k) = IsBetween (pos 0 -ℤ half) half (operands k)

abbrev pub source_at : List Source → ℕ → Source
source_at sources f = get_or sources f Hidden

-- each field is in range and has the value that its operand gives
pub record CellsFit (w : Setting) (sources : List Source) (v : ℕ → ℤ) : Type 0 where
  pub fields : AreFields w.halves (length sources) v
  pub given : (f : ℕ) → f < length sources → FitsSource (w.halves f) w.operands (v f) (source_at sources f)

-- the only values of the fields with which every equation holds
pub record IsSolution (w : Setting) (sources : List Source) (es : List Equation) (ss : List SolvingStep) (u : ℕ → ℤ) : Type 0 where
  pub fit : CellsFit w sources u
  pub satisfied : StepsSatisfied w es u ss
  pub only : (v : ℕ → ℤ) → CellsFit w sources v → StepsSatisfied w es v ss → (f : ℕ) → f < length sources → v f ≡ u f

abbrev pub CanFit : Setting → List Source → List Equation → List SolvingStep → Type 0
CanFit w sources es ss = (v : ℕ → ℤ) × CellsFit w sources v × StepsSatisfied w es v ss

-- the equation is the first in solving order that has no common solution with those before it
pub record HasNoSolution (w : Setting) (sources : List Source) (es : List Equation) (ss : List SolvingStep) (equation : ℕ) : Type 0 where
  pub place : ℕ
  pub named : SolvingStep
  pub is_there : slice_get ss place ≡ Some named
  pub number : named.equation ≡ equation
  pub before : CanFit w sources es (take place ss)
  pub after : CanFit w sources es (take (place + 1) ss) → ⊥

abbrev pub is_hidden_source : Source → Bool
is_hidden_source Hidden = true
is_hidden_source (Plain k) = false
is_hidden_source (Extended k) = false
