-- The first values of the fields.
use Rattle.std.specs.Prelude.{ℕ, ◌≡◌, ◌<◌, ℤ, pos, ◌+ℤ◌, ◌⊎◌, ◌^◌, ◌+◌, length, map, All, true, List}
use Rattle.eq_solver.specs.declared.plan.Source.{Source}
use Rattle.eq_solver.specs.declared.plan.Source.TheVariants.{Hidden, Plain, Extended}
use Rattle.sled_model.specs.Equations.{IsBetween}
use Rattle.eq_solver.specs.Plans.{FitsSource, IsInRange, source_at, is_hidden_source}
use Rattle.eq_solver.specs.declared.plan.Plan.{Plan}
use Rattle.sled_model.specs.Linear.{IsWithin}
use Rattle.eq_solver.specs.Sums.{at, IsEquation}
use Rattle.eq_solver.specs.Steps.{IsWork, AreSteps, left_after}
use Rattle.eq_solver.specs.Solving.{none_open}
use Rattle.eq_solver.specs.declared.plan.SolvingStep.{SolvingStep}

abbrev pub IsSourceOf : ℕ → Source → Type 0
IsSourceOf n Hidden = Unit {0}
IsSourceOf n (Plain k) = k < n
IsSourceOf n (Extended k) = k < n

-- in range, as given, and where something is given the only such value
pub record IsStart (half : ℤ) (operands : ℕ → ℤ) (source : Source) (y : ℤ) : Type 0 where
  pub range : IsBetween (pos 0) (half +ℤ half) y
  pub given : FitsSource half operands y source
  pub only : (x : ℤ) → IsBetween (pos 0) (half +ℤ half) x → FitsSource half operands x source → (source ≡ Hidden) ⊎ (x ≡ y)

-- the operands and labels suit the plan's constructor
pub record Suits (plan : Plan) (operands labels : List ℤ) : Type 0 where
  pub sources : All (IsSourceOf (length operands)) plan.sources
  pub range : (f : ℕ) → f < length plan.sources → IsInRange (at plan.halves f) (at operands) (source_at plan.sources f)
  pub operand : (k : ℕ) → IsWithin (2 ^ 34) (at operands k)
  pub label : (k : ℕ) → IsWithin (2 ^ 34) (at labels k)
  pub equations : All (IsEquation operands (length plan.sources) (length labels)) plan.equations

-- the plan is one
pub record IsSound (plan : Plan) : Type 0 where
  pub one_each : length plan.halves ≡ length plan.sources
  pub half : (k : ℕ) → k < length plan.halves → IsBetween (pos 1) (pos (2 ^ 31 + 1)) (at plan.halves k)
  pub hidden : plan.hidden ≡ map is_hidden_source plan.sources
  pub work : All (λ (s : SolvingStep). (s.equation < length plan.equations) × IsWork (length plan.sources) s.work) plan.steps
  pub steps : AreSteps (at plan.halves) plan.equations plan.hidden plan.steps
  pub closed_all : none_open (left_after plan.hidden plan.steps) ≡ true
