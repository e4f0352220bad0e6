-- The steps of a plan.
use Rattle.std.specs.Prelude.{ℕ, ◌+◌, ◌^◌, ◌≡◌, ◌≢◌, ◌<◌, Bool, true, false, List, [], ◌∷◌, length, set, ℤ, pos, ◌+ℤ◌, ◌*ℤ◌, slice_get, Some, take}
use Rattle.std.specs.Bool.{MatchBool}
use Rattle.sled_model.specs.declared.constructor.Equation.{Equation}
use Rattle.eq_solver.specs.declared.plan.Work.{Work}
use Rattle.eq_solver.specs.declared.plan.Work.TheVariants.{Check, Solve}
use Rattle.eq_solver.specs.declared.plan.SolvingStep.{SolvingStep}
use Rattle.sled_model.specs.Equations.{Setting, IsSatisfied, sign_extended, IsBetween}
use Rattle.sled_model.specs.Linear.{IsWithin}
use Rattle.eq_solver.specs.Order.{is_open, share, AreOpenAtMost, AreClosed, Agree}

-- a field's value, or its sign-extended value
abbrev pub as_read : Bool → ℤ → ℤ → ℤ
as_read false half x = x
as_read true half x = sign_extended half x

-- x is in range, and with this coefficient makes up for the total
pub record IsRoot (half : ℤ) (signed : Bool) (coefficient total x : ℤ) : Type 0 where
  pub range : IsBetween (pos 0) (half +ℤ half) x
  pub root : (coefficient *ℤ as_read signed half x) +ℤ total ≡ pos 0

pub record IsOnlyRoot (half : ℤ) (signed : Bool) (coefficient total y : ℤ) : Type 0 where
  pub is : IsRoot half signed coefficient total y
  pub only : (x : ℤ) → IsRoot half signed coefficient total x → x ≡ y

pub record IsOnlyRead (half : ℤ) (signed : Bool) (read y : ℤ) : Type 0 where
  pub range : IsBetween (pos 0) (half +ℤ half) y
  pub is : as_read signed half y ≡ read
  pub only : (x : ℤ) → IsBetween (pos 0) (half +ℤ half) x → as_read signed half x ≡ read → x ≡ y

pub record IsQuotient (coefficient total y : ℤ) : Type 0 where
  pub is : coefficient *ℤ y ≡ total
  pub within : IsWithin (2 ^ 55) y
  pub only : (x : ℤ) → coefficient *ℤ x ≡ total → x ≡ y

-- each field has a value in its range
pub record AreFields (halves : ℕ → ℤ) (n : ℕ) (v : ℕ → ℤ) : Type 0 where
  pub each : (f : ℕ) → f < n → IsBetween (pos 0) (halves f +ℤ halves f) (v f)

pub record IsSolving (halves : ℕ → ℤ) (left : List Bool) (e : Equation) (f : ℕ) (signed : Bool) (c : ℤ) : Type 0 where
  pub open_field : is_open left f ≡ true
  pub within : f < length left
  pub others : AreOpenAtMost left f e.terms
  pub coefficient : IsWithin (2 ^ 16) c
  pub nonzero : c ≢ pos 0
  pub share_is : (x : ℤ) → share (halves f) f x e.terms ≡ c *ℤ as_read signed (halves f) x

-- the step can be made where these fields are open
abbrev pub IsStep : (ℕ → ℤ) → List Bool → Equation → Work → Type 0
IsStep halves left e Check = AreClosed left e.terms
IsStep halves left e (Solve f signed c) = IsSolving halves left e f signed c

abbrev pub closed_by : List Bool → Work → List Bool
closed_by left Check = left
closed_by left (Solve f signed c) = set left f false

-- the values that agree with u' are those that agree with u and satisfy the equation
pub record Advances (w : Setting) (n : ℕ) (left next : List Bool) (e : Equation) (u u' : ℕ → ℤ) : Type 0 where
  pub fields : AreFields w.halves n u'
  pub only : (v : ℕ → ℤ) → AreFields w.halves n v → Agree left v u → IsSatisfied w v e → Agree next v u'
  pub kept : (v : ℕ → ℤ) → Agree next v u' → Agree left v u
  pub satisfied : (v : ℕ → ℤ) → Agree next v u' → IsSatisfied w v e

-- no values that agree with u satisfy the equation
abbrev pub Sticks : Setting → ℕ → List Bool → Equation → (ℕ → ℤ) → Type 0
Sticks w n left e u = (v : ℕ → ℤ) → AreFields w.halves n v → Agree left v u → IsSatisfied w v e → ⊥

-- the numbers of a step are in place
abbrev pub IsWork : ℕ → Work → Type 0
IsWork n Check = Unit {0}
IsWork n (Solve f signed c) = (f < n) × IsWithin (2 ^ 16) c × (c ≢ pos 0)

-- what one step finds, wherever it can be made
abbrev pub Finds : Setting → ℕ → Equation → Work → (ℕ → ℤ) → (ℕ → ℤ) → Bool → Type 0
Finds w n e work u u' found = (left : List Bool) → IsStep w.halves left e work → length left ≡ n → MatchBool found (Advances w n left (closed_by left work) e u u') (Sticks w n left e u)

-- ---- all steps

abbrev pub left_after : List Bool → List SolvingStep → List Bool
left_after left [] = left
left_after left (s ∷ ss) = left_after (closed_by left s.work) ss

-- each step can be made where those before it were
abbrev pub AreSteps : (ℕ → ℤ) → List Equation → List Bool → List SolvingStep → Type 0
AreSteps halves es left [] = Unit {0}
AreSteps halves es left (s ∷ ss) = ((e : Equation) → slice_get es s.equation ≡ Some e → IsStep halves left e s.work) × AreSteps halves es (closed_by left s.work) ss

abbrev pub StepsSatisfied : Setting → List Equation → (ℕ → ℤ) → List SolvingStep → Type 0
StepsSatisfied w es v [] = Unit {0}
StepsSatisfied w es v (s ∷ ss) = ((e : Equation) → slice_get es s.equation ≡ Some e → IsSatisfied w v e) × StepsSatisfied w es v ss

-- the open fields have values in range that satisfy the equations of these steps
abbrev pub CanSatisfySteps : Setting → ℕ → List Bool → List Equation → (ℕ → ℤ) → List SolvingStep → Type 0
CanSatisfySteps w n left es u ss = (v : ℕ → ℤ) × AreFields w.halves n v × Agree left v u × StepsSatisfied w es v ss

-- after these steps u' holds the only such values
pub record Solved (w : Setting) (n : ℕ) (left : List Bool) (es : List Equation) (ss : List SolvingStep) (u u' : ℕ → ℤ) : Type 0 where
  pub fields : AreFields w.halves n u'
  pub only : (v : ℕ → ℤ) → AreFields w.halves n v → Agree left v u → StepsSatisfied w es v ss → Agree (left_after left ss) v u'
  pub kept : (v : ℕ → ℤ) → Agree (left_after left ss) v u' → Agree left v u
  pub satisfied : (v : ℕ → ℤ) → Agree (left_after left ss) v u' → StepsSatisfied w es v ss

-- the equation of this number is the first that has no common solution with those before it
pub record IsUnsolvable (w : Setting) (n : ℕ) (left : List Bool) (es : List Equation) (ss : List SolvingStep) (u : ℕ → ℤ) (equation : ℕ) : Type 0 where
  pub place : ℕ
  pub named : SolvingStep
  pub is_there : slice_get ss place ≡ Some named
  pub number : named.equation ≡ equation
  pub before : CanSatisfySteps w n left es u (take place ss)
  pub after : CanSatisfySteps w n left es u (take (place + 1) ss) → ⊥
