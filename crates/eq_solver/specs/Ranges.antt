-- The values that an equation gives its operand, over all values of fields and labels.
use Rattle.std.specs.Prelude.{ℕ, ◌+◌, ◌^◌, ◌≡◌, Bool, true, false, List, [], ◌∷◌, length, All, ◌≤◌, ◌⊎◌, ℤ, pos, ◌+ℤ◌, ◌-ℤ◌, ◌≤ℤ◌}
use Rattle.token_bits.specs.declared.tokens.Tokens.{Tokens}
use Rattle.sled_model.specs.declared.constructor.Atom.{Atom}
use Rattle.sled_model.specs.declared.constructor.Atom.TheVariants.{Name, Field, Signed, Slice, Label}
use Rattle.sled_model.specs.declared.constructor.Term.{Term}
use Rattle.sled_model.specs.declared.constructor.Equation.{Equation}
use Rattle.sled_model.specs.Equations.{Setting, half_of, sum_of, IsBetween, AreFieldValues}
use Rattle.sled_model.specs.Solved.{is_operand_atom, least_value, value_limit, AreLabelValues, IsTarget, IsGivenInRange}
use Rattle.sled_model.specs.Linear.{IsWithin}
use Rattle.eq_solver.specs.declared.plan.Value.{Value}
use Rattle.eq_solver.specs.declared.ranges.Unknowns.{Unknowns}
use Rattle.eq_solver.specs.declared.ranges.Unknowns.TheVariants.{Fields, Labels}
use Rattle.eq_solver.specs.Corners.{best_of}
use Rattle.eq_solver.specs.Isolated.{others, Gives}

-- half of how many values each unknown has
abbrev pub halves_of : Tokens → Unknowns → ℕ → ℤ
halves_of tokens Fields k = half_of tokens k
halves_of tokens Labels k = pos (2 ^ 31 + 16)

-- fields alone: operands and labels are 0
abbrev pub still : (ℕ → ℤ) → Setting
still halves = record { halves = halves; operands = λ k. pos 0; labels = λ l. pos 0 }

-- the values of the fields that give a sum most
abbrev pub most_at : (ℕ → ℤ) → List Term → ℕ → ℤ
most_at halves ts f = best_of (halves f) f ts

abbrev pub label_term : ℤ → Atom → List Term → List Term
label_term c (Label l) rest = record { coefficient = c; atom = Field (record { 0 = l }) } ∷ rest
label_term c _ rest = rest

-- the terms of labels, which stand as fields
abbrev pub label_terms : List Term → List Term
label_terms [] = []
label_terms (t ∷ ts) = label_term t.coefficient t.atom (label_terms ts)

-- fields and labels have values that they can have
pub record AreInRange (tokens : Tokens) (setting : Setting) (fields : ℕ → ℤ) : Type 0 where
  pub halves : setting.halves ≡ half_of tokens
  pub fields_range : AreFieldValues (half_of tokens) fields
  pub labels_range : AreLabelValues setting.labels

-- the greatest value that a sum has
pub record IsGreatest (tokens : Tokens) (ts : List Term) (greatest : ℤ) : Type 0 where
  pub most : (setting : Setting) (fields : ℕ → ℤ) → AreInRange tokens setting fields → sum_of setting fields ts ≤ℤ greatest
  pub setting : Setting
  pub fields : ℕ → ℤ
  pub range : AreInRange tokens setting fields
  pub reached : sum_of setting fields ts ≡ greatest

-- whatever values fields and labels have, that of the sum is one that the target can have
abbrev pub StaysInRange : Tokens → Value → Type 0
StaysInRange tokens g = (setting : Setting) (fields : ℕ → ℤ) → AreInRange tokens setting fields → IsBetween (least_value g.target) (value_limit g.target) (sum_of setting fields g.terms +ℤ g.rest)

-- terms of fields and labels, with small coefficients
abbrev pub IsGivenTerm : Term → Type 0
IsGivenTerm t = IsWithin (2 ^ 16) t.coefficient × (is_operand_atom t.atom ≡ false)

-- sixteen of them at most
pub record AreGivenTerms (ts : List Term) : Type 0 where
  pub each : All IsGivenTerm ts
  pub few : length ts ≤ 16

-- the bits of a slice are in order
abbrev pub IsInOrder : Atom → Type 0
IsInOrder (Slice k lo hi) = (lo ≤ hi) × (hi ≤ 31)
IsInOrder _ = Unit {0}

-- the value of the equation's target, by fields and labels, always in range
pub record IsValueOf (tokens : Tokens) (e : Equation) (g : Value) : Type 0 where
  pub target : Term
  pub is_target : IsTarget e target
  pub named : g.target ≡ target.atom
  pub order : IsInOrder g.target
  pub gives : Gives e g
  pub terms : AreGivenTerms g.terms
  pub turn : Bool
  pub terms_are : g.terms ≡ others turn e.terms
  pub rest : IsWithin (2 ^ 36) g.rest
  pub in_range : IsGivenInRange tokens e target
  pub range : StaysInRange tokens g

-- the term is the only one, with coefficient 1 or -1
abbrev pub IsOnlyUnit : List Term → Term → Type 0
IsOnlyUnit ts target = (ts ≡ target ∷ []) × ((target.coefficient ≡ pos 1) ⊎ (target.coefficient ≡ pos 0 -ℤ pos 1))

-- sixteen terms with small coefficients at most, and the bits of slices in order
pub record IsPlainEquation (e : Equation) : Type 0 where
  pub coefficients : All (λ (t : Term). IsWithin (2 ^ 16) t.coefficient) e.terms
  pub orders : All (λ (t : Term). IsInOrder t.atom) e.terms
  pub few : length e.terms ≤ 16
  pub rest : IsWithin (2 ^ 36) e.rest
