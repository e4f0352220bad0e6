-- What the sums of a plan stand among. In a plan a field is named by its cell: its place among the bare fields of the body.
use Rattle.std.specs.Prelude.{ℕ, ◌+◌, ◌^◌, ◌≡◌, ◌<◌, ◌≤◌, List, length, get_or, ℤ, pos, ◌+ℤ◌, All}
use Rattle.sled_model.specs.declared.constructor.Atom.{Atom}
use Rattle.sled_model.specs.declared.constructor.Atom.TheVariants.{Name, Field, Signed, Slice, Label}
use Rattle.sled_model.specs.declared.constructor.Term.{Term}
use Rattle.sled_model.specs.declared.constructor.Equation.{Equation}
use Rattle.sled_model.specs.Equations.{Setting, IsBetween}
use Rattle.sled_model.specs.Linear.{IsWithin}

abbrev pub at : List ℤ → ℕ → ℤ
at xs k = get_or xs k (pos 0)

abbrev pub setting_from : List ℤ → List ℤ → List ℤ → Setting
setting_from halves operands labels = record { halves = at halves; operands = at operands; labels = at labels }

-- the numbers of an atom are in place, and an operand that is sliced has 32 bits
abbrev pub IsAtom : List ℤ → ℕ → ℕ → Atom → Type 0
IsAtom operands fields labels (Name k) = k < length operands
IsAtom operands fields labels (Field f) = f.0 < fields
IsAtom operands fields labels (Signed f) = f.0 < fields
IsAtom operands fields labels (Slice k lo hi) = (k < length operands) × (lo ≤ hi) × (hi ≤ 31) × IsBetween (pos 0) (pos (2 ^ 32)) (at operands k)
IsAtom operands fields labels (Label k) = k < labels

pub record IsTerm (operands : List ℤ) (fields labels : ℕ) (t : Term) : Type 0 where
  pub coefficient : IsWithin (2 ^ 16) t.coefficient
  pub atom : IsAtom operands fields labels t.atom

-- what a sum is taken among: n fields, each with a half and a value in its range
pub record AreValues (halves operands labels fields : List ℤ) : Type 0 where
  pub one_each : length halves ≡ length fields
  pub half : (k : ℕ) → k < length halves → IsBetween (pos 1) (pos (2 ^ 31 + 1)) (at halves k)
  pub operand : (k : ℕ) → IsWithin (2 ^ 34) (at operands k)
  pub label : (k : ℕ) → IsWithin (2 ^ 34) (at labels k)
  pub field : (k : ℕ) → k < length halves → IsBetween (pos 0) (at halves k +ℤ at halves k) (at fields k)

pub record IsEquation (operands : List ℤ) (fields labels : ℕ) (e : Equation) : Type 0 where
  pub terms : All (IsTerm operands fields labels) e.terms
  pub few : length e.terms ≤ 16
  pub rest : IsWithin (2 ^ 36) e.rest

-- the atom's field, if it is about one, is below n
abbrev pub IsFieldOf : ℕ → Atom → Type 0
IsFieldOf n (Field f) = f.0 < n
IsFieldOf n (Signed f) = f.0 < n
IsFieldOf n (Name k) = Unit {0}
IsFieldOf n (Slice k lo hi) = Unit {0}
IsFieldOf n (Label k) = Unit {0}
