-- Equations: sums over operands, fields and labels that have to be 0.
use Rattle.std.specs.Prelude.{ℕ, ◌+◌, ◌-◌, ◌/◌, ◌%◌, ◌^◌, ◌≡◌, ◌≤◌, if◌then◌else◌, List, [], ◌∷◌, All, ℤ, pos, negsuc, ◌+ℤ◌, ◌-ℤ◌, ◌*ℤ◌, ◌≤ℤ◌, ◌<ℤ◌, int_lt}
use Rattle.token_bits.specs.declared.tokens.Tokens.{Tokens}
use Rattle.sled_model.specs.declared.constructor.Atom.{Atom}
use Rattle.sled_model.specs.declared.constructor.Atom.TheVariants.{Name, Field, Signed, Slice, Label}
use Rattle.sled_model.specs.declared.constructor.Term.{Term}
use Rattle.sled_model.specs.declared.constructor.Equation.{Equation}
use Rattle.sled_model.specs.Measures.{width_at}

-- what an equation stands among besides the values of fields: half of how many values each field has, and the values of operands and
-- labels, each by its number
pub record Setting : Type 0 where
  pub halves : ℕ → ℤ
  pub operands : ℕ → ℤ
  pub labels : ℕ → ℤ

-- half of how many values the field of this number has
abbrev pub half_of : Tokens → ℕ → ℤ
half_of tokens f = pos (2 ^ (width_at tokens (record { 0 = f }) - 1))

-- a field's value with its sign extended: those in the upper half stand for negative numbers
abbrev pub sign_extended : ℤ → ℤ → ℤ
sign_extended half x = if int_lt x half then x else x -ℤ (half +ℤ half)

-- the bits lo to hi of a number: floor(x / 2 ^ lo) mod 2 ^ (hi - lo + 1)
abbrev pub slice_of : ℕ → ℕ → ℤ → ℤ
slice_of lo hi (pos n) = pos (n / 2 ^ lo % 2 ^ (hi - lo + 1))
slice_of lo hi (negsuc n) = pos (2 ^ (hi - lo + 1) - 1 - n / 2 ^ lo % 2 ^ (hi - lo + 1))

abbrev pub atom_value : Setting → (ℕ → ℤ) → Atom → ℤ
atom_value setting fields (Name k) = setting.operands k
atom_value setting fields (Field f) = fields f.0
atom_value setting fields (Signed f) = sign_extended (setting.halves f.0) (fields f.0)
atom_value setting fields (Slice k lo hi) = slice_of lo hi (setting.operands k)
atom_value setting fields (Label k) = setting.labels k

-- the sum of coefficient times atom
abbrev pub sum_of : Setting → (ℕ → ℤ) → List Term → ℤ
sum_of setting fields [] = pos 0
sum_of setting fields (t ∷ ts) = (t.coefficient *ℤ atom_value setting fields t.atom) +ℤ sum_of setting fields ts

-- the sum of the terms, plus the rest, is 0
abbrev pub IsSatisfied : Setting → (ℕ → ℤ) → Equation → Type 0
IsSatisfied setting fields e = sum_of setting fields e.terms +ℤ e.rest ≡ pos 0

abbrev pub EachSatisfied : Setting → (ℕ → ℤ) → List Equation → Type 0
EachSatisfied setting fields es = All (IsSatisfied setting fields) es

-- low is at most x, and x is below high
pub record IsBetween (low high x : ℤ) : Type 0 where
  pub at_least : low ≤ℤ x
  pub below : x <ℤ high

-- each field has one of its values
abbrev pub AreFieldValues : (ℕ → ℤ) → (ℕ → ℤ) → Type 0
AreFieldValues halves fields = (f : ℕ) → IsBetween (pos 0) (halves f +ℤ halves f) (fields f)
