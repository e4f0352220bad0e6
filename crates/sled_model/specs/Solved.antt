-- Whether a constructor's operands follow from its fields and labels.
use Rattle.std.specs.Prelude.{ℕ, ◌+◌, ◌-◌, ◌^◌, ◌≡◌, ◌==◌, ◌<◌, ◌⊎◌, nat_le, Bool, true, false, not, ◌&&◌, if◌then◌else◌, List, [], ◌∷◌, length, filter, All, slice_get, Some, ℤ, pos, ◌+ℤ◌, ◌-ℤ◌, ◌*ℤ◌}
use Rattle.std.specs.List.{flat_map}
use Rattle.token_bits.specs.declared.tokens.Tokens.{Tokens}
use Rattle.sled_model.specs.declared.constructor.OperandKind.{OperandKind}
use Rattle.sled_model.specs.declared.constructor.OperandKind.TheVariants.{Whole, Sliced}
use Rattle.sled_model.specs.declared.constructor.Atom.{Atom}
use Rattle.sled_model.specs.declared.constructor.Atom.TheVariants.{Name, Slice}
use Rattle.sled_model.specs.declared.constructor.Term.{Term}
use Rattle.sled_model.specs.declared.constructor.Equation.{Equation}
use Rattle.sled_model.specs.declared.constructor.Constructor.{Constructor}
use Rattle.sled_model.specs.Equations.{Setting, half_of, sum_of, IsBetween, AreFieldValues}

-- ---- one operand in each equation

abbrev pub is_operand_atom : Atom → Bool
is_operand_atom (Name k) = true
is_operand_atom (Slice k lo hi) = true
is_operand_atom _ = false

-- the terms of whole operands and of slices
abbrev pub operand_terms : Equation → List Term
operand_terms e = filter (λ (t : Term). is_operand_atom t.atom) e.terms

-- the other terms
abbrev pub given_terms : Equation → List Term
given_terms e = filter (λ (t : Term). not (is_operand_atom t.atom)) e.terms

-- the term is the equation's only one of a whole operand or of a slice, with coefficient 1
pub record IsTarget (e : Equation) (target : Term) : Type 0 where
  pub only : operand_terms e ≡ target ∷ []
  pub one : (target.coefficient ≡ pos 1) ⊎ (target.coefficient ≡ pos 0 -ℤ pos 1)

-- ---- the value that an equation gives

-- with the value x of its target the equation holds
abbrev pub GivesTarget : Setting → (ℕ → ℤ) → Equation → Term → ℤ → Type 0
GivesTarget setting fields e target x = (target.coefficient *ℤ x) +ℤ (sum_of setting fields (given_terms e) +ℤ e.rest) ≡ pos 0

-- the values of a whole operand, and of a slice, are between these
abbrev pub least_value : Atom → ℤ
least_value (Slice k lo hi) = pos 0
least_value _ = pos 0 -ℤ pos (2 ^ 34)

abbrev pub value_limit : Atom → ℤ
value_limit (Slice k lo hi) = pos (2 ^ (hi - lo + 1))
value_limit _ = pos (2 ^ 34)

-- each label is from 0 to 2 ^ 32 + 31
abbrev pub AreLabelValues : (ℕ → ℤ) → Type 0
AreLabelValues labels = (l : ℕ) → IsBetween (pos 0) (pos (2 ^ 32 + 32)) (labels l)

-- whatever values the fields and the labels have, the value that the equation gives its target is one that it can have
abbrev pub IsGivenInRange : Tokens → Equation → Term → Type 0
IsGivenInRange tokens e target = (setting : Setting) (fields : ℕ → ℤ) (x : ℤ) → setting.halves ≡ half_of tokens → AreFieldValues (half_of tokens) fields → AreLabelValues setting.labels
    → GivesTarget setting fields e target x → IsBetween (least_value target.atom) (value_limit target.atom) x

-- ---- operands from their equations

abbrev pub is_whole_of : ℕ → Atom → Bool
is_whole_of k (Name j) = j == k
is_whole_of k _ = false

-- the terms that hold all of operand k
abbrev pub whole_terms : List Equation → ℕ → List Term
whole_terms es k = flat_map (λ (e : Equation). filter (λ (t : Term). is_whole_of k t.atom) e.terms) es

abbrev pub is_bit_of : ℕ → ℕ → Atom → Bool
is_bit_of k bit (Slice j lo hi) = (j == k) && (nat_le lo bit && nat_le bit hi)
is_bit_of k bit _ = false

-- the terms that hold this bit of operand k
abbrev pub bit_terms : List Equation → ℕ → ℕ → List Term
bit_terms es k bit = flat_map (λ (e : Equation). filter (λ (t : Term). is_bit_of k bit t.atom) e.terms) es

-- a whole operand stands in one term, and so does each bit of a sliced one
abbrev pub IsHeldOnce : List Equation → ℕ → OperandKind → Type 0
IsHeldOnce es k Whole = length (whole_terms es k) ≡ 1
IsHeldOnce es k Sliced = (bit : ℕ) → bit < 32 → length (bit_terms es k bit) ≡ 1
IsHeldOnce es k _ = Unit {0}

-- each equation gives one operand, or slice of one, a value in its range
abbrev pub GivesOperand : Tokens → Equation → Type 0
GivesOperand tokens e = (target : Term) × IsTarget e target × IsGivenInRange tokens e target

-- condition 13: each equation gives an operand, or a slice of one, a value in range, and so each operand has one value
pub record IsSolved (tokens : Tokens) (c : Constructor) : Type 0 where
  pub gives : All (GivesOperand tokens) c.equations
  pub held : (k : ℕ) (kind : OperandKind) → slice_get c.operands k ≡ Some kind → IsHeldOnce c.equations k kind
