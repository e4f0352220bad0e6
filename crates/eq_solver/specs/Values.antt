-- The values of a constructor's operands, and their targets in order.
use Rattle.std.specs.Prelude.{ℕ, ◌+◌, ◌≡◌, ◌==◌, ◌<◌, ◌≤◌, Bool, true, false, ◌&&◌, List, [], ◌∷◌, ◌++◌, All, length, filter, map, slice_get, Option, Some}
use Rattle.std.specs.Option.{option_map_or}
use Rattle.token_bits.specs.declared.tokens.Tokens.{Tokens}
use Rattle.sled_model.specs.declared.constructor.OperandKind.{OperandKind}
use Rattle.sled_model.specs.declared.constructor.OperandKind.TheVariants.{Whole, Sliced}
use Rattle.sled_model.specs.declared.constructor.Atom.{Atom}
use Rattle.sled_model.specs.declared.constructor.Atom.TheVariants.{Slice}
use Rattle.sled_model.specs.declared.constructor.Equation.{Equation}
use Rattle.sled_model.specs.declared.constructor.Constructor.{Constructor}
use Rattle.sled_model.specs.Solved.{is_whole_of, is_bit_of}
use Rattle.eq_solver.specs.declared.plan.Value.{Value}
use Rattle.eq_solver.specs.Ranges.{IsValueOf}

-- one value for each equation, in order
pub record AreValuesOf (tokens : Tokens) (es : List Equation) (gs : List Value) : Type 0 where
  pub one_each : length gs ≡ length es
  pub each : (i : ℕ) (e : Equation) (g : Value) → slice_get es i ≡ Some e → slice_get gs i ≡ Some g → IsValueOf tokens e g

-- a whole operand is one target, and each bit of a sliced one is in one
abbrev pub IsHeldBy : List Atom → ℕ → OperandKind → Type 0
IsHeldBy targets k Whole = length (filter (λ (a : Atom). is_whole_of k a) targets) ≡ 1
IsHeldBy targets k Sliced = (bit : ℕ) → bit < 32 → length (filter (λ (a : Atom). is_bit_of k bit a) targets) ≡ 1
IsHeldBy targets k _ = Unit {0}

abbrev pub AreHeld : List Atom → List OperandKind → Type 0
AreHeld targets kinds = (k : ℕ) (kind : OperandKind) → slice_get kinds k ≡ Some kind → IsHeldBy targets k kind

-- the slice of operand k ends below bit `top`
abbrev pub is_ending : ℕ → ℕ → Atom → Bool
is_ending k top (Slice j lo hi) = (j == k) && (hi + 1 == top)
is_ending k top _ = false

abbrev pub is_slice_of : ℕ → Atom → Bool
is_slice_of k (Slice j lo hi) = j == k
is_slice_of k _ = false

abbrev pub low_of : Atom → ℕ
low_of (Slice j lo hi) = lo
low_of _ = 0

-- the target of this number is a slice of operand k that ends below bit `top`
abbrev pub IsFound : List Atom → ℕ → ℕ → ℕ → Type 0
IsFound targets k top i = (a : Atom) × (slice_get targets i ≡ Some a) × (is_ending k top a ≡ true)

-- the targets of these numbers are slices of operand k, from below bit `top` down to bit `bottom`, each where the one before ends
abbrev pub IsChain : List Atom → ℕ → ℕ → ℕ → List ℕ → Type 0
IsChain targets k top bottom [] = top ≡ bottom
IsChain targets k top bottom (n ∷ ns) = (a : Atom) × (slice_get targets n ≡ Some a) × (is_ending k top a ≡ true) × IsChain targets k (low_of a) bottom ns

abbrev pub is_slice_number : List Atom → ℕ → ℕ → Bool
is_slice_number targets k n = option_map_or (is_slice_of k) (slice_get targets n) false

-- numbers of targets: those of the slices of each sliced operand, from the highest bit down
pub record AreSlices (targets : List Atom) (kinds : List OperandKind) (numbers : List ℕ) : Type 0 where
  pub within : All (λ (n : ℕ). n < length targets) numbers
  pub chains : (k : ℕ) → slice_get kinds k ≡ Some Sliced → IsChain targets k 32 0 (filter (is_slice_number targets k) numbers)

-- the chain of the operand, if it is sliced, stands at the end, and nothing else
pub record AddsSlices (targets : List Atom) (k : ℕ) (kind : OperandKind) (old new : List ℕ) : Type 0 where
  pub added : List ℕ
  pub appended : new ≡ old ++ added
  pub chain : (kind ≡ Sliced) → IsChain targets k 32 0 added
  pub own : All (λ (n : ℕ). is_slice_number targets k n ≡ true) added

-- condition 13 is met, with these values of the equations and this order of slices
pub record IsSolvedBy (tokens : Tokens) (c : Constructor) (gs : List Value) (slices : List ℕ) : Type 0 where
  pub values : AreValuesOf tokens c.equations gs
  pub held : AreHeld (map (λ (g : Value). g.target) gs) c.operands
  pub slices_order : AreSlices (map (λ (g : Value). g.target) gs) c.operands slices
