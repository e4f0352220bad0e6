-- Whole operands by their values.
use Rattle.std.specs.Prelude.{ℕ, ◌≡◌, ◌≢◌, ◌<◌, ◌≤◌, ◌+◌, ◌-◌, ◌*◌, ◌^◌, ◌⊎◌, if◌then◌else◌, List, [], ◌∷◌, length, slice_get, Option, Some, None, All, ℤ, pos, ◌+ℤ◌, unsigned_abs}
use Rattle.sled_model.specs.declared.constructor.Atom.{Atom}
use Rattle.sled_model.specs.declared.constructor.Atom.TheVariants.{Name, Slice}
use Rattle.eq_solver.specs.Pieces.{Piece}
use Rattle.eq_solver.specs.Pieces.{IsChain, assembled}
use Rattle.eq_solver.specs.Values.{is_slice_of}
use Rattle.eq_solver.specs.declared.plan.Value.{Value}
use Rattle.sled_model.specs.Equations.{Setting, sum_of, IsBetween}
use Rattle.sled_model.specs.Linear.{IsWithin}
use Rattle.eq_solver.specs.Sums.{at, IsTerm}

-- the operand of the target is in place, and so are the bits of a slice
abbrev pub IsTargetOf : ℕ → Atom → Type 0
IsTargetOf operands (Name k) = k < operands
IsTargetOf operands (Slice k lo hi) = (k < operands) × (lo ≤ hi) × (hi ≤ 31)
IsTargetOf operands _ = Unit {0}

-- the value is one of an operand, or a slice, by fields and labels alone
pub record IsPlaced (operands fields labels : ℕ) (g : Value) : Type 0 where
  pub target : IsTargetOf operands g.target
  pub terms : All (IsTerm [] fields labels) g.terms
  pub few : length g.terms ≤ 16
  pub rest : IsWithin (2 ^ 36) g.rest

abbrev pub value_at : Setting → (ℕ → ℤ) → Value → ℤ
value_at w fields g = sum_of w fields g.terms +ℤ g.rest

-- the operand has the value
abbrev pub HasValue : Setting → (ℕ → ℤ) → (ℕ → ℤ) → Value → Type 0
HasValue w fields operands g = (k : ℕ) → g.target ≡ Name k → operands k ≡ value_at w fields g

-- no operand has two values
abbrev pub AreApart : List Value → Type 0
AreApart gs = (i j k : ℕ) (g h : Value) → slice_get gs i ≡ Some g → slice_get gs j ≡ Some h → g.target ≡ Name k → h.target ≡ Name k → i ≡ j

-- where the value is one of a slice, the slice can have it
abbrev pub FitsSlice : Setting → (ℕ → ℤ) → Value → Atom → Type 0
FitsSlice w fields g (Slice k lo hi) = IsBetween (pos 0) (pos (2 ^ (hi - lo + 1))) (value_at w fields g)
FitsSlice w fields g _ = Unit {0}

-- what has been read of a sliced operand has room for one more slice
abbrev pub HasRoom : (ℕ → ℤ) → Atom → Type 0
HasRoom operands (Slice k lo hi) = IsBetween (pos 0) (pos (2 ^ (32 - (hi - lo + 1)))) (operands k)
HasRoom operands _ = Unit {0}

-- one more slice of the operand has been read, and all other operands are as before
abbrev pub HasSlice : ℤ → Atom → (ℕ → ℤ) → (ℕ → ℤ) → Type 0
HasSlice value (Slice k lo hi) old new = (new k ≡ pos (unsigned_abs (old k) * 2 ^ (hi - lo + 1) + unsigned_abs value)) × ((j : ℕ) → j ≢ k → new j ≡ old j)
HasSlice value _ old new = (j : ℕ) → new j ≡ old j

-- the slice of this value of operand k
abbrev pub piece_of : Setting → (ℕ → ℤ) → Value → Atom → Piece
piece_of w fields g (Slice k lo hi) = record { low = lo; width = hi - lo + 1; value = unsigned_abs (value_at w fields g) }
piece_of w fields g _ = record { low = 0; width = 0; value = 0 }

abbrev pub with_piece : Setting → (ℕ → ℤ) → ℕ → Option Value → List Piece → List Piece
with_piece w fields k None ps = ps
with_piece w fields k (Some g) ps = if is_slice_of k g.target then (piece_of w fields g g.target ∷ ps) else ps

-- the slices of operand k among the values of these numbers
abbrev pub pieces_of : Setting → (ℕ → ℤ) → List Value → ℕ → List ℕ → List Piece
pieces_of w fields gs k [] = []
pieces_of w fields gs k (n ∷ ns) = with_piece w fields k (slice_get gs n) (pieces_of w fields gs k ns)

-- operand k has no slices, and is as before, or it had been 0 and now is made of its slices
abbrev pub IsMadeOf : List Piece → ℤ → ℤ → Type 0
IsMadeOf ps old new = ((ps ≡ []) × (new ≡ old)) ⊎ ((old ≡ pos 0) × IsChain 32 ps × (new ≡ pos (assembled 0 ps)))
