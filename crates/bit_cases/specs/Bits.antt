-- Bytes under a mask.
use Rattle.std.specs.Prelude.{ℕ, zero, suc, Bool, true, ◌&&◌, ◌==◌, nat_le, ◌≡◌, ◌<◌, ◌≤◌, ◌+◌, length, List, bit_and, slice_index}

-- the byte at k has the wanted bits under the mask
abbrev pub AgreesAt : List ℕ → List ℕ → List ℕ → ℕ → Type 0
AgreesAt mask value window k = bit_and (slice_index window k) (slice_index mask k) ≡ slice_index value k

-- the window has so many bytes, and they agree under the mask
abbrev pub Meets : List ℕ → List ℕ → ℕ → List ℕ → Type 0
Meets mask value len window = (len ≤ length window) × ((k : ℕ) → k < 32 → AgreesAt mask value window k)

-- no bit is wanted that the mask lacks
abbrev pub IsUnderMask : List ℕ → List ℕ → Type 0
IsUnderMask mask value = (k : ℕ) → k < 32 → bit_and (slice_index value k) (slice_index mask k) ≡ slice_index value k

-- nothing is asked of the bytes from len on
abbrev pub IsShort : List ℕ → ℕ → Type 0
IsShort mask len = (k : ℕ) → k < 32 → len ≤ k → slice_index mask k ≡ 0

-- under both masks the two want the same of byte k
abbrev pub SameUnderBoth : List ℕ → List ℕ → List ℕ → List ℕ → ℕ → Type 0
SameUnderBoth m v n u k = bit_and (slice_index v k) (slice_index n k) ≡ bit_and (slice_index u k) (slice_index m k)

-- no bit of these bytes is wanted that their mask lacks
abbrev pub AreUnder : List ℕ → List ℕ → Type 0
AreUnder mask value = (k : ℕ) → k < length mask → bit_and (slice_index value k) (slice_index mask k) ≡ slice_index value k

-- the window has so many bytes from offset on, and they agree under the mask
abbrev pub MeetsAt : ℕ → List ℕ → List ℕ → List ℕ → Type 0
MeetsAt offset mask value window = (offset + length mask ≤ length window) × ((k : ℕ) → k < length mask → bit_and (slice_index window (offset + k)) (slice_index mask k) ≡ slice_index value k)

-- the bytes from offset on, with zeros before and behind them
pub record IsMoved (offset : ℕ) (bytes all : List ℕ) : Type 0 where
  pub before : (k : ℕ) → k < offset → slice_index all k ≡ 0
  pub there : (k : ℕ) → k < length bytes → slice_index all (offset + k) ≡ slice_index bytes k
  pub behind : (k : ℕ) → offset + length bytes ≤ k → slice_index all k ≡ 0

-- p holds of each number below n
unfoldable pub all_below : ℕ → (ℕ → Bool) → Bool
all_below zero p = true
all_below (suc n) p = all_below n p && p n

-- Meets, as a test
unfoldable pub meets : List ℕ → List ℕ → ℕ → List ℕ → Bool
meets mask value len window =
    nat_le len (length window) && all_below 32 (λ k. bit_and (slice_index window k) (slice_index mask k) == slice_index value k)
