-- Two cases joined, byte by byte.
use Rattle.std.proofs.Common.{◌≡◌, ℕ, ◌<◌, ◌≤◌, ◌↔◌, ◌≢◌, ◌+◌, max, List, get_or, set, get_or-set_other, get_or-set_same, below_more, length, ap, ◌∙◌, arith, bit_or}
use Rattle.bit_cases.specs.Bits.{Meets, IsUnderMask, IsShort, SameUnderBoth}
use Rattle.bit_cases.proofs.Bytes.{both-joined, both-same, joined-first, joined-second, joined-under}

-- each byte of the one is the bits of both
abbrev pub IsOrOf : List ℕ → List ℕ → List ℕ → Type 0
IsOrOf m n mask = (k : ℕ) → k < 32 → get_or mask k 0 ≡ bit_or (get_or m k 0) (get_or n k 0)

pub record Joins (m v n u mask value : List ℕ) : Type 0 where
  pub masks : IsOrOf m n mask
  pub values : IsOrOf v u value
  pub under : IsUnderMask m v
  pub others : IsUnderMask n u
  pub same : (k : ℕ) → k < 32 → SameUnderBoth m v n u k

module _ (m v n u mask value : List ℕ) (j : Joins m v n u mask value) where
  pub under_mask : IsUnderMask mask value
  under_mask k h = rw (j.masks k h, j.values k h) (joined-under (get_or v k 0) (get_or m k 0) (get_or n k 0) (get_or v k 0) (get_or u k 0) (j.under k h) (j.others k h))

  pub short : (a b : ℕ) → IsShort m a → IsShort n b → IsShort mask (max a b)
  short a b p q k h l = j.masks k h ∙ ap (λ x. bit_or x (get_or n k 0)) (p k h (omega arith)) ∙ ap (bit_or 0) (q k h (omega arith))

  pub met : (a b : ℕ) (window : List ℕ) → Meets mask value (max a b) window ↔ (Meets m v a window × Meets n u b window)
  met a b window = (
    λ g. (
      (omega arith, λ k h. joined-first (get_or window k 0) (get_or m k 0) (get_or n k 0) (get_or v k 0) (get_or u k 0) (j.under k h) (j.others k h) (j.same k h) (rw (← j.masks k h, ← j.values k h) (g.1 k h))),
      (omega arith, λ k h. joined-second (get_or window k 0) (get_or m k 0) (get_or n k 0) (get_or v k 0) (get_or u k 0) (j.under k h) (j.others k h) (j.same k h) (rw (← j.masks k h, ← j.values k h) (g.1 k h))),
    ),
    λ g. (omega arith, λ k h. rw (j.masks k h, j.values k h) (both-joined (get_or window k 0) (get_or m k 0) (get_or n k 0) (get_or v k 0) (get_or u k 0) (j.under k h) (j.others k h) (g.0.1 k h) (g.1.1 k h))),
  )

-- one more byte of the joined list
module _ (m n xs : List ℕ) (i : ℕ) (within : i < length xs) (rest : (j : ℕ) → i ≤ j → get_or xs j 0 ≡ get_or m j 0) where
  pub next_below : ((j : ℕ) → j < i → get_or xs j 0 ≡ bit_or (get_or m j 0) (get_or n j 0))
      → (j : ℕ) → j < i + 1 → get_or (set xs i (bit_or (get_or xs i 0) (get_or n i 0))) j 0 ≡ bit_or (get_or m j 0) (get_or n j 0)
  next_below below = below_more _ _
      (λ j h. let ne : j ≢ i = omega arith in rw get_or-set_other (below j h))
      (rw get_or-set_same (ap (λ x. bit_or x (get_or n i 0)) (rest i (omega arith))))

  pub next_rest : (j : ℕ) → i + 1 ≤ j → get_or (set xs i (bit_or (get_or xs i 0) (get_or n i 0))) j 0 ≡ get_or m j 0
  next_rest j h = let ne : j ≢ i = omega arith in rw get_or-set_other (rest j (omega arith))

-- no window meets both where they want different bits
pub none_meets : (m v n u : List ℕ) → IsUnderMask m v → IsUnderMask n u → ((k : ℕ) × (k < 32) × ¬ SameUnderBoth m v n u k) → (a b : ℕ) (w : List ℕ) → Meets m v a w → Meets n u b w → ⊥
none_meets m v n u under others (k, h, differ) a b w p q =
    differ (both-same (get_or w k 0) (get_or m k 0) (get_or n k 0) (get_or v k 0) (get_or u k 0) (under k h) (others k h) (p.1 k h) (q.1 k h))
