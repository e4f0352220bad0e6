-- Bytes among zeros.
use Rattle.std.proofs.Common.{◌≡◌, ℕ, ◌+◌, ◌-◌, ◌<◌, ◌≤◌, ◌↔◌, List, get_or, length, arith, bit_and, inl, inr, refl}
use Rattle.std.proofs.lemmas.Bool.{cases_lt}
use Rattle.std.specs.Int.Bits.{and_zero_r}
use Rattle.bit_cases.specs.Bits.{Meets, MeetsAt, AreUnder, IsUnderMask, IsShort, IsMoved}

-- what holds before, among and behind the bytes holds everywhere
pub everywhere : (o n : ℕ) (P : ℕ → Type 0) → ((k : ℕ) → k < o → P k) → ((k : ℕ) → k < n → P (o + k)) → ((k : ℕ) → o + n ≤ k → P k) → (k : ℕ) → P k
everywhere o n P before there behind k =
    elim (cases_lt k o) [
      | inl lt ↦ before k lt
      | inr ge ↦ elim (cases_lt k (o + n)) [
        | inl lt ↦ (let same : o + (k - o) ≡ k = omega arith in rw (← same) (there (k - o) (omega arith)))
        | inr past ↦ behind k past
      ]
    ]

module _ (o : ℕ) (m v mask value : List ℕ) (moved : IsMoved o m mask) (others : IsMoved o v value) (same : length v ≡ length m) (under : AreUnder m v) where
  pub under_mask : IsUnderMask mask value
  under_mask k h = everywhere o (length m) (λ j. bit_and (get_or value j 0) (get_or mask j 0) ≡ get_or value j 0)
      (λ j l. rw (moved.before j l, others.before j l) refl)
      (λ j l. rw (moved.there j l, others.there j (omega arith)) (under j l))
      (λ j l. rw (moved.behind j l, others.behind j (omega arith)) refl) k

  pub short : IsShort mask (o + length m)
  short k h l = moved.behind k l

  pub met : o + length m ≤ 32 → (w : List ℕ) → Meets mask value (o + length m) w ↔ MeetsAt o m v w
  met within w = (
    λ g. (g.0, λ k l. (rw (← moved.there k l, ← others.there k (omega arith)) (g.1 (o + k) (omega arith)))),
    λ g. (
      g.0,
      λ k h. everywhere o (length m) (λ j. bit_and (get_or w j 0) (get_or mask j 0) ≡ get_or value j 0)
          (λ j l. rw (moved.before j l, others.before j l) (and_zero_r _))
          (λ j l. rw (moved.there j l, others.there j (omega arith)) (g.1 j l))
          (λ j l. rw (moved.behind j l, others.behind j (omega arith)) (and_zero_r _)) k,
    ),
  )
