-- Bits that were not tested.
use Rattle.std.proofs.Common.{◌≡◌, ◌≢◌, ℕ, ◌+◌, ◌-◌, ◌/◌, ◌%◌, ◌^◌, ◌<◌, ◌≤◌, max, false, List, [], ◌∷◌, slice_get, slice_index, get_or-set_other, Some, None, sym, ap, ◌∙◌, arith, bit_and, bit_or, inl, inr, w8}
use Rattle.std.specs.Int.{bit_at, bit_not}
use Rattle.std.specs.Option.{option_map_or}
use Rattle.std.proofs.lemmas.Bool.{cases_lt, leb-true}
use Rattle.std.proofs.lemmas.Nat.Bits.{bit_at_and, bit_at_not, bit_at-lt, bit_at-zero, bit_at_above, bit_at_mask_below, bit_at_mask_above, same_from_bits}
use Rattle.std.proofs.lemmas.Nat.{leading_top}
use Rattle.std.proofs.Math.Nat.{div-eq_of_lt-le}
use lib.Count.{count_leading_zeros}
use Rattle.bit_cases.specs.declared.byte_case.ByteCase.{ByteCase}
use Rattle.decision_tree.specs.Building.{IsSure, IsUntested, AreUntested, block, stays, stays_at, kept, tested_more}
use Rattle.decision_tree.proofs.Splits.{each_filter}

-- a run of open bits was not tested
pub run_untested : (m t shift width : ℕ) → t < 256 → shift + width ≤ 8 → ((k : ℕ) → shift ≤ k → k < shift + width → bit_at (bit_and m (bit_not w8 t)) k ≡ 1) → bit_and t (block shift width) ≡ 0
run_untested m t shift width small fits ones = same_from_bits (bit_and t (block shift width)) 0 (λ i. bit i)
  where
    bit : (i : ℕ) → bit_at (bit_and t (block shift width)) i ≡ bit_at 0 i
    bit i = elim (cases_lt i shift) [
      | inl l ↦ (let none = bit_at_mask_below shift (width + shift) i l in let z = bit_at-zero i in simp bit_at_and (omega (arith, none, z)))
      | inr g ↦ elim (cases_lt i (width + shift)) [
        | inl l ↦ (
            let one = simp bit_at_and at (ones i g (omega arith)) in let flip = bit_at_not w8 t i small (omega arith) in let z = bit_at-zero i in let b = bit_at-lt t i in
            simp bit_at_and (omega (arith, one, flip, z, b)))
        | inr h ↦ (let none = bit_at_mask_above shift (width + shift) i h in let z = bit_at-zero i in simp bit_at_and (omega (arith, none, z)))
      ]
    ]

-- and is under the mask
pub run_under : (m t shift width : ℕ) → ((k : ℕ) → shift ≤ k → k < shift + width → bit_at (bit_and m (bit_not w8 t)) k ≡ 1) → bit_and m (block shift width) ≡ block shift width
run_under m t shift width ones = same_from_bits (bit_and m (block shift width)) (block shift width) (λ i. bit i)
  where
    bit : (i : ℕ) → bit_at (bit_and m (block shift width)) i ≡ bit_at (block shift width) i
    bit i = elim (cases_lt i shift) [
      | inl l ↦ (let none = bit_at_mask_below shift (width + shift) i l in simp bit_at_and (omega (arith, none)))
      | inr g ↦ elim (cases_lt i (width + shift)) [
        | inl l ↦ (let one = simp bit_at_and at (ones i g (omega arith)) in let b = bit_at-lt (block shift width) i in simp bit_at_and (omega (arith, one, b)))
        | inr h ↦ (let none = bit_at_mask_above shift (width + shift) i h in simp bit_at_and (omega (arith, none)))
      ]
    ]

-- where no bit is open, all were tested
pub none_open : (m t : ℕ) → m < 256 → t < 256 → bit_and m (bit_not w8 t) ≡ 0 → bit_and m t ≡ m
none_open m t low small e = same_from_bits (bit_and m t) m (λ i. bit i)
  where
    bit : (i : ℕ) → bit_at (bit_and m t) i ≡ bit_at m i
    bit i = elim (cases_lt i 8) [
      | inl l ↦ (let a = simp bit_at_and at (ap (λ x. bit_at x i) e) in let flip = bit_at_not w8 t i small l in let z = bit_at-zero i in let b = bit_at-lt t i in let d = bit_at-lt m i in
          simp bit_at_and (omega (arith, a, flip, z, b, d)))
      | inr g ↦ (let none = bit_at_above m 8 i low g in simp bit_at_and (omega (arith, none)))
    ]

pub zero_untested : (t shift width : ℕ) → t ≡ 0 → bit_and t (block shift width) ≡ 0
zero_untested t shift width e = ap (λ x. bit_and x (block shift width)) e ∙ same_from_bits (bit_and 0 (block shift width)) 0 (λ i. let z = bit_at-zero i in simp bit_at_and (omega (arith, z)))

-- where the bytes of the case were tested, all bytes were
pub all_tested_at : (tested : List ℕ) (c : ByteCase) → ((j : ℕ) → j < c.len → bit_and (slice_index c.mask j) (slice_index tested j) ≡ slice_index c.mask j)
    → (j : ℕ) → j < 32 → bit_and (slice_index c.mask j) (slice_index tested j) ≡ slice_index c.mask j
all_tested_at tested c all j h = elim (cases_lt j c.len) [
  | inl l ↦ all j l
  | inr k ↦ (let z = c.short j h k in ap (λ x. bit_and x (slice_index tested j)) z ∙ same_from_bits (bit_and 0 (slice_index tested j)) 0 (λ i. let y = bit_at-zero i in simp bit_at_and (omega (arith, y))) ∙ sym z)
]

-- a case with no open bit, that is not sure, has its last byte untested
pub last_untested : (tested : List ℕ) (least : ℕ) (c : ByteCase) → ((j : ℕ) → j < c.len → bit_and (slice_index c.mask j) (slice_index tested j) ≡ slice_index c.mask j) → (IsSure tested least c → ⊥) → IsUntested tested least c
    → (0 < c.len) × (slice_index tested (c.len - 1) ≡ 0)
last_untested tested least c all open' untested = elim (cases_lt least c.len) [
  | inl l ↦ (omega arith, untested (c.len - 1) (omega arith) (omega arith))
  | inr g ↦ absurd (open' (record { long = g; all = all_tested_at tested c all }))
]

module _ (cases : List ByteCase) (tested : List ℕ) (byte shift width least : ℕ) where
  other : (j : ℕ) → j ≢ byte → slice_index (tested_more byte shift width tested) j ≡ slice_index tested j
  other j ne = get_or-set_other tested byte j (bit_or (slice_index tested byte) (block shift width)) 0 ne

  pub untested_kid : (v : ℕ) (ks : List ℕ) → AreUntested cases ks tested least → AreUntested cases (kept cases byte shift width (Some v) ks) (tested_more byte shift width tested) (max least (byte + 1))
  untested_kid v ks u = each_filter (λ k. (c : ByteCase) → slice_get cases k ≡ Some c → IsUntested tested least c) (λ k. (c : ByteCase) → slice_get cases k ≡ Some c → IsUntested (tested_more byte shift width tested) (max least (byte + 1)) c)
      (stays_at cases byte shift width (Some v)) (λ k e p c at j l h. other j (omega arith) ∙ p c at j (omega arith) h) ks u

  pub untested_short : (ks : List ℕ) → AreUntested cases ks tested least → AreUntested cases (kept cases byte shift width None ks) (tested_more byte shift width tested) least
  untested_short ks u = each_filter (λ k. (c : ByteCase) → slice_get cases k ≡ Some c → IsUntested tested least c) (λ k. (c : ByteCase) → slice_get cases k ≡ Some c → IsUntested (tested_more byte shift width tested) least c)
      (stays_at cases byte shift width None) (λ k e p c at j l h. (
      let short : c.len ≤ byte = leb-true c.len byte (ap (λ o. option_map_or (stays byte shift width None) o false) (sym at) ∙ e) in
      other j (omega arith) ∙ p c at j l h)) ks u

pub untested_first : (cases : List ByteCase) (ks : List ℕ) (tested : List ℕ) → ((j : ℕ) → j < 32 → slice_index tested j ≡ 0) → AreUntested cases ks tested 0
untested_first cases [] tested z = tt
untested_first cases (k ∷ ks) tested z = (λ c at j l h. z j (omega (arith, c.at_most_32)), untested_first cases ks tested z)

-- the place of the highest one
pub highest_one : (a : ℕ) → 0 < a → a < 2 ^ 8 → (count_leading_zeros 8 a < 8) × (bit_at a (7 - count_leading_zeros 8 a) ≡ 1)
highest_one a some small =
    let top = leading_top 8 a some small in
    let place : 7 - count_leading_zeros 8 a ≡ top.0 = omega (arith, top.1) in
    let quotient : a / 2 ^ top.0 ≡ 1 = div-eq_of_lt-le (2 ^ top.0) (omega (arith, top.2)) (omega (arith, top.3)) in
    (omega (arith, top.1), ap (bit_at a) place ∙ ap (λ (x : ℕ). x % 2) quotient)
