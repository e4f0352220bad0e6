-- Single bytes under masks.
use Rattle.std.proofs.Common.{◌≡◌, ℕ, ◌<◌, get_or, replicate, sym, ap, ◌∙◌, arith, bit_and, bit_or, inl, inr}
use Rattle.std.proofs.lemmas.Nat.{and_comm, and_assoc}
use Rattle.std.proofs.lemmas.Nat.Bits.{bit_at_and, bit_at_or, same_from_bits}
use Rattle.std.specs.Int.{bit_at}
use Rattle.std.proofs.lemmas.List.{get_or-replicate, get_or_past}
use Rattle.std.proofs.lemmas.Bool.{cases_lt}

pub zeros : (k : ℕ) → k < 32 → get_or {A = ℕ} (replicate 32 0) k 0 ≡ 0
zeros k h = get_or-replicate 32 k 0 0 h

pub all_zeros : (k : ℕ) → get_or {A = ℕ} (replicate 32 0) k 0 ≡ 0
all_zeros k = elim (cases_lt k 32) [ inl lt ↦ zeros k lt | inr past ↦ get_or_past (replicate 32 0) k 0 past ]

pub and-or : (b m n : ℕ) → bit_and b (bit_or m n) ≡ bit_or (bit_and b m) (bit_and b n)
and-or b m n = same_from_bits (bit_and b (bit_or m n)) (bit_or (bit_and b m) (bit_and b n)) (λ i. simp (bit_at_and, bit_at_or) (omega arith))

-- what both ask is what the joined byte asks, where they want the same under both masks
module _ (b m n v u : ℕ) (vm : bit_and v m ≡ v) (un : bit_and u n ≡ u) where
  pub both-joined : bit_and b m ≡ v → bit_and b n ≡ u → bit_and b (bit_or m n) ≡ bit_or v u
  both-joined p q = and-or b m n ∙ ap (λ x. bit_or x (bit_and b n)) p ∙ ap (bit_or v) q

  pub both-same : bit_and b m ≡ v → bit_and b n ≡ u → bit_and v n ≡ bit_and u m
  both-same p q = ap (λ x. bit_and x n) (sym p) ∙ and_assoc n b m ∙ ap (bit_and b) (and_comm m n) ∙ sym (and_assoc m b n) ∙ ap (λ x. bit_and x m) q

  pub joined-first : bit_and v n ≡ bit_and u m → bit_and b (bit_or m n) ≡ bit_or v u → bit_and b m ≡ v
  joined-first s p = same_from_bits (bit_and b m) v (λ i.
      let a = ap (λ x. bit_at x i) p in let c = ap (λ x. bit_at x i) s in let d = ap (λ x. bit_at x i) vm in let e = ap (λ x. bit_at x i) un in
      let a' = simp (bit_at_and, bit_at_or) at a in let c' = simp bit_at_and at c in let d' = simp bit_at_and at d in let e' = simp bit_at_and at e in
      simp bit_at_and (omega arith))

  pub joined-second : bit_and v n ≡ bit_and u m → bit_and b (bit_or m n) ≡ bit_or v u → bit_and b n ≡ u
  joined-second s p = same_from_bits (bit_and b n) u (λ i.
      let a = ap (λ x. bit_at x i) p in let c = ap (λ x. bit_at x i) s in let d = ap (λ x. bit_at x i) vm in let e = ap (λ x. bit_at x i) un in
      let a' = simp (bit_at_and, bit_at_or) at a in let c' = simp bit_at_and at c in let d' = simp bit_at_and at d in let e' = simp bit_at_and at e in
      simp bit_at_and (omega arith))

  pub joined-under : bit_and (bit_or v u) (bit_or m n) ≡ bit_or v u
  joined-under = same_from_bits (bit_and (bit_or v u) (bit_or m n)) (bit_or v u) (λ i.
      let d = ap (λ x. bit_at x i) vm in let e = ap (λ x. bit_at x i) un in let d' = simp bit_at_and at d in let e' = simp bit_at_and at e in
      simp (bit_at_and, bit_at_or) (omega arith))
