-- Numbers that are given bit by bit.
use Rattle.std.proofs.Common.{ℕ, zero, suc, ◌+◌, ◌-◌, ◌*◌, ◌/◌, ◌%◌, ◌^◌, ◌≡◌, ◌<◌, ◌≤◌, ◌⊎◌, inl, inr, sym, ap, ◌∙◌, subst, arith}
use Rattle.std.specs.Int.{bit_at}
use Rattle.std.proofs.Math.Nat.{mod-lt, mod-eq_of_lt, div-add-mod', one-le-pow}
use Rattle.std.proofs.lemmas.Bool.{cases_lt}
use Rattle.std.proofs.lemmas.Nat.Bits.{bit_at_lowest, bit_at_cat_low, bit_at_cat_high, same_from_bits_below}
use Rattle.token_bits.specs.Tokens.{bits_of}
use Rattle.token_bits.proofs.BitsLemmas.{cat_below}

pub pow_pos : (k : ℕ) → 0 < 2 ^ k
pow_pos k = let h = one-le-pow k 2 (omega arith) in omega arith

-- a number's bits below a place, and from it on
bit_at-low : (n k i : ℕ) → i < k → bit_at n i ≡ bit_at (n % 2 ^ k) i
bit_at-low n k i h = ap (λ m. bit_at m i) (sym (div-add-mod' n (2 ^ k))) ∙ bit_at_cat_low (n / 2 ^ k) k (n % 2 ^ k) i h

bit_at-high : (n k i : ℕ) → k ≤ i → bit_at n i ≡ bit_at (n / 2 ^ k) (i - k)
bit_at-high n k i h = ap (λ m. bit_at m i) (sym (div-add-mod' n (2 ^ k))) ∙ bit_at_cat_high (n / 2 ^ k) k (n % 2 ^ k) i (mod-lt n (pow_pos k)) h

-- bit j of a number is a bit of each slice that holds it
pub bit_of_slice : (lo hi n j : ℕ) → lo ≤ j → j ≤ hi → bit_at (bits_of lo hi n) (j - lo) ≡ bit_at n j
bit_of_slice lo hi n j low high = let within : j - lo < hi - lo + 1 = omega arith in sym (bit_at-high n lo j low ∙ bit_at-low (n / 2 ^ lo) (hi - lo + 1) (j - lo) within)

pub slice_below : (lo hi n : ℕ) → bits_of lo hi n < 2 ^ (hi - lo + 1)
slice_below lo hi n = mod-lt (n / 2 ^ lo) (pow_pos (hi - lo + 1))

-- a slice that has the bits of a number is the number
pub slice_is : (lo hi n value : ℕ) → lo ≤ hi → value < 2 ^ (hi - lo + 1) → ((j : ℕ) → lo ≤ j → j ≤ hi → bit_at value (j - lo) ≡ bit_at n j) → bits_of lo hi n ≡ value
slice_is lo hi n value order below same =
    same_from_bits_below (hi - lo + 1) (bits_of lo hi n) value (slice_below lo hi n) below
    (λ i within.
    let low : lo ≤ lo + i = omega arith in let high : lo + i ≤ hi = omega (arith, within, order) in let back : lo + i - lo ≡ i = omega arith in
    ap (bit_at (bits_of lo hi n)) (sym back) ∙ bit_of_slice lo hi n (lo + i) low high ∙ sym (same (lo + i) low high) ∙ ap (bit_at value) back)

-- x has these bits, and none from bit n on
pub record HasBits (bits : ℕ → ℕ) (n x : ℕ) : Type 0 where
  pub below : x < 2 ^ n
  pub each : (i : ℕ) → i < n → bit_at x i ≡ bits i

module _ (bits : ℕ → ℕ) (small : (i : ℕ) → bits i < 2) where
  with_bit : (n x i : ℕ) → HasBits bits n x → i < suc n → (i < n) ⊎ (n ≤ i) → bit_at (bits n * 2 ^ n + x) i ≡ bits i
  with_bit n x i h l (inl low) = bit_at_cat_low (bits n) n x i low ∙ h.each i low
  with_bit n x i h l (inr high) =
      let same : n ≡ i = omega (arith, l, high) in let none : i - n ≡ 0 = omega (arith, l, high) in
      bit_at_cat_high (bits n) n x i h.below high ∙ ap (bit_at (bits n)) none ∙ bit_at_lowest (bits n) ∙ mod-eq_of_lt (small n) ∙ ap bits same

  pub number_from : (n : ℕ) → (x : ℕ) × HasBits bits n x
  number_from zero = (0, record { below = pow_pos zero; each = λ i l. absurd (omega (arith, l)) })
  number_from (suc n) =
      let r = number_from n in
      let one : bits n < 2 ^ 1 = (let b = small n in omega (arith, b)) in
      let more : 1 + n ≡ suc n = omega arith in (
        bits n * 2 ^ n + r.0,
        record {
          below = subst (λ e. bits n * 2 ^ n + r.0 < 2 ^ e) more (cat_below (bits n) 1 r.0 n one r.1.below);
          each = λ i l. with_bit n r.0 i r.1 l (cases_lt i n);
        },
      )
