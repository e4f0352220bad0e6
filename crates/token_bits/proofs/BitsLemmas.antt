-- Numbers with some of their bits put anew.
use Rattle.std.proofs.Common.{ℕ, ◌≡◌, ◌+◌, ◌-◌, ◌*◌, ◌/◌, ◌%◌, ◌^◌, ◌<◌, ◌≤◌, ◌⊎◌, inl, inr, sym, ap, ◌∙◌, subst, arith}
use Rattle.std.specs.Int.{bit_at}
use Rattle.std.proofs.Math.Nat.{add-mul, mul-le-mul_right, one-le-pow, mod-lt, div-add-mod', div-lt_iff_lt-mul, mod-eq_of_lt, pow-le-pow_right}
use Rattle.std.proofs.lemmas.Nat.{pow-add, div-mul-add, mod-mul-add}
use Rattle.std.proofs.lemmas.Nat.Bits.{bit_at_cat_low, bit_at_cat_high, same_from_bits_below}
use Rattle.token_bits.specs.Tokens.{bits_of}
use Rattle.token_bits.specs.Bytes.{with_bits}

pow_pos : (k : ℕ) → 0 < 2 ^ k
pow_pos k = let h = one-le-pow k 2 (omega arith) in omega arith

-- bits in front of k others
pub cat_below : (a p b k : ℕ) → a < 2 ^ p → b < 2 ^ k → a * 2 ^ k + b < 2 ^ (p + k)
cat_below a p b k ha hb =
    let top : (a + 1) * 2 ^ k ≤ 2 ^ p * 2 ^ k = mul-le-mul_right (2 ^ k) (omega arith) in
    let expand : (a + 1) * 2 ^ k ≡ a * 2 ^ k + 1 * 2 ^ k = add-mul a 1 (2 ^ k) in
    rw (pow-add 2 p k) (omega arith)

-- what is left above some bits
pub shifted_below : (n w k : ℕ) → k ≤ w → n < 2 ^ w → n / 2 ^ k < 2 ^ (w - k)
shifted_below n w k le h =
    (div-lt_iff_lt-mul {k = 2 ^ k} {x = n} {y = 2 ^ (w - k)} (pow_pos k)).1
    (subst (λ (m : ℕ). n < m) (ap (λ e. 2 ^ e) (let e : w ≡ (w - k) + k = omega arith in e) ∙ pow-add 2 (w - k) k) h)

module _ (lo hi : ℕ) (order : lo ≤ hi) (value : ℕ) (fits : value < 2 ^ (hi - lo + 1)) (n : ℕ) where
  above_below : (w : ℕ) → hi < w → n < 2 ^ w → n / 2 ^ (hi + 1) * 2 ^ (hi - lo + 1) + value < 2 ^ (w - (hi + 1) + (hi - lo + 1))
  above_below w within h = cat_below (n / 2 ^ (hi + 1)) (w - (hi + 1)) value (hi - lo + 1) (shifted_below n w (hi + 1) (omega arith) h) fits

  pub with_bits_below : (w : ℕ) → hi < w → n < 2 ^ w → with_bits lo hi value n < 2 ^ w
  with_bits_below w within h =
      subst (λ (e : ℕ). with_bits lo hi value n < 2 ^ e) (let e : w - (hi + 1) + (hi - lo + 1) + lo ≡ w = omega arith in e)
      (cat_below (n / 2 ^ (hi + 1) * 2 ^ (hi - lo + 1) + value) (w - (hi + 1) + (hi - lo + 1)) (n % 2 ^ lo) lo (above_below w within h) (mod-lt n (pow_pos lo)))

  pub with_bits_reads : bits_of lo hi (with_bits lo hi value n) ≡ value
  with_bits_reads =
      ap (λ m. m % 2 ^ (hi - lo + 1)) (div-mul-add (n / 2 ^ (hi + 1) * 2 ^ (hi - lo + 1) + value) (2 ^ lo) (n % 2 ^ lo) (mod-lt n (pow_pos lo)))
      ∙ mod-mul-add (n / 2 ^ (hi + 1)) (2 ^ (hi - lo + 1)) value fits

  -- as shifts at 64 bits make it
  pub with_bits-shifted : hi < 32 → n < 2 ^ 32
      → (n / 2 ^ (hi + 1) * 2 ^ (hi - lo + 1) % 2 ^ 64 + value) * 2 ^ lo % 2 ^ 64 + n % (1 * 2 ^ lo % 2 ^ 64) ≡ with_bits lo hi value n
  with_bits-shifted within h =
      let upper = n / 2 ^ (hi + 1) * 2 ^ (hi - lo + 1) in
      let whole : with_bits lo hi value n < 2 ^ 32 = with_bits_below 32 within h in
      let most : 2 ^ (32 - (hi + 1) + (hi - lo + 1)) ≤ 2 ^ 32 = pow-le-pow_right (omega arith) {i = 32 - (hi + 1) + (hi - lo + 1)} {j = 32} (omega arith) in
      let unit : 2 ^ lo ≤ 2 ^ 32 = pow-le-pow_right (omega arith) {i = lo} {j = 32} (omega arith) in
      let first : upper % 2 ^ 64 ≡ upper = let b = above_below 32 within h in mod-eq_of_lt (omega arith) in
      let second : (upper + value) * 2 ^ lo % 2 ^ 64 ≡ (upper + value) * 2 ^ lo = mod-eq_of_lt (omega arith) in
      let third : 1 * 2 ^ lo % 2 ^ 64 ≡ 2 ^ lo = mod-eq_of_lt (omega arith) ∙ omega arith in
      ap (λ m. (m + value) * 2 ^ lo % 2 ^ 64 + n % (1 * 2 ^ lo % 2 ^ 64)) first ∙ ap (λ m. m + n % (1 * 2 ^ lo % 2 ^ 64)) second ∙ ap (λ m. (upper + value) * 2 ^ lo + n % m) third

-- a number's bits below a place, and from it on
bit_at-low : (n k i : ℕ) → i < k → bit_at n i ≡ bit_at (n % 2 ^ k) i
bit_at-low n k i h = ap (λ m. bit_at m i) (sym (div-add-mod' n (2 ^ k))) ∙ bit_at_cat_low (n / 2 ^ k) k (n % 2 ^ k) i h

bit_at-high : (n k i : ℕ) → k ≤ i → bit_at n i ≡ bit_at (n / 2 ^ k) (i - k)
bit_at-high n k i h = ap (λ m. bit_at m i) (sym (div-add-mod' n (2 ^ k))) ∙ bit_at_cat_high (n / 2 ^ k) k (n % 2 ^ k) i (mod-lt n (pow_pos k)) h

pub with_bits_others : (lo hi value n : ℕ) → lo ≤ hi → value < 2 ^ (hi - lo + 1) → (j : ℕ) → (j < lo) ⊎ (hi < j) → bit_at (with_bits lo hi value n) j ≡ bit_at n j
with_bits_others lo hi value n order fits j (inl low) = bit_at_cat_low (n / 2 ^ (hi + 1) * 2 ^ (hi - lo + 1) + value) lo (n % 2 ^ lo) j low ∙ sym (bit_at-low n lo j low)
with_bits_others lo hi value n order fits j (inr high) =
    let from_lo : lo ≤ j = omega arith in let from_hi : hi - lo + 1 ≤ j - lo = omega arith in let from_above : hi + 1 ≤ j = omega arith in
    bit_at_cat_high (n / 2 ^ (hi + 1) * 2 ^ (hi - lo + 1) + value) lo (n % 2 ^ lo) j (mod-lt n (pow_pos lo)) from_lo
    ∙ bit_at_cat_high (n / 2 ^ (hi + 1)) (hi - lo + 1) value (j - lo) fits from_hi
    ∙ ap (bit_at (n / 2 ^ (hi + 1))) (let e : j - lo - (hi - lo + 1) ≡ j - (hi + 1) = omega arith in e)
    ∙ sym (bit_at-high n (hi + 1) j from_above)

-- the number that some bits spell is known by these bits
pub same_bits_of : (lo hi n m : ℕ) → lo ≤ hi → ((j : ℕ) → lo ≤ j → j ≤ hi → bit_at n j ≡ bit_at m j) → bits_of lo hi n ≡ bits_of lo hi m
same_bits_of lo hi n m order same =
    same_from_bits_below (hi - lo + 1) (bits_of lo hi n) (bits_of lo hi m) (mod-lt (n / 2 ^ lo) (pow_pos (hi - lo + 1))) (mod-lt (m / 2 ^ lo) (pow_pos (hi - lo + 1)))
    (λ i within.
    let here : lo ≤ lo + i = omega arith in let back : lo + i - lo ≡ i = omega arith in
    let seen = λ (x : ℕ). bit_at-high x lo (lo + i) here ∙ ap (bit_at (x / 2 ^ lo)) back ∙ bit_at-low (x / 2 ^ lo) (hi - lo + 1) i within in
    sym (seen n) ∙ same (lo + i) (omega arith) (omega arith) ∙ seen m)
