-- Numbers by the bits from some bit on.
use Rattle.std.proofs.Common.{◌≡◌, ℕ, zero, suc, ◌+◌, ◌-◌, ◌*◌, ◌/◌, ◌%◌, ◌^◌, ◌<◌, ◌≤◌, List, ◌++◌, length, Bool, refl, sym, ap, ◌∙◌, inl, inr, arith, bit_xor, count_ones}
use Rattle.std.specs.List.{count_by, filter}
use Rattle.std.specs.Int.Bits.{xor_zero_r}
use Rattle.std.specs.Int.Count.{ones}
use Rattle.std.proofs.lemmas.Bool.{cases_lt}
use Rattle.std.proofs.lemmas.List.{length-append}
use Rattle.std.proofs.lemmas.List.Sums.{length-filter}
use Rattle.std.proofs.lemmas.List.Elements.{filter-append}
use Rattle.std.proofs.lemmas.Nat.{xor_block, shr-shr, shr_split, mod-pow-add, ones_cat, pow_pos, mod_below}

pub count_by-append : {X : Type 0} (p : X → Bool) (xs ys : List X) → count_by p (xs ++ ys) ≡ count_by p xs + count_by p ys
count_by-append p xs ys =
    sym (length-filter p (xs ++ ys)) ∙ ap length (filter-append p xs ys) ∙ length-append (filter p xs) (filter p ys) ∙ ap (λ n. n + length (filter p ys)) (length-filter p xs)
    ∙ ap (λ n. count_by p xs + n) (length-filter p ys)

low_turned : (r : ℕ) → r < 2 → bit_xor r 1 ≡ 1 - r
low_turned zero h = refl
low_turned (suc zero) h = refl
low_turned (suc (suc n)) h = absurd (omega arith)

pub xor_one : (n : ℕ) → bit_xor n 1 ≡ n / 2 * 2 + (1 - n % 2)
xor_one n =
    let split : n ≡ n / 2 * 2 ^ 1 + n % 2 = omega arith in
    ap (λ x. bit_xor x 1) split ∙ xor_block 1 (n / 2) 0 (n % 2) 1 (omega arith) (omega arith)
    ∙ ap (λ x. x * 2 ^ 1 + bit_xor (n % 2) 1) (xor_zero_r (n / 2)) ∙ ap (λ x. n / 2 * 2 ^ 1 + x) (low_turned (n % 2) (omega arith)) ∙ omega arith

-- one more bit is free
pub next_shift : (n i : ℕ) → n / 2 ^ (i + 1) ≡ n / 2 ^ i / 2
next_shift n i = sym (shr-shr n i 1)

pub next_low : (n i : ℕ) → n % 2 ^ (i + 1) ≡ n / 2 ^ i % 2 * 2 ^ i + n % 2 ^ i
next_low n i = ap (λ k. n % 2 ^ k) (add_one_first i) ∙ mod-pow-add n 1 i
  where
    add_one_first : (i : ℕ) → i + 1 ≡ 1 + i
    add_one_first i = omega arith

pub ones_bit : (r : ℕ) → r < 2 → count_ones r ≡ r
unfolding ones
ones_bit zero h = refl
ones_bit (suc zero) h = refl
ones_bit (suc (suc n)) h = absurd (omega arith)

-- the ones of a number with a further bit before it
pub ones_more : (r i n : ℕ) → r < 2 → n < 2 ^ i → count_ones (r * 2 ^ i + n) ≡ r + count_ones n
ones_more r i n h l = ones_cat i r n l ∙ ap (λ x. x + count_ones n) (ones_bit r h)

-- how two numbers stand by the bits from some bit on
pub record Parts (v c x y : ℕ) : Type 0 where
  pub below : x < y → v < c
  pub above : y < x → c < v
  pub same : v ≡ c → x ≡ y
  pub below_from : v < c → x ≤ y
  pub above_from : c < v → y ≤ x

below_parts : (p x y a b : ℕ) → b < p → x < y → b + p * x < a + p * y
below_parts p x y a b h l = grind arith

below_whole : (v c i : ℕ) → v / 2 ^ i < c / 2 ^ i → v < c
below_whole v c i h =
    let m : v % 2 ^ i < 2 ^ i = mod_below v (2 ^ i) (pow_pos i) in
    omega (arith, shr_split v i, shr_split c i, below_parts (2 ^ i) (v / 2 ^ i) (c / 2 ^ i) (c % 2 ^ i) (v % 2 ^ i) m h)

below_shifted : (v c i : ℕ) → v < c → v / 2 ^ i ≤ c / 2 ^ i
below_shifted v c i h = elim (cases_lt (c / 2 ^ i) (v / 2 ^ i)) [ inl l ↦ (let b = below_whole c v i l in absurd (omega arith)) | inr l ↦ l ]

pub parts : (v c i : ℕ) → Parts v c (v / 2 ^ i) (c / 2 ^ i)
parts v c i = record {
  below = below_whole v c i;
  above = below_whole c v i;
  same = λ e. ap (λ z. z / 2 ^ i) e;
  below_from = below_shifted v c i;
  above_from = below_shifted c v i;
}
