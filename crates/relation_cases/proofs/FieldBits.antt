-- The bits of a token that a block of its field's values asks for.
use Rattle.std.proofs.Common.{◌≡◌, ℕ, ◌+◌, ◌-◌, ◌*◌, ◌/◌, ◌%◌, ◌^◌, ◌<◌, ◌≤◌, sym, ap, ◌∙◌, subst, arith, bit_and}
use Rattle.std.proofs.Math.Nat.{mod-eq_of_lt, pow-le-pow_right}
use Rattle.std.proofs.lemmas.Nat.{shr-shr, one_shl, shl-shr, field_of, shl_below}
use Rattle.std.proofs.lemmas.Nat.Bits.{and_high}
use Rattle.token_bits.specs.Tokens.{bits_of}

-- the token's bits under the mask are those of the field from the free ones on
module _ (lo hi free : ℕ) (order : lo ≤ hi) (few : free ≤ hi - lo + 1) where
  masked : (n : ℕ) → bit_and n (2 ^ (hi + 1) - 2 ^ (lo + free)) ≡ bits_of lo hi n / 2 ^ free * 2 ^ (lo + free)
  masked n =
      let e : hi + 1 ≡ hi - lo + 1 - free + (lo + free) = omega arith in
      let f : hi - lo + 1 ≡ hi - lo + 1 - free + free = omega arith in
      ap (λ k. bit_and n (2 ^ k - 2 ^ (lo + free))) e ∙ and_high n (hi - lo + 1 - free) (lo + free)
      ∙ ap (λ x. x * 2 ^ (lo + free)) (ap (λ x. x % 2 ^ (hi - lo + 1 - free)) (sym (shr-shr n lo free)) ∙ sym (ap (λ k. n / 2 ^ lo % 2 ^ k / 2 ^ free) f ∙ field_of (n / 2 ^ lo) (hi - lo + 1 - free) free))

  pub masked_from : (n top : ℕ) → bits_of lo hi n / 2 ^ free ≡ top → bit_and n (2 ^ (hi + 1) - 2 ^ (lo + free)) ≡ top * 2 ^ (lo + free)
  masked_from n top e = masked n ∙ ap (λ x. x * 2 ^ (lo + free)) e

  pub masked_to : (n top : ℕ) → bit_and n (2 ^ (hi + 1) - 2 ^ (lo + free)) ≡ top * 2 ^ (lo + free) → bits_of lo hi n / 2 ^ free ≡ top
  masked_to n top e = sym (shl-shr (bits_of lo hi n / 2 ^ free) (lo + free)) ∙ ap (λ x. x / 2 ^ (lo + free)) (sym (masked n) ∙ e) ∙ shl-shr top (lo + free)

  -- no bit of the value is outside the mask
  pub value_under : (top : ℕ) → top < 2 ^ (hi - lo + 1 - free) → bit_and (top * 2 ^ (lo + free)) (2 ^ (hi + 1) - 2 ^ (lo + free)) ≡ top * 2 ^ (lo + free)
  value_under top l =
      let e : hi + 1 ≡ hi - lo + 1 - free + (lo + free) = omega arith in
      ap (λ k. bit_and (top * 2 ^ (lo + free)) (2 ^ k - 2 ^ (lo + free))) e ∙ and_high (top * 2 ^ (lo + free)) (hi - lo + 1 - free) (lo + free)
      ∙ ap (λ x. x % 2 ^ (hi - lo + 1 - free) * 2 ^ (lo + free)) (shl-shr top (lo + free)) ∙ ap (λ x. x * 2 ^ (lo + free)) (mod-eq_of_lt l)

  pub value_fits : (top : ℕ) → top < 2 ^ (hi - lo + 1 - free) → top * 2 ^ (lo + free) < 2 ^ (hi + 1)
  value_fits top l = let e : hi + 1 ≡ hi - lo + 1 - free + (lo + free) = omega arith in ap_lt (sym e) (shl_below top (hi - lo + 1 - free) (lo + free) l)
    where
      ap_lt : {j k : ℕ} → j ≡ k → top * 2 ^ (lo + free) < 2 ^ j → top * 2 ^ (lo + free) < 2 ^ k
      ap_lt e h = let P : ℕ → Type 0 = λ k. top * 2 ^ (lo + free) < 2 ^ k in subst P e h

pub shifts_in_order : (lo hi free : ℕ) → lo ≤ hi → free ≤ hi - lo + 1 → hi < 32 → 1 * 2 ^ (lo + free) % 2 ^ 64 ≤ 1 * 2 ^ (hi + 1) % 2 ^ 64
shifts_in_order lo hi free order few l =
    omega (arith, one_shl (lo + free) 64 (omega arith), one_shl (hi + 1) 64 (omega arith), pow-le-pow_right {n = 2} (omega arith) {i = lo + free} {j = hi + 1} (omega arith))
