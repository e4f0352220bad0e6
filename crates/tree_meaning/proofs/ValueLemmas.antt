-- How many values a field has, and which numbers are among them.
use Rattle.std.proofs.Common.{◌≡◌, ℕ, zero, suc, ◌+◌, ◌-◌, ◌*◌, ◌%◌, ◌^◌, ◌<◌, ◌≤◌, inl, inr, Bool, true, false, ◌&&◌, List, Some, None, slice_get, All, refl, ap, ◌∙◌, arith}
use Rattle.std.specs.Prelude.{Option, nat_lt}
use Rattle.std.specs.List.{list_all, range_with_len}
use Rattle.std.specs.Option.{IsSomeAnd}
use Rattle.std.proofs.Math.Nat.{pow-le-pow_right, mod-eq_of_lt}
use Rattle.std.proofs.lemmas.Bool.Decides.{nat_tests}
use Rattle.token_bits.specs.declared.tokens.Class.{Class}
use Rattle.token_bits.specs.declared.tokens.Field.{Field}
use Rattle.token_bits.specs.declared.tokens.Tokens.{Tokens}
use Rattle.token_bits.specs.Tokens.{AreTokens, IsFieldOf, IsWidth}
use Rattle.token_bits.proofs.Sound.{All-slice_get}

width_small : (w : ℕ) → IsWidth w → w ≤ 32
width_small w (inl e) = omega arith
width_small w (inr (inl e)) = omega arith
width_small w (inr (inr e)) = omega arith

field_case : (classes : List Class) (hi : ℕ) (k : ℕ) (found : Option Class) → slice_get classes k ≡ found → All (λ class. IsWidth class.width) classes
    → IsSomeAnd found (λ (class : Class). hi < class.width) → hi < 32
field_case classes hi k None is widths h = absurd h
field_case classes hi k (Some class) is widths h =
    let small = width_small class.width (All-slice_get (λ (c : Class). IsWidth c.width) classes k class is widths) in
    omega arith

-- the bits of a field stand in order below 32
pub field_bits : (tokens : Tokens) (k : ℕ) (f : Field) → AreTokens tokens → slice_get tokens.fields k ≡ Some f → (f.lo ≤ f.hi) × (f.hi < 32)
field_bits tokens k f sound is =
    let place = All-slice_get (IsFieldOf tokens.classes) tokens.fields k f is sound.fields in
    (place.0, field_case tokens.classes f.hi f.class.0 (slice_get tokens.classes f.class.0) refl sound.widths place.1)

pub power_small : (n : ℕ) → n ≤ 32 → 2 ^ n ≤ 2 ^ 32
power_small n h = pow-le-pow_right (omega arith) {i = n} {j = 32} h

pub shifted : (n : ℕ) → n ≤ 32 → 1 * 2 ^ n % 2 ^ 64 ≡ 2 ^ n
shifted n h =
    let small = power_small n h in
    let plain : 1 * 2 ^ n ≡ 2 ^ n = omega arith in
    ap (λ x. x % 2 ^ 64) plain ∙ mod-eq_of_lt (omega arith)

-- ---- ranges

-- the numbers of a range are below a bound if its last is
range_below : (a n c e : ℕ) → a + n ≡ e → list_all (λ k. nat_lt k c) (range_with_len a (suc n)) ≡ nat_lt e c
range_below a zero c e is = let same : a ≡ e = omega arith in and_true (nat_lt a c) ∙ ap (λ k. nat_lt k c) same where
  and_true : (t : Bool) → (t && true) ≡ t
  and_true true = refl
  and_true false = refl
range_below a (suc n) c e is =
    ap (λ t. nat_lt a c && t) (range_below (a + 1) n c e (omega arith)) ∙ by_test (nat_lt a c) (nat_lt e c) refl refl where
      by_test : (s t : Bool) → nat_lt a c ≡ s → nat_lt e c ≡ t → (s && t) ≡ t
      by_test true t p q = refl
      by_test false false p q = refl
      by_test false true p q = grind (arith, nat_tests)

-- a range from a above b has no numbers
pub range_empty : (a b c : ℕ) → b < a → list_all (λ k. nat_lt k c) (range_with_len a (b + 1 - a)) ≡ true
range_empty a b c h =
    let none : b + 1 - a ≡ 0 = omega arith in
    ap (λ n. list_all (λ k. nat_lt k c) (range_with_len a n)) none

pub range_fits : (a b c : ℕ) → a ≤ b → list_all (λ k. nat_lt k c) (range_with_len a (b + 1 - a)) ≡ nat_lt b c
range_fits a b c h =
    let some : b + 1 - a ≡ suc (b - a) = omega arith in
    ap (λ n. list_all (λ k. nat_lt k c) (range_with_len a n)) some ∙ range_below a (b - a) c b (omega arith)
