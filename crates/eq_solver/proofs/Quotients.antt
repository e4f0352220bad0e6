-- Exact quotients of signed numbers.
use Rattle.std.proofs.Common.{ℕ, zero, suc, ◌*◌, ◌/◌, ◌%◌, ◌^◌, ◌≡◌, ◌≢◌, ◌<◌, ◌≤◌, ℤ, pos, negsuc, neg_ℤ, ◌+ℤ◌, ◌*ℤ◌, refl, ap, sym, ◌∙◌, arith, unsigned_abs, int_div, int_rem, subst, w64, to_z, of_z, FitsSigned}
use Rattle.std.proofs.lemmas.Int.{ints, quot-rem, to_z-of_z}
use Rattle.std.proofs.Math.Nat.{zero-div, zero-mod, div-le_self, mul-div_cancel_left, mul-mod_right}
use Rattle.std.proofs.Math.IntN.{*ℤ_comm, pos-*ℤ-pos, negsuc-*ℤ-negsuc, negsuc-*ℤ-pos, pos-*ℤ-negsuc}
use Rattle.sled_model.specs.Linear.{IsWithin}
use Rattle.eq_solver.specs.Steps.{IsQuotient}
use Rattle.eq_solver.proofs.Bounds.{abs_within, within_abs}

quot_neg : (k b : ℕ) → int_div (neg_ℤ (pos k)) (pos b) ≡ neg_ℤ (pos (k / b))
quot_neg zero b = rw (zero-div b) refl
quot_neg (suc k) b = refl

quot_neg_neg : (k b : ℕ) → int_div (neg_ℤ (pos k)) (negsuc b) ≡ pos (k / suc b)
quot_neg_neg zero b = rw (zero-div (suc b)) refl
quot_neg_neg (suc k) b = refl

rem_neg : (k : ℕ) (d : ℤ) → int_rem (neg_ℤ (pos k)) d ≡ neg_ℤ (pos (k % unsigned_abs d))
rem_neg zero d = rw (zero-mod (unsigned_abs d)) refl
rem_neg (suc k) d = refl

quot_product : (c x : ℤ) → c ≢ pos 0 → int_div (c *ℤ x) c ≡ x
quot_product (pos zero) x n = absurd (n refl)
quot_product (pos (suc m)) (pos n) h = ap (λ z. int_div z (pos (suc m))) (pos-*ℤ-pos (suc m) n) ∙ ap pos (mul-div_cancel_left n (omega arith))
quot_product (pos (suc m)) (negsuc n) h =
    ap (λ z. int_div z (pos (suc m))) (pos-*ℤ-negsuc (suc m) n) ∙ quot_neg (suc m * suc n) (suc m) ∙ ap (λ k. neg_ℤ (pos k)) (mul-div_cancel_left (suc n) (omega arith))
quot_product (negsuc m) (pos n) h =
    ap (λ z. int_div z (negsuc m)) (negsuc-*ℤ-pos m n) ∙ quot_neg_neg (suc m * n) m ∙ ap pos (mul-div_cancel_left n (omega arith))
quot_product (negsuc m) (negsuc n) h =
    ap (λ z. int_div z (negsuc m)) (negsuc-*ℤ-negsuc m n) ∙ ap (λ k. neg_ℤ (pos k)) (mul-div_cancel_left (suc n) (omega arith))

rem_product : (c x : ℤ) → int_rem (c *ℤ x) c ≡ pos 0
rem_product (pos m) (pos n) = ap (λ z. int_rem z (pos m)) (pos-*ℤ-pos m n) ∙ ap pos (mul-mod_right m n)
rem_product (pos m) (negsuc n) = ap (λ z. int_rem z (pos m)) (pos-*ℤ-negsuc m n) ∙ rem_neg (m * suc n) (pos m) ∙ ap (λ k. neg_ℤ (pos k)) (mul-mod_right m (suc n))
rem_product (negsuc m) (pos n) = ap (λ z. int_rem z (negsuc m)) (negsuc-*ℤ-pos m n) ∙ rem_neg (suc m * n) (negsuc m) ∙ ap (λ k. neg_ℤ (pos k)) (mul-mod_right (suc m) n)
rem_product (negsuc m) (negsuc n) = ap (λ z. int_rem z (negsuc m)) (negsuc-*ℤ-negsuc m n) ∙ ap pos (mul-mod_right (suc m) (suc n))

neg_abs : (k : ℕ) → unsigned_abs (neg_ℤ (pos k)) ≡ k
neg_abs zero = refl
neg_abs (suc k) = refl

abs_quot : (a c : ℤ) → unsigned_abs (int_div a c) ≤ unsigned_abs a
abs_quot (pos a) (pos b) = div-le_self a b
abs_quot (pos a) (negsuc b) = rw (neg_abs (a / suc b)) (div-le_self a (suc b))
abs_quot (negsuc a) (pos b) = rw (neg_abs (suc a / b)) (div-le_self (suc a) b)
abs_quot (negsuc a) (negsuc b) = div-le_self (suc a) (suc b)

mod_le : (a b : ℕ) → a % b ≤ a
mod_le a b = omega arith

abs_rem : (a c : ℤ) → unsigned_abs (int_rem a c) ≤ unsigned_abs a
abs_rem (pos a) c = mod_le a (unsigned_abs c)
abs_rem (negsuc a) c = rw (neg_abs (suc a % unsigned_abs c)) (mod_le (suc a) (unsigned_abs c))

within_fits : (n : ℕ) (z : ℤ) → n < 2 ^ 63 → IsWithin n z → FitsSigned w64 z
within_fits n (pos m) l h = record { sfits = omega (arith, ints) }
within_fits n (negsuc m) l h = record { sfits = omega (arith, ints) }

pub zero_bits : (z : ℤ) → FitsSigned w64 z → of_z w64 z ≡ 0 → z ≡ pos 0
zero_bits z f e = sym (to_z-of_z w64 z f) ∙ ap (to_z w64) e

pub quotient_is : (a c : ℤ) → IsWithin (2 ^ 55) a → c ≢ pos 0 → of_z w64 (int_rem a c) ≡ 0 → IsQuotient c a (to_z w64 (of_z w64 (int_div a c)))
quotient_is a c h n e =
    let r : int_rem a c ≡ pos 0 = zero_bits _ (within_fits (2 ^ 55) _ (omega arith) (within_abs _ _ (below _ _ _ (abs_rem a c) (abs_within _ a h)))) e in
    let q : IsWithin (2 ^ 55) (int_div a c) = within_abs _ _ (below _ _ _ (abs_quot a c) (abs_within _ a h)) in
    rw (to_z-of_z w64 (int_div a c) (within_fits (2 ^ 55) _ (omega arith) q))
    record { is = *ℤ_comm c (int_div a c) ∙ whole (int_div a c *ℤ c) (int_rem a c) a (quot-rem a c) r; within = q; only = λ x d. sym (quot_product c x n) ∙ ap (λ z. int_div z c) d }
  where
    below : (a b n : ℕ) → a ≤ b → b ≤ n → a ≤ n
    below a b n p q = omega arith

    whole : (p r a : ℤ) → p +ℤ r ≡ a → r ≡ pos 0 → p ≡ a
    whole p r a e d = omega (arith, ints)

pub no_quotient : (a c x : ℤ) → (of_z w64 (int_rem a c) ≡ 0 → ⊥) → c *ℤ x ≡ a → ⊥
no_quotient a c x h e = h (ap (λ z. of_z w64 (int_rem z c)) (sym e) ∙ ap (of_z w64) (rem_product c x))

-- the same of what the code has read
pub read_back : (P : ℤ → ℤ → Type 0) (a c : ℤ) → FitsSigned w64 a → FitsSigned w64 c → P a c → P (to_z w64 (of_z w64 a)) (to_z w64 (of_z w64 c))
read_back P a c f g h = subst (λ z. P z (to_z w64 (of_z w64 c))) (sym (to_z-of_z w64 a f)) (subst (λ z. P a z) (sym (to_z-of_z w64 c g)) h)
