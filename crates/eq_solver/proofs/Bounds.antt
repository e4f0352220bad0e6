-- Bounds on products.
use Rattle.std.proofs.Common.{ℕ, ◌+◌, ◌*◌, ◌^◌, ◌≡◌, ◌≤◌, ◌<◌, ℤ, pos, negsuc, ◌+ℤ◌, ◌*ℤ◌, ap, ◌∙◌, arith, w64, to_z, of_z, FitsSigned, unsigned_abs, lit<, List, drop, get_or, length}
use Rattle.std.proofs.lemmas.Int.{ints, to_z-of_z, fits_signed_mul, unsigned_abs-mul}
use Rattle.std.proofs.Math.Nat.{mul-le-mul}
use Rattle.std.proofs.lemmas.List.{at_drop_more}
use Rattle.sled_model.specs.declared.constructor.Term.{Term}
use Rattle.sled_model.specs.Equations.{Setting, sum_of, atom_value}
use Rattle.sled_model.specs.Linear.{IsWithin}

pub abs_within : (n : ℕ) (x : ℤ) → IsWithin n x → unsigned_abs x ≤ n
abs_within n (pos m) h = omega (arith, ints)
abs_within n (negsuc m) h = omega (arith, ints)

pub within_abs : (n : ℕ) (x : ℤ) → unsigned_abs x ≤ n → IsWithin n x
within_abs n (pos m) h = record { low = omega (arith, ints); high = omega (arith, ints) }
within_abs n (negsuc m) h = record { low = omega (arith, ints); high = omega (arith, ints) }

pub product_within : (c x : ℤ) → IsWithin (2 ^ 16) c → IsWithin (2 ^ 34) x → IsWithin (2 ^ 50) (c *ℤ x)
product_within c x p q = within_abs _ _ (rw (unsigned_abs-mul c x) (mul-le-mul (abs_within _ c p) (abs_within _ x q)))

pub product_kept : (c x : ℤ) → IsWithin (2 ^ 16) c → IsWithin (2 ^ 34) x → FitsSigned w64 c → FitsSigned w64 x
    → to_z w64 (of_z w64 (to_z w64 (of_z w64 c) *ℤ to_z w64 (of_z w64 x))) ≡ c *ℤ x
product_kept c x p q f g =
    ap (λ k. to_z w64 (of_z w64 (k *ℤ to_z w64 (of_z w64 x)))) (to_z-of_z w64 c f) ∙ ap (λ k. to_z w64 (of_z w64 (c *ℤ k))) (to_z-of_z w64 x g)
    ∙ to_z-of_z w64 (c *ℤ x) (fits_signed_mul w64 c x (2 ^ 16) (2 ^ 34) (abs_within _ c p) (abs_within _ x q) (lit< tt))

pub sum_step : (w : Setting) (fields : ℕ → ℤ) (ts : List Term) (i : ℕ) (d : Term) (total p new s : ℤ) → new ≡ total +ℤ p → i < length ts
    → total +ℤ sum_of w fields (drop i ts) ≡ s → p ≡ (get_or ts i d).coefficient *ℤ atom_value w fields (get_or ts i d).atom
    → new +ℤ sum_of w fields (drop (i + 1) ts) ≡ s
sum_step w fields ts i d total p new s e below h q =
    let more = at_drop_more (sum_of w fields) ts i d below in regroup new total p _ _ (sum_of w fields (drop (i + 1) ts)) s e h more q
  where
    regroup : (new total p x c r s : ℤ) → new ≡ total +ℤ p → total +ℤ x ≡ s → x ≡ c +ℤ r → p ≡ c → new +ℤ r ≡ s
    regroup new total p x c r s e h m q = omega (arith, ints)

pub bound_step : (i : ℕ) (total p new : ℤ) → new ≡ total +ℤ p → IsWithin (i * 2 ^ 50) total → IsWithin (2 ^ 50) p → IsWithin ((i + 1) * 2 ^ 50) new
bound_step i total p new e h q = record { low = omega (arith, ints); high = omega (arith, ints) }

-- a product of what the code has read
pub product_read : (r c x : ℤ) → FitsSigned w64 x → FitsSigned w64 c → r ≡ to_z w64 (of_z w64 c) *ℤ to_z w64 (of_z w64 x) → r ≡ c *ℤ x
product_read r c x f g e = e ∙ ap (λ k. k *ℤ to_z w64 (of_z w64 x)) (to_z-of_z w64 c g) ∙ ap (λ k. c *ℤ k) (to_z-of_z w64 x f)
