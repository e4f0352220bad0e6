-- The test of a case, and what it says.
use Rattle.std.proofs.Common.{◌≡◌, ℕ, zero, suc, ◌<◌, Bool, true, false, List, length, refl, arith, get_or, bit_and, sym, ap, ◌∙◌, nat_eq}
use Rattle.std.proofs.Common.{inl, inr}
use Rattle.std.proofs.lemmas.Bool.{and_parts, and_from, le-leb, leb-true, eqb-true, eq-eqb, cases_lt}
use Rattle.bit_cases.specs.Bits.{Meets, meets, all_below}

below_true : (n : ℕ) (p : ℕ → Bool) → all_below n p ≡ true → (k : ℕ) → k < n → p k ≡ true
unfolding all_below
below_true zero p e k h = absurd (omega arith)
below_true (suc n) p e k h =
    let parts = and_parts (all_below n p) (p n) e in
    elim (cases_lt k n) [ inl lt ↦ below_true n p parts.0 k lt | inr ge ↦ (let same : k ≡ n = omega arith in ap p same ∙ parts.1) ]

from_below : (n : ℕ) (p : ℕ → Bool) → ((k : ℕ) → k < n → p k ≡ true) → all_below n p ≡ true
unfolding all_below
from_below zero p h = refl
from_below (suc n) p h = and_from (all_below n p) (p n) (from_below n p (λ k l. h k (omega arith))) (h n (omega arith))

pub meets-true : (m v : List ℕ) (l : ℕ) (w : List ℕ) → meets m v l w ≡ true → Meets m v l w
unfolding meets
meets-true m v l w e =
    let parts = and_parts _ _ e in
    (leb-true l (length w) parts.0, λ k h. eqb-true _ _ (below_true 32 (λ j. nat_eq (bit_and (get_or w j 0) (get_or m j 0)) (get_or v j 0)) parts.1 k h))

pub meets-from : (m v : List ℕ) (l : ℕ) (w : List ℕ) → Meets m v l w → meets m v l w ≡ true
unfolding meets
meets-from m v l w h = and_from _ _ (le-leb l (length w) h.0) (from_below 32 (λ j. nat_eq (bit_and (get_or w j 0) (get_or m j 0)) (get_or v j 0)) (λ k b. eq-eqb _ _ (h.1 k b)))

pub same_bool : (x y : Bool) → (x ≡ true → y ≡ true) → (y ≡ true → x ≡ true) → x ≡ y
same_bool true y f g = sym (f refl)
same_bool false true f g = g refl
same_bool false false f g = refl
