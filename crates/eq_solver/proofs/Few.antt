-- Numbers below a bound, each another one, are no more than the bound.
use Rattle.std.proofs.Common.{ℕ, ◌≡◌, ◌≢◌, ◌<◌, ◌≤◌, eqb, Bool, true, false, ◌||◌, List, [], ◌∷◌, length, All, AllPairs, refl, arith, Fits, w32, get_or, subst, sym, ◌^◌}
use Rattle.std.specs.List.{list_any}
use Rattle.std.proofs.lemmas.List.Elements.{All-head, All-tail}
use Rattle.std.proofs.lemmas.Map.Made.{IsDistinct-from_AllPairs}
use Rattle.std.proofs.lemmas.Map.Steps.{length-le_from_distinct_below}
use Rattle.std.proofs.lemmas.Grind.{get_or_default_zero}
use Rattle.std.proofs.lemmas.Bool.Decides.{Decides-eqb}
use Rattle.eq_solver.proofs.OfCells.{same_number}

below_if : (n q x : ℕ) (b r : Bool) → eqb q x ≡ b → x < n → (r ≡ true → q < n) → (b || r) ≡ true → q < n
below_if n q x true r e l rec h = let s : q ≡ x = same_number q x e in omega (arith, s, l)
below_if n q x false r e l rec h = rec h

below : (n q : ℕ) (xs : List ℕ) → All (λ x. x < n) xs → list_any (eqb q) xs ≡ true → q < n
below n q [] a h = cc
below n q (x ∷ xs) a h = below_if n q x (eqb q x) (list_any (eqb q) xs) refl (All-head (λ x. x < n) x xs a) (below n q xs (All-tail (λ x. x < n) x xs a)) h

pub few_below : (xs : List ℕ) (n : ℕ) → All (λ x. x < n) xs → AllPairs (λ x y. x ≢ y) xs → length xs ≤ n
few_below xs n a p = length-le_from_distinct_below xs n (IsDistinct-from_AllPairs Decides-eqb xs p) (λ q h. below n q xs a h)

pub few_fits : (xs : List ℕ) → ((i : ℕ) → Fits w32 (get_or xs i 0)) → AllPairs (λ x y. x ≢ y) xs → length xs ≤ 2 ^ 32
few_fits xs h p = few_below xs (2 ^ 32) (λ k d l. subst (λ x. x < 2 ^ 32) (sym (get_or_default_zero xs k d l)) (h k).fits) p
