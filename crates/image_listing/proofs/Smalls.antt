-- What the decoder of the tests takes.
use Rattle.std.proofs.Common.{◌≡◌, ℕ, ◌%◌, ◌<◌, ◌≤◌, min, List, [], ◌∷◌, length, take, get_or, decimal, Option, Some, None, refl, sym, ap, ◌∙◌, length-take, arith}
use Rattle.std.proofs.lemmas.Bool.{le-ltb, lt-ltb}
use Rattle.image_listing.specs.Listing.{placed}
use Rattle.image_listing.specs.Small.{small_taking}

first-same : (left window : List ℕ) → window ≡ take 32 left → get_or window 0 0 ≡ get_or left 0 0
first-same [] window is = ap (λ w. get_or w 0 0) is
first-same (b ∷ bs) window is = ap (λ w. get_or w 0 0) is

count-same : (left window : List ℕ) (count : ℕ) → window ≡ take 32 left → count ≡ min (length window) (get_or window 0 0 % 4) → min (get_or left 0 0 % 4) (length left) ≡ count
count-same left window count is counted =
    let first = first-same left window is in
    let low : get_or left 0 0 % 4 < 4 = omega arith in
    let same : get_or window 0 0 % 4 ≡ get_or left 0 0 % 4 = ap (λ n. n % 4) first in
    omega (arith, ap length is, length-take 32 left)

pub small_some : (place count : ℕ) (left window words : List ℕ) → window ≡ take 32 left → count ≡ min (length window) (get_or window 0 0 % 4) → 0 < count → words ≡ decimal (get_or window 0 0)
    → placed (small_taking place left) ≡ Some (count, words)
small_some place count left window words is counted some text =
    rw (count-same left window count is counted, lt-ltb 0 count some) (ap (λ t. Some (count, t)) (ap decimal (sym (first-same left window is)) ∙ sym text))

pub small_none : (place count : ℕ) (left window : List ℕ) → window ≡ take 32 left → count ≡ min (length window) (get_or window 0 0 % 4) → count ≡ 0 → placed (small_taking place left) ≡ None
small_none place count left window is counted none = rw (count-same left window count is counted, none) refl
