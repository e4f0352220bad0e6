-- The bytes in hand.
use Rattle.std.proofs.Common.{◌≡◌, ℕ, ◌≤◌, ◌<◌, ◌⊎◌, inl, inr, min, Bool, false, eqb, List, length, take, sym, ap, ◌∙◌, length-take, arith}
use Rattle.std.proofs.lemmas.Bool.{cases_lt, eqb-false}
use Rattle.std.proofs.lemmas.List.{take_all}

positive : (n : ℕ) → (n ≡ 0 → ⊥) → 0 < n
positive n ne = omega arith

-- as many as there are, and no more than 32
pub front_of : (n : ℕ) (xs ys : List ℕ) → n ≡ min (length xs) 32 → xs ≡ ys → take n xs ≡ take 32 ys
front_of n xs ys is same = by_length (cases_lt (length xs) 32) ∙ ap (take 32) same
  where
    by_length : (length xs < 32) ⊎ (32 ≤ length xs) → take n xs ≡ take 32 xs
    by_length (inl few) = take_all n xs (omega arith) ∙ sym (take_all 32 xs (omega arith))
    by_length (inr many) = let whole : n ≡ 32 = omega arith in ap (λ k. take k xs) whole

-- a front that is not empty is one of bytes that are not
pub some_held : (held front : List ℕ) → front ≡ take 32 held → false ≡ eqb (length front) 0 → 0 < length held
some_held held front is some =
    let ne = eqb-false (length front) 0 (sym some) in
    let least : length held ≡ 0 → length front ≡ 0 = λ e. ap length is ∙ omega (arith, length-take 32 held) in
    positive (length held) (λ e. ne (least e))
