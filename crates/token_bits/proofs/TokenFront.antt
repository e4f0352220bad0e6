-- A token is a matter of its own bytes.
use Rattle.std.proofs.Common.{◌≡◌, ℕ, ◌+◌, ◌-◌, ◌<◌, ◌≤◌, ◌⊎◌, inl, inr, cond, leb, min, List, length, take, drop, Some, None, sym, ap, ◌∙◌, arith}
use Rattle.std.proofs.lemmas.Bool.{le-leb, lt-leb, cases_lt}
use Rattle.std.proofs.lemmas.List.{take-take, drop-take, length-take}
use Rattle.token_bits.specs.declared.tokens.Class.{Class}
use Rattle.token_bits.specs.Tokens.{byte_count, token, number_of, in_order}

fits_front : (k n m : ℕ) → k ≤ n → leb k (min n m) ≡ leb k m
fits_front k n m h = by_order (cases_lt m k)
  where
    by_order : (m < k) ⊎ (k ≤ m) → leb k (min n m) ≡ leb k m
    by_order (inl less) = lt-leb k (min n m) (omega arith) ∙ sym (lt-leb k m less)
    by_order (inr more) = le-leb k (min n m) (omega arith) ∙ sym (le-leb k m more)

module _ (class : Class) (bytes : List ℕ) (i n : ℕ) where
  front_bytes : i + byte_count class ≤ n → take (byte_count class) (drop i (take n bytes)) ≡ take (byte_count class) (drop i bytes)
  front_bytes h =
      let r = n - i in let parts : n ≡ i + r = omega arith in
      ap (λ k. take (byte_count class) (drop i (take k bytes))) parts ∙ ap (take (byte_count class)) (drop-take i r bytes) ∙ take-take (byte_count class) r (drop i bytes) (omega arith)

  -- one that ends within the first bytes is the same there
  pub token-front : i + byte_count class ≤ n → token class (take n bytes) i ≡ token class bytes i
  token-front h =
      let k = i + byte_count class in
      ap (λ b. cond b (Some (number_of (in_order class.order (take (byte_count class) (drop i (take n bytes)))))) None) (ap (leb k) (length-take n bytes) ∙ fits_front k n (length bytes) h)
      ∙ ap (λ front. cond (leb k (length bytes)) (Some (number_of (in_order class.order front))) None) (front_bytes h)

  -- and one that does not is not there
  pub token-past : n < i + byte_count class → token class (take n bytes) i ≡ None
  token-past h =
      ap (λ b. cond b (Some (number_of (in_order class.order (take (byte_count class) (drop i (take n bytes)))))) None) (lt-leb (i + byte_count class) (length (take n bytes)) (omega (arith, length-take n bytes)))
