-- Listings from place to place.
use Rattle.std.proofs.Common.{◌≡◌, ℕ, zero, suc, ◌+◌, ◌-◌, ◌^◌, ◌<◌, ◌≤◌, ◌⊎◌, inl, inr, cond, leb, ltb, List, [], ◌∷◌, length, take, drop, Option, Some, None, refl, ap, subst, ◌∙◌, arith}
use Rattle.std.proofs.lemmas.Bool.{le-leb, lt-leb, le-ltb, lt-ltb, cases_lt}
use Rattle.std.proofs.lemmas.List.{length-drop}
use Rattle.image_listing.specs.declared.answers.Stop.TheVariants.{AddressEnd}
use Rattle.image_listing.specs.Listing.{Listing, Taking, ended, placed, place_listing, places_from, listing_while}

same_count : (p q : ℕ × List ℕ) → Some p ≡ Some q → 0 < p.0 → 0 < q.0
same_count p q e some = let same : p ≡ q = cc in subst (λ (x : ℕ × List ℕ). 0 < x.0) same some

-- a place takes a byte at least
pub placed-some : (o : Option (ℕ × List ℕ)) (n : ℕ) (text : List ℕ) → placed o ≡ Some (n, text) → 0 < n
placed-some None n text e = absurd (cc)
placed-some (Some (k, t)) n text e = by_count (cases_lt 0 k)
  where
    by_count : (0 < k) ⊎ (k ≤ 0) → 0 < n
    by_count (inl some) =
        let here = rw (lt-ltb 0 k some) at e in
        same_count (k, t) (n, text) here some
    by_count (inr none) = let here = rw (le-ltb 0 k none) at e in absurd (cc)

-- what follows a place counts only where it ends
place-same : (place : ℕ) (bytes : List ℕ) (o : Option (ℕ × List ℕ)) (f g : ℕ → List ℕ → Listing)
    → ((n : ℕ) (text : List ℕ) → o ≡ Some (n, text) → f (place + n) (drop n bytes) ≡ g (place + n) (drop n bytes)) → place_listing place bytes o f ≡ place_listing place bytes o g
place-same place bytes None f g h = refl
place-same place bytes (Some (n, text)) f g h = rw (h n text refl) refl

module _ (least : ℕ) (taking : Taking) (one : 1 ≤ least) where
  -- a count of places that is no less than the bytes is enough
  enough : (k m place : ℕ) (bytes : List ℕ) → length bytes ≤ k → length bytes ≤ m → places_from k least taking place bytes ≡ places_from m least taking place bytes
  enough zero zero place bytes h i = refl
  enough zero (suc m) place bytes h i = rw (lt-ltb (length bytes) least (omega arith)) refl
  enough (suc k) zero place bytes h i = rw (lt-ltb (length bytes) least (omega arith)) refl
  enough (suc k) (suc m) place bytes h i =
      ap (λ l. cond (ltb (length bytes) least) (ended place None) (cond (leb (2 ^ 32) place) (ended place (Some (AddressEnd place))) l))
      (place-same place bytes (placed (taking place bytes)) (places_from k least taking) (places_from m least taking)
      (λ n text e. let some = placed-some (taking place bytes) n text e in
      enough k m (place + n) (drop n bytes) (omega (arith, length-drop n bytes)) (omega (arith, length-drop n bytes))))

  -- the place in front, and then the listing of what follows
  pub while-place : (place : ℕ) (bytes : List ℕ) → least ≤ length bytes → place < 2 ^ 32
      → listing_while least taking place bytes ≡ place_listing place bytes (placed (taking place bytes)) (listing_while least taking)
  while-place place [] some low = absurd (omega arith)
  while-place place (b ∷ bs) some low =
      ap (λ t. cond t (ended place None) (cond (leb (2 ^ 32) place) (ended place (Some (AddressEnd place))) (place_listing place (b ∷ bs) (placed (taking place (b ∷ bs))) (places_from (length bs) least taking))))
      (le-ltb (length (b ∷ bs)) least some)
      ∙ ap (λ t. cond t (ended place (Some (AddressEnd place))) (place_listing place (b ∷ bs) (placed (taking place (b ∷ bs))) (places_from (length bs) least taking))) (lt-leb (2 ^ 32) place low)
      ∙ place-same place (b ∷ bs) (placed (taking place (b ∷ bs))) (places_from (length bs) least taking) (listing_while least taking)
      (λ n text e. let some = placed-some (taking place (b ∷ bs)) n text e in
      enough (length bs) (length (drop n (b ∷ bs))) (place + n) (drop n (b ∷ bs)) (omega (arith, length-drop n (b ∷ bs))) (omega arith))

  -- behind the end of the addresses
  pub while-past : (place : ℕ) (bytes : List ℕ) → least ≤ length bytes → 2 ^ 32 ≤ place → listing_while least taking place bytes ≡ ended place (Some (AddressEnd place))
  while-past place [] some high = absurd (omega arith)
  while-past place (b ∷ bs) some high = rw (le-ltb (length (b ∷ bs)) least some, le-leb (2 ^ 32) place high) refl

-- with too few bytes there is no place
pub while-short : (least : ℕ) (taking : Taking) (place : ℕ) (bytes : List ℕ) → length bytes < least → listing_while least taking place bytes ≡ ended place None
while-short least taking place [] few = refl
while-short least taking place (b ∷ bs) few = rw (lt-ltb (length (b ∷ bs)) least few) refl
