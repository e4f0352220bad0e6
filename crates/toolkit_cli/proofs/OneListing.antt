-- Takings that say the same of each place that has an address give one listing.
use Rattle.std.proofs.Common.{◌≡◌, ℕ, zero, suc, ◌+◌, ◌^◌, ◌<◌, ◌≤◌, ◌⊎◌, inl, inr, cond, leb, ltb, List, length, drop, Option, Some, None, refl, ap, ◌∙◌}
use Rattle.std.proofs.lemmas.Bool.{le-leb, cases_lt}
use Rattle.image_listing.specs.declared.answers.Stop.TheVariants.{AddressEnd}
use Rattle.image_listing.specs.Listing.{Listing, Taking, ended, placed, place_listing, places_from, listing_by}

-- what follows a place counts only where it ends
same_behind : (place : ℕ) (bytes : List ℕ) (o : Option (ℕ × List ℕ)) (f g : ℕ → List ℕ → Listing) → ((p : ℕ) (bs : List ℕ) → f p bs ≡ g p bs) → place_listing place bytes o f ≡ place_listing place bytes o g
same_behind place bytes None f g more = refl
same_behind place bytes (Some (n, text)) f g more = rw (more (place + n) (drop n bytes)) refl

module _ (one other : Taking) (same : (place : ℕ) (bytes : List ℕ) → place < 2 ^ 32 → one place bytes ≡ other place bytes) where
  -- a place behind the addresses is refused, whatever stands there
  one_place : (place : ℕ) (bytes : List ℕ) (f g : ℕ → List ℕ → Listing) → ((p : ℕ) (bs : List ℕ) → f p bs ≡ g p bs) → (place < 2 ^ 32) ⊎ (2 ^ 32 ≤ place)
      → cond (leb (2 ^ 32) place) (ended place (Some (AddressEnd place))) (place_listing place bytes (placed (one place bytes)) f)
      ≡ cond (leb (2 ^ 32) place) (ended place (Some (AddressEnd place))) (place_listing place bytes (placed (other place bytes)) g)
  one_place place bytes f g more (inl low) =
      ap (λ l. cond (leb (2 ^ 32) place) (ended place (Some (AddressEnd place))) l)
      (ap (λ t. place_listing place bytes (placed t) f) (same place bytes low) ∙ same_behind place bytes (placed (other place bytes)) f g more)
  one_place place bytes f g more (inr high) = rw (le-leb (2 ^ 32) place high) refl

  one_places : (k least place : ℕ) (bytes : List ℕ) → places_from k least one place bytes ≡ places_from k least other place bytes
  one_places zero least place bytes = refl
  one_places (suc k) least place bytes =
      ap (λ l. cond (ltb (length bytes) least) (ended place None) l)
      (one_place place bytes (places_from k least one) (places_from k least other) (one_places k least) (cases_lt place (2 ^ 32)))

  pub one_listing : (base : ℕ) (bytes : List ℕ) → listing_by one base bytes ≡ listing_by other base bytes
  one_listing base bytes = one_places (length bytes) 1 base bytes
