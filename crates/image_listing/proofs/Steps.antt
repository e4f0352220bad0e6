-- One place more.
use Rattle.std.proofs.Common.{◌≡◌, ℕ, ◌+◌, ◌^◌, ◌<◌, ◌≤◌, List, ◌++◌, length, take, drop, Option, Some, None, refl, sym, ap, ◌∙◌, arith}
use Rattle.std.proofs.lemmas.Bool.{le-ltb, lt-ltb}
use Rattle.std.proofs.lemmas.List.{take-take}
use Rattle.image_listing.specs.declared.answers.Stop.TheVariants.{NoMatch, AddressEnd}
use Rattle.image_listing.specs.Listing.{Listing, Taking, ended, placed, behind, place_listing, line_text, listing_while}
use Rattle.image_listing.proofs.Places.{while-place, while-past}

module _ (least : ℕ) (taking : Taking) (one : 1 ≤ least) (place : ℕ) (bytes : List ℕ) (some : least ≤ length bytes) where
  at_place : (o : Option (ℕ × List ℕ)) → placed (taking place bytes) ≡ o → place < 2 ^ 32 → listing_while least taking place bytes ≡ place_listing place bytes o (listing_while least taking)
  at_place o is low = while-place least taking one place bytes some low ∙ ap (λ t. place_listing place bytes t (listing_while least taking)) is

  -- nothing stands there
  pub nothing : placed (taking place bytes) ≡ None → place < 2 ^ 32 → listing_while least taking place bytes ≡ ended place (Some (NoMatch place))
  nothing is low = at_place None is low

  -- it has a byte behind the addresses
  pub past_end : (count : ℕ) (words : List ℕ) → placed (taking place bytes) ≡ Some (count, words) → place < 2 ^ 32 → 2 ^ 32 < place + count
      → listing_while least taking place bytes ≡ ended place (Some (AddressEnd place))
  past_end count words is low over = at_place (Some (count, words)) is low ∙ rw (lt-ltb (2 ^ 32) (place + count) over) refl

  -- its line
  pub a_line : (count : ℕ) (words window line : List ℕ) → placed (taking place bytes) ≡ Some (count, words) → place < 2 ^ 32 → place + count ≤ 2 ^ 32
      → window ≡ take 32 bytes → count ≤ 32 → line ≡ line_text place (take count window) words
      → listing_while least taking place bytes ≡ behind line 1 (listing_while least taking (place + count) (drop count bytes))
  a_line count words window line is low near front few made =
      at_place (Some (count, words)) is low
      ∙ rw (le-ltb (2 ^ 32) (place + count) near)
      (ap (λ l. behind l 1 (listing_while least taking (place + count) (drop count bytes)))
      (ap (λ b. line_text place b words) (sym (ap (take count) front ∙ take-take count 32 bytes few)) ∙ sym made))
