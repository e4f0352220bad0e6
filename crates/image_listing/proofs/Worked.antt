-- The listing of a few bytes.
use Rattle.std.proofs.Common.{◌≡◌, [], ◌∷◌, ◌++◌, codes, refl, Some}
use Rattle.std.specs.Fmt.{digits}
use Rattle.hex.specs.Hex.{encode_with}
use Rattle.image_listing.specs.Listing.{listing_by, Taking}

-- four bytes at each place
words : Taking
words place bytes = Some (4, codes "word")

two_words : (listing_by words 0x10 (1 ∷ 0 ∷ 0 ∷ 5 ∷ 2 ∷ 0 ∷ 0 ∷ 0xab ∷ [])).lines ≡ codes "00000010: 01000005  word" ++ (10 ∷ (codes "00000014: 020000ab  word" ++ 10 ∷ []))
unfolding words digits encode_with
two_words = refl
