-- What a format with eight digits writes.
use Rattle.std.proofs.Common.{◌≡◌, ◌^◌, ◌-◌, List, [], ℕ, length, false, append-nil, arith}
use Rattle.std.specs.Fmt.{padded_integral, format_spec, char_count}
use Rattle.image_listing.specs.Listing.{to_eight}

pub eight_digits : (ds : List ℕ) → padded_integral (format_spec 32 0 4 8 (2 ^ 64 - 1)) false [] ds ≡ to_eight ds
unfolding padded_integral char_count
eight_digits ds = let e : 8 - length ds - 0 - 0 ≡ 8 - length ds = omega arith in rw (e, append-nil)
