-- What a format with eight digits writes.
use Rattle.std.proofs.Common.{◌≡◌, ◌^◌, ◌-◌, List, [], ℕ, false}
use Rattle.std.specs.Fmt.{padded_integral, format_spec}
use Rattle.image_listing.specs.Listing.{to_eight}
use Rattle.image_listing.proofs.Addresses.{eight_digits as with_eight}

pub eight_digits : (ds : List ℕ) → padded_integral (format_spec 32 0 4 8 (2 ^ 64 - 1)) false [] ds ≡ to_eight ds
eight_digits ds = with_eight ds
