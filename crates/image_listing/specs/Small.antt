-- What the decoder of the tests stands for.
use Rattle.std.specs.Prelude.{ℕ, ◌%◌, min, List, length, slice_index, decimal, Some}
use Rattle.image_listing.specs.Listing.{Taking}

-- as many bytes as the low two bits of the first byte say, or all that are left; its text is the first byte
abbrev pub small_taking : Taking
small_taking place bytes = Some (min (slice_index bytes 0 % 4) (length bytes), decimal (slice_index bytes 0))
