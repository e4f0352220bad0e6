-- A listing of bytes: a line for each place, by what says of a place how long it is and what its text is.
use Rattle.std.specs.Prelude.{ℕ, zero, suc, ◌+◌, ◌-◌, ◌^◌, nat_le, nat_lt, List, [], ◌∷◌, ◌++◌, length, take, drop, replicate, false, codes, Option, None, Some, if◌then◌else◌}
use Rattle.std.specs.Fmt.{digits}
use Rattle.hex.specs.Hex.{encode_lower}
use Rattle.image_listing.specs.declared.answers.Stop.{Stop}
use Rattle.image_listing.specs.declared.answers.Stop.TheVariants.{NoMatch, AddressEnd}

-- the lines, how many they are, the address behind the last, and why the listing ends before its bytes, where it does
pub record Listing : Type 0 where
  pub lines : List ℕ
  pub places : ℕ
  pub end : ℕ
  pub stop : Option Stop

-- ---- a line

-- digits with zeros in front, so that they are eight at least
abbrev pub to_eight : List ℕ → List ℕ
to_eight ds = replicate (8 - length ds) 48 ++ ds

-- an address in lower-case hexadecimal
abbrev pub address_text : ℕ → List ℕ
address_text address = to_eight (digits 16 false address)

-- the line of a place: its address, its bytes and its text
abbrev pub line_text : ℕ → List ℕ → List ℕ → List ℕ
line_text address bytes text = address_text address ++ (codes ": " ++ (encode_lower bytes ++ (codes "  " ++ (text ++ 10 ∷ []))))

-- ---- what stands at a place

-- what says of a place and the bytes left there how many of them it takes and what its text is, if anything stands there
abbrev pub Taking : Type 0
Taking = ℕ → List ℕ → Option (ℕ × List ℕ)

-- a place takes a byte at least: where none is taken, nothing stands there
abbrev pub placed : Option (ℕ × List ℕ) → Option (ℕ × List ℕ)
placed None = None
placed (Some (n, text)) = if nat_lt 0 n then Some (n, text) else None

-- ---- from place to place

-- no line more
abbrev pub ended : ℕ → Option Stop → Listing
ended place stop = record { lines = []; places = 0; end = place; stop = stop }

-- the lines of so many places, and then the others
abbrev pub behind : List ℕ → ℕ → Listing → Listing
behind lines places l = record { lines = lines ++ l.lines; places = places + l.places; end = l.end; stop = l.stop }

-- the place, by what stands there, and then what follows from where it ends
abbrev pub place_listing : ℕ → List ℕ → Option (ℕ × List ℕ) → (ℕ → List ℕ → Listing) → Listing
place_listing place bytes None more = ended place (Some (NoMatch place))
place_listing place bytes (Some (n, text)) more =
    if nat_lt (2 ^ 32) (place + n) then ended place (Some (AddressEnd place))
    else behind (line_text place (take n bytes) text) 1 (more (place + n) (drop n bytes))

-- at most so many places, as long as at least `least` bytes are left
abbrev pub places_from : ℕ → ℕ → Taking → ℕ → List ℕ → Listing
places_from zero least taking place bytes = ended place None
places_from (suc k) least taking place bytes =
    if nat_lt (length bytes) least then ended place None
    else if nat_le (2 ^ 32) place then ended place (Some (AddressEnd place))
    else place_listing place bytes (placed (taking place bytes)) (places_from k least taking)

-- all places before the first that has fewer than `least` bytes left: they are at most as many as the bytes, since each takes one at
-- least
abbrev pub listing_while : ℕ → Taking → ℕ → List ℕ → Listing
listing_while least taking place bytes = places_from (length bytes) least taking place bytes

-- the listing of the bytes, the first of which stands at this address: all places
abbrev pub listing_by : Taking → ℕ → List ℕ → Listing
listing_by taking place bytes = listing_while 1 taking place bytes

-- the lines of the front, which no further byte changes: the places that have 32 bytes left at least
abbrev pub listing_front : Taking → ℕ → List ℕ → Listing
listing_front taking place bytes = listing_while 32 taking place bytes
