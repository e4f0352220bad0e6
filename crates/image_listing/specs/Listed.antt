-- How a listing of a source into a sink ended.
use Rattle.std.specs.Prelude.{◌≡◌, ℕ, ◌+◌, ◌-◌, ◌<◌, ◌≤◌, List, ◌++◌, length, take, drop, Option, None, Some, Result, Ok, Err}
use Rattle.std.specs.Option.{ForSome}
use Rattle.std.specs.Io.KnownBytes.{Appends, Consumes, IsAtEnd}
use Rattle.sled_base.specs.Causes.{Rose}
use Rattle.sled_base.specs.Contents.{AppendsProperPrefix}
use Rattle.image_listing.specs.declared.answers.Stop.{Stop}
use Rattle.image_listing.specs.declared.answers.Stop.TheVariants as stop
use Rattle.image_listing.specs.declared.answers.Listed.{Listed}
use Rattle.image_listing.specs.declared.answers.ListFault.{ListFault}
use Rattle.image_listing.specs.declared.answers.ListFault.TheVariants.{NoMatch, AddressEnd, ReadFault, WriteFault, NoMemory}
use Rattle.image_listing.specs.Listing.{Listing, Taking, listing_by, listing_front, behind}

-- how a listing is answered that stops so
abbrev pub fault_of : Stop → ListFault
fault_of (stop.NoMatch a) = NoMatch a
fault_of (stop.AddressEnd a) = AddressEnd a

-- all lines are written, and the listing ended so
pub record WroteListing (end : Option Stop) (old new : Option (List ℕ)) (l : Listing) : Type 0 where
  pub lines : Appends old new l.lines
  pub stop : l.stop ≡ end

-- the lines are so many, and end at that address
pub record IsCounted (listed : Listed) (l : Listing) : Type 0 where
  pub places : listed.places ≡ l.places
  pub end : listed.end ≡ l.end

-- the source gave no more than 64 bytes behind the first `listed` ones
abbrev pub GaveAtMost : ℕ → Option (List ℕ) → Option (List ℕ) → Type 0
GaveAtMost listed left rest = (given : List ℕ) × (length given ≤ listed + 64) × Consumes left rest given

-- the lines of a front were written, and of the others nothing
abbrev pub WrotePart : Option (List ℕ) → Option (List ℕ) → Listing → Type 0
WrotePart old new l = (n : ℕ) × Appends old new (take n l.lines)

-- the bytes that were given have the front's lines, and these are what was written
pub record WroteFront (taking : Taking) (base : ℕ) (left rest old new : Option (List ℕ)) : Type 0 where
  pub given : List ℕ
  pub read : Consumes left rest given
  pub lines : Appends old new (listing_front taking base given).lines
  pub stop : (listing_front taking base given).stop ≡ None

-- The listing was cut in a line: the lines of the first `listed` bytes are written, and a part of what follows, but not all of it. The
-- source gave no more than 64 bytes behind those.
pub record WasCut (taking : Taking) (base : ℕ) (left rest old new : Option (List ℕ)) : Type 0 where
  pub listed : ℕ
  pub gave : GaveAtMost listed left rest
  pub cut : ForSome left (λ bytes. (lines : List ℕ) × (places : ℕ) × (listing_by taking base bytes ≡ behind lines places (listing_by taking (base + listed) (drop listed bytes)))
      × ((n : ℕ) × (n < length (listing_by taking (base + listed) (drop listed bytes)).lines) × Appends old new (lines ++ take n (listing_by taking (base + listed) (drop listed bytes)).lines)))

-- The listing stopped at a place, and all lines before it are written; the source gave no more than 64 bytes from that place on.
pub record Stopped (taking : Taking) (base at : ℕ) (stop : Stop) (left rest old new : Option (List ℕ)) : Type 0 where
  pub from : base ≤ at
  pub gave : GaveAtMost (at - base) left rest
  pub wrote : ForSome left (λ bytes. WroteListing (Some stop) old new (listing_by taking base bytes))

-- Ok: the input was read to its end and all of it is listed. A refused place: all lines before it are written. A read fault: the lines of
-- the bytes that were given are written, as far as their front decides them. A write fault: a front of the lines is written, and not all
-- of them. No memory: a front of the lines. The source is never asked for more than a window of bytes behind what is listed. A fault of
-- the outside comes only where its count rose. What the source had left is `left` before and `rest` after, what the sink had is `old`
-- before and `new` after.
abbrev pub IsListed : Taking → ℕ → Option (List ℕ) → Option (List ℕ) → ℕ → ℕ → Option (List ℕ) → Option (List ℕ) → ℕ → ℕ → Result Listed ListFault → Type 0
IsListed taking base left rest in_count in_new old new count new_count (Ok listed) =
    IsAtEnd rest × ForSome left (λ bytes. WroteListing None old new (listing_by taking base bytes)) × ForSome left (λ bytes. IsCounted listed (listing_by taking base bytes))
IsListed taking base left rest in_count in_new old new count new_count (Err (NoMatch a)) = Stopped taking base a (stop.NoMatch a) left rest old new
IsListed taking base left rest in_count in_new old new count new_count (Err (AddressEnd a)) = Stopped taking base a (stop.AddressEnd a) left rest old new
IsListed taking base left rest in_count in_new old new count new_count (Err ReadFault) =
    Rose in_count in_new × WroteFront taking base left rest old new × ForSome left (λ bytes. WrotePart old new (listing_by taking base bytes))
IsListed taking base left rest in_count in_new old new count new_count (Err WriteFault) =
    Rose count new_count × WasCut taking base left rest old new × ForSome left (λ bytes. AppendsProperPrefix old new (listing_by taking base bytes).lines)
IsListed taking base left rest in_count in_new old new count new_count (Err NoMemory) = ForSome left (λ bytes. WrotePart old new (listing_by taking base bytes))
