-- How far a listing has come.
use Rattle.std.specs.Prelude.{◌≡◌, ℕ, ◌+◌, ◌^◌, ◌<◌, ◌≤◌, Bool, true, false, List, [], ◌++◌, length, take, drop, Option, None, Some, Result, Ok, Err}
use Rattle.std.specs.Io.KnownBytes.{Appends, Consumes, IsAtEnd}
use Rattle.image_listing.specs.declared.answers.Stop.{Stop}
use Rattle.image_listing.specs.declared.answers.Stop.TheVariants.{NoMatch, AddressEnd}
use Rattle.image_listing.specs.Listing.{Listing, Taking, listing_while, behind, ended}

-- what stands at the place in front of the bytes: a line, and so many bytes of it, or nothing more
abbrev pub IsStep : Taking → ℕ → List ℕ → List ℕ → Result ℕ Stop → Type 0
IsStep taking place bytes line (Ok count) =
    (least : ℕ) → 1 ≤ least → least ≤ length bytes → listing_while least taking place bytes ≡ behind line 1 (listing_while least taking (place + count) (drop count bytes))
IsStep taking place bytes line (Err stop) = (least : ℕ) → 1 ≤ least → least ≤ length bytes → listing_while least taking place bytes ≡ ended place (Some stop)

-- the place ends behind its start, in the window and below the end of the addresses, or it is the one that is refused
abbrev pub IsWithin : ℕ → List ℕ → Result ℕ Stop → Type 0
IsWithin place window (Ok count) = (0 < count) × (count ≤ length window) × (place + count ≤ 2 ^ 32)
IsWithin place window (Err (NoMatch a)) = a ≡ place
IsWithin place window (Err (AddressEnd a)) = a ≡ place

-- which listings can go on so behind the bytes that are held: behind the end of the source there are no more, and before it any, but
-- only places with no more than 32 bytes were decided
abbrev pub MayFollow : Bool → ℕ → List ℕ → Type 0
MayFollow false least more = (1 ≤ least) × (least ≤ 32)
MayFollow true least more = (least ≡ 1) × (more ≡ [])

-- more bytes are held, unless the end was seen before
pub record Filled (before now : List ℕ) (at_end at_end_now : Bool) (left rest : Option (List ℕ)) : Type 0 where
  pub given : List ℕ
  pub read : Consumes left rest given
  pub held : now ≡ before ++ given
  pub last : at_end ≡ true → given ≡ []
  pub stays : at_end ≡ true → at_end_now ≡ true
  pub end : (at_end ≡ true → IsAtEnd left) → at_end_now ≡ true → IsAtEnd rest

-- The bytes that were passed and those that are held were given by the source; the lines of the places that were passed are written.
pub record HasCome (stands : Taking → Type 0) (base : ℕ) (left rest old new : Option (List ℕ)) (held : List ℕ) (at_end : Bool) (places end : ℕ) : Type 0 where
  pub passed : List ℕ
  pub written : List ℕ
  pub read : Consumes left rest (passed ++ held)
  pub wrote : Appends old new written
  pub is_end : at_end ≡ true → IsAtEnd rest
  pub address : end ≡ base + length passed
  pub low : end ≤ 2 ^ 32
  pub counted : places ≤ end
  pub same : (taking : Taking) → stands taking → (least : ℕ) (more : List ℕ) → MayFollow at_end least more
      → listing_while least taking base (passed ++ (held ++ more)) ≡ behind written places (listing_while least taking end (held ++ more))
