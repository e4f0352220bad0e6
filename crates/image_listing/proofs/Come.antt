-- How far a listing has come, from place to place.
use Rattle.std.proofs.Common.{◌≡◌, ℕ, ◌+◌, ◌^◌, ◌<◌, ◌≤◌, Bool, true, false, List, [], ◌++◌, length, take, drop, Option, Some, None, Ok, refl, sym, ap, subst, ◌∙◌, append_assoc, append-nil, add_assoc, zero-add, length-append, length-take, arith}
use Rattle.std.specs.Io.KnownBytes.{Appends, Consumes, IsAtEnd}
use Rattle.std.proofs.lemmas.List.{take-append-le, drop-append-le, take-append-drop}
use Rattle.sled_base.proofs.ContentsLemmas.{Appends-trans, Appends-none}
use Rattle.sled_base.proofs.ReadsLemmas.{Consumes-trans}
use Rattle.image_listing.specs.Listing.{Listing, Taking, behind, listing_while}
use Rattle.image_listing.specs.Places.{IsStep, MayFollow, Filled, HasCome}

-- nothing is written yet
pub behind-none : (l : Listing) → l ≡ behind [] 0 l
behind-none l = rw (zero-add) refl

-- the lines of some places, and then a line
pub behind-behind : (lines line : List ℕ) (places : ℕ) (l : Listing) → behind lines places (behind line 1 l) ≡ behind (lines ++ line) (places + 1) l
behind-behind lines line places l = rw (append_assoc, add_assoc) refl

Consumes-none : (a : Option (List ℕ)) → Consumes a a []
Consumes-none None = tt
Consumes-none (Some x) = refl

-- what may follow bytes that were read further
may_before : (at_end at_now : Bool) (least : ℕ) (given more : List ℕ) → (at_end ≡ true → given ≡ []) → (at_end ≡ true → at_now ≡ true) → MayFollow at_now least more → MayFollow at_end least (given ++ more)
may_before false false least given more last stays may = may
may_before false true least given more last stays may = (omega arith, omega arith)
may_before true false least given more last stays may = let e = stays refl in absurd (cc)
may_before true true least given more last stays may = (may.0, let none = last refl in rw (none, may.1) refl)

-- the window is the front of all that is left
pub window_front : (at_end : Bool) (least : ℕ) (held more : List ℕ) → (at_end ≡ false → 32 ≤ length held) → MayFollow at_end least more → take 32 held ≡ take 32 (held ++ more)
window_front false least held more enough may = let many : 32 ≤ length held = enough refl in sym (take-append-le 32 held more many)
window_front true least held more enough may = rw (may.1, append-nil) refl

-- there are as many bytes as a place needs
pub enough_left : (at_end : Bool) (least : ℕ) (held more : List ℕ) → (at_end ≡ false → 32 ≤ length held) → 0 < length held → MayFollow at_end least more → least ≤ length (held ++ more)
enough_left false least held more enough some may = let many : 32 ≤ length held = enough refl in omega (arith, length-append held more)
enough_left true least held more enough some may = omega (arith, length-append held more)

one_at_least : (at_end : Bool) (least : ℕ) (more : List ℕ) → MayFollow at_end least more → 1 ≤ least
one_at_least false least more may = may.0
one_at_least true least more may = omega arith

module _ (stands : Taking → Type 0) (base : ℕ) (left old : Option (List ℕ)) where
  pub come_start : base ≤ 2 ^ 32 → HasCome stands base left left old old [] false 0 base
  come_start low = record {
    passed = [];
    written = [];
    read = Consumes-none left;
    wrote = Appends-none old;
    is_end = λ e. absurd (cc);
    address = omega arith;
    low = low;
    counted = omega arith;
    same = λ taking s least more may. behind-none (listing_while least taking base more);
  }

  -- more is held
  pub come_filled : (rest then new : Option (List ℕ)) (held now : List ℕ) (at_end at_now : Bool) (places end : ℕ) → HasCome stands base left rest old new held at_end places end
      → Filled held now at_end at_now rest then → HasCome stands base left then old new now at_now places end
  come_filled rest then new held now at_end at_now places end come filled = record {
    passed = come.passed;
    written = come.written;
    read = subst (Consumes left then) (append_assoc come.passed held filled.given ∙ ap (λ b. come.passed ++ b) (sym filled.held)) (Consumes-trans left rest then (come.passed ++ held) filled.given come.read filled.read);
    wrote = come.wrote;
    is_end = filled.end come.is_end;
    address = come.address;
    low = come.low;
    counted = come.counted;
    same = λ taking s least more may.
        subst (λ (b : List ℕ). listing_while least taking base (come.passed ++ b) ≡ behind come.written places (listing_while least taking end b))
        (sym (append_assoc held filled.given more) ∙ ap (λ b. b ++ more) (sym filled.held))
        (come.same taking s least (filled.given ++ more) (may_before at_end at_now least filled.given more filled.last filled.stays may));
  }

  -- a line is written, and its bytes are passed
  pub come_line : (rest new then : Option (List ℕ)) (held now line : List ℕ) (at_end at_now : Bool) (places end count places_now end_now : ℕ)
      → HasCome stands base left rest old new held at_end places end → (at_end ≡ false → 32 ≤ length held) → 0 < length held
      → ((taking : Taking) (bytes : List ℕ) → stands taking → take 32 held ≡ take 32 bytes → IsStep taking end bytes line (Ok count))
      → count ≤ length held → 0 < count → end + count ≤ 2 ^ 32 → Appends new then line → now ≡ drop count held → at_now ≡ at_end → places_now ≡ places + 1 → end_now ≡ end + count
      → HasCome stands base left rest old then now at_now places_now end_now
  come_line rest new then held now line at_end at_now places end count places_now end_now come enough some step within one near appends passed same_end places_is end_is = record {
    passed = come.passed ++ take count held;
    written = come.written ++ line;
    read = subst (Consumes left rest) (parts held now (rw passed (sym (take-append-drop count held)))) come.read;
    wrote = Appends-trans old new then come.written line come.wrote appends;
    is_end = λ e. come.is_end (sym same_end ∙ e);
    address = omega (arith, come.address, length-append come.passed (take count held), length-take count held);
    low = omega arith;
    counted = omega (arith, come.counted);
    same = λ taking s least more may_now.
        let may : MayFollow at_end least more = subst (λ (b : Bool). MayFollow b least more) same_end may_now in
        let one_place = step taking (held ++ more) s (window_front at_end least held more enough may) least (one_at_least at_end least more may) (enough_left at_end least held more enough some may) in
        let rest_is : drop count (held ++ more) ≡ now ++ more = drop-append-le count held more within ∙ ap (λ b. b ++ more) (sym passed) in
        ap (listing_while least taking base) (sym (parts (held ++ more) (now ++ more) (rw passed (whole more))))
        ∙ come.same taking s least more may
        ∙ ap (behind come.written places) (one_place ∙ ap (λ b. behind line 1 (listing_while least taking (end + count) b)) rest_is)
        ∙ behind-behind come.written line places (listing_while least taking (end + count) (now ++ more))
        ∙ rw (places_is, end_is) refl;
  }
    where
      parts : (all behind_it : List ℕ) → all ≡ take count held ++ behind_it → come.passed ++ all ≡ (come.passed ++ take count held) ++ behind_it
      parts all behind_it is = ap (λ b. come.passed ++ b) is ∙ sym (append_assoc come.passed (take count held) behind_it)

      whole : (more : List ℕ) → held ++ more ≡ take count held ++ (drop count held ++ more)
      whole more = ap (λ b. b ++ more) (sym (take-append-drop count held)) ∙ append_assoc (take count held) (drop count held) more
