-- How a listing ends, by how far it has come.
use Rattle.std.proofs.Common.{◌≡◌, ℕ, ◌+◌, ◌-◌, ◌^◌, ◌<◌, ◌≤◌, Bool, true, false, List, [], ◌++◌, length, take, drop, Option, Some, None, Ok, Err, refl, sym, ap, subst, ◌∙◌, append_assoc, append-nil, length-append, arith}
use Rattle.std.specs.Option.{ForSome}
use Rattle.std.specs.Io.KnownBytes.{Appends, Consumes, IsAtEnd}
use Rattle.std.proofs.lemmas.List.{take-append-le}
use Rattle.std.proofs.Math.Seq.{take-append_seam, take-append-add, drop-append_seam}
use Rattle.sled_base.specs.Contents.{AppendsProperPrefix}
use Rattle.sled_base.specs.Causes.{Rose}
use Rattle.sled_base.proofs.ContentsLemmas.{Appends-trans}
use Rattle.image_listing.specs.declared.answers.Stop.{Stop}
use Rattle.image_listing.specs.declared.answers.Stop.TheVariants.{NoMatch, AddressEnd}
use Rattle.image_listing.specs.declared.answers.Listed.{Listed}
use Rattle.image_listing.specs.declared.answers.ListFault.{ListFault}
use Rattle.image_listing.specs.declared.answers.ListFault.TheVariants as fault
use Rattle.image_listing.specs.Listing.{Listing, Taking, behind, ended, listing_while, listing_by, listing_front}
use Rattle.image_listing.specs.Listed.{WroteListing, IsCounted, GaveAtMost, WrotePart, WroteFront, WasCut, Stopped, IsListed, fault_of}
use Rattle.image_listing.specs.Places.{IsStep, IsWithin, MayFollow, HasCome}
use Rattle.image_listing.proofs.Places.{while-short}
use Rattle.image_listing.proofs.Come.{window_front, enough_left}

-- what of the source's bytes is behind those that are held, and the lines from there on
record Left (taking : Taking) (base : ℕ) (passed written held : List ℕ) (at_end : Bool) (places end : ℕ) (bytes : List ℕ) : Type 0 where
  pub more : List ℕ
  pub may : MayFollow at_end 1 more
  pub is : bytes ≡ passed ++ (held ++ more)
  pub same : listing_by taking base bytes ≡ behind written places (listing_by taking end (held ++ more))

behind_held : (left rest : Option (List ℕ)) (passed held bytes : List ℕ) → left ≡ Some bytes → Consumes left rest (passed ++ held) → (more : List ℕ) × (bytes ≡ passed ++ (held ++ more)) × (IsAtEnd rest → more ≡ [])
behind_held None rest passed held bytes told read = absurd (cc)
behind_held (Some all) None passed held bytes told read = absurd read
behind_held (Some all) (Some more) passed held bytes told read =
    let same : all ≡ bytes = cc in (more, sym same ∙ read ∙ append_assoc passed held more, λ e. e)

may_be : (at_end : Bool) (more : List ℕ) → (at_end ≡ true → more ≡ []) → MayFollow at_end 1 more
may_be false more none = (omega arith, omega arith)
may_be true more none = (refl, none refl)

nothing_left : (taking : Taking) (place : ℕ) (held more : List ℕ) → held ≡ [] → more ≡ [] → listing_by taking place (held ++ more) ≡ ended place None
nothing_left taking place held more none end = rw (none, end) refl

module _ (stands : Taking → Type 0) (taking : Taking) (stood : stands taking) (base : ℕ) (left rest old new : Option (List ℕ)) (held : List ℕ) (at_end : Bool) (places end : ℕ)
    (come : HasCome stands base left rest old new held at_end places end)
  where
    left_over : (bytes : List ℕ) → left ≡ Some bytes → Left taking base come.passed come.written held at_end places end bytes
    left_over bytes told =
        let b = behind_held left rest come.passed held bytes told come.read in
        let may = may_be at_end b.0 (λ e. b.2 (come.is_end e)) in
        record {
          more = b.0;
          may = may;
          is = b.1;
          same = ap (listing_by taking base) b.1 ∙ come.same taking stood 1 b.0 may;
        }

    -- the lines that are written are a front of all
    written_front : (l : Listing) (bytes : List ℕ) → listing_by taking base bytes ≡ behind come.written places l → take (length come.written) (listing_by taking base bytes).lines ≡ come.written
    written_front l bytes is = ap (λ (m : Listing). take (length come.written) m.lines) is ∙ take-append_seam come.written l.lines

    pub wrote_part : ForSome left (λ bytes. WrotePart old new (listing_by taking base bytes))
    wrote_part bytes told =
        let l = left_over bytes told in
        (length come.written, subst (λ (b : List ℕ). Appends old new b) (sym (written_front (listing_by taking end (held ++ l.more)) bytes l.same)) come.wrote)

    -- the end: nothing is held
    pub all_listed : held ≡ [] → at_end ≡ true → (listed : Listed) → listed.places ≡ places → listed.end ≡ end
        → IsAtEnd rest × ForSome left (λ bytes. WroteListing None old new (listing_by taking base bytes)) × ForSome left (λ bytes. IsCounted listed (listing_by taking base bytes))
    all_listed none seen listed places_are end_is = (come.is_end seen, λ bytes told. wrote bytes (whole bytes told), λ bytes told. counted bytes (whole bytes told))
      where
        whole : (bytes : List ℕ) → left ≡ Some bytes → listing_by taking base bytes ≡ behind come.written places (ended end None)
        whole bytes told =
            let l = left_over bytes told in
            let may : MayFollow true 1 l.more = subst (λ (b : Bool). MayFollow b 1 l.more) seen l.may in
            l.same ∙ ap (behind come.written places) (nothing_left taking end held l.more none may.1)

        wrote : (bytes : List ℕ) → listing_by taking base bytes ≡ behind come.written places (ended end None) → WroteListing None old new (listing_by taking base bytes)
        wrote bytes is = record {
          lines = subst (λ (b : List ℕ). Appends old new b) (sym (ap (λ (l : Listing). l.lines) is ∙ append-nil come.written)) come.wrote;
          stop = ap (λ (l : Listing). l.stop) is;
        }

        counted : (bytes : List ℕ) → listing_by taking base bytes ≡ behind come.written places (ended end None) → IsCounted listed (listing_by taking base bytes)
        counted bytes is = let count = ap (λ (l : Listing). l.places) is in record { places = omega (arith, count); end = end_is ∙ sym (ap (λ (l : Listing). l.end) is) }

    -- a read failed before the end: fewer bytes are held than decide a place
    pub front_written : at_end ≡ false → length held < 32 → WroteFront taking base left rest old new
    front_written unended few =
        let may : MayFollow at_end 32 [] = subst (λ (b : Bool). MayFollow b 32 []) (sym unended) (omega arith, omega arith) in
        let is : listing_front taking base (come.passed ++ held) ≡ behind come.written places (ended end None) =
        ap (λ b. listing_front taking base (come.passed ++ b)) (sym (append-nil held)) ∙ come.same taking stood 32 [] may
        ∙ ap (λ b. behind come.written places (listing_front taking end b)) (append-nil held) ∙ ap (behind come.written places) (while-short 32 taking end held few) in
        record {
          given = come.passed ++ held;
          read = come.read;
          lines = subst (λ (b : List ℕ). Appends old new b) (sym (ap (λ (l : Listing). l.lines) is ∙ append-nil come.written)) come.wrote;
          stop = ap (λ (l : Listing). l.stop) is;
        }

    module _ (enough : at_end ≡ false → 32 ≤ length held) (some : 0 < length held) (bounded : length held ≤ 64) where
      -- the source gave no more than what is held behind what is listed
      gave : GaveAtMost (end - base) left rest
      gave = (come.passed ++ held, omega (arith, length-append come.passed held, come.address), come.read)

      -- a place is refused
      pub stopped : (stop : Stop) → ((bytes : List ℕ) → take 32 held ≡ take 32 bytes → (least : ℕ) → 1 ≤ least → least ≤ length bytes → listing_while least taking end bytes ≡ ended end (Some stop))
          → Stopped taking base end stop left rest old new
      stopped stop refused = record {
        from = omega (arith, come.address);
        gave = gave;
        wrote = λ bytes told.
            let l = left_over bytes told in
            let here = refused (held ++ l.more) (window_front at_end 1 held l.more enough l.may) 1 (omega arith) (enough_left at_end 1 held l.more enough some l.may) in
            wrote bytes (l.same ∙ ap (behind come.written places) here);
      }
        where
          wrote : (bytes : List ℕ) → listing_by taking base bytes ≡ behind come.written places (ended end (Some stop)) → WroteListing (Some stop) old new (listing_by taking base bytes)
          wrote bytes is = record {
            lines = subst (λ (b : List ℕ). Appends old new b) (sym (ap (λ (l : Listing). l.lines) is ∙ append-nil come.written)) come.wrote;
            stop = ap (λ (l : Listing). l.stop) is;
          }

      -- how that is answered
      pub refused : (in_count in_new count new_count : ℕ) (window line : List ℕ) (stop : Stop) (answer : ListFault) → answer ≡ fault_of stop → IsWithin end window (Err stop)
          → ((bytes : List ℕ) → take 32 held ≡ take 32 bytes → IsStep taking end bytes line (Err stop)) → IsListed taking base left rest in_count in_new old new count new_count (Err answer)
      refused in_count in_new count new_count window line stop answer is within step =
          subst (λ (f : ListFault). IsListed taking base left rest in_count in_new old new count new_count (Err f)) (sym is) (by_stop stop within step)
        where
          by_stop : (s : Stop) → IsWithin end window (Err s) → ((bytes : List ℕ) → take 32 held ≡ take 32 bytes → IsStep taking end bytes line (Err s))
              → IsListed taking base left rest in_count in_new old new count new_count (Err (fault_of s))
          by_stop (NoMatch a) at step = subst (λ (p : ℕ). Stopped taking base p (NoMatch a) left rest old new) (sym at) (stopped (NoMatch a) step)
          by_stop (AddressEnd a) at step = subst (λ (p : ℕ). Stopped taking base p (AddressEnd a) left rest old new) (sym at) (stopped (AddressEnd a) step)

      -- a write failed in a line
      module _ (line : List ℕ) (count n : ℕ) (then : Option (List ℕ)) (step : (bytes : List ℕ) → take 32 held ≡ take 32 bytes → IsStep taking end bytes line (Ok count))
          (part : n < length line) (wrote : Appends new then (take n line))
        where
          -- the lines from the place on, of which the line that was cut is the first
          first_line : (bytes : List ℕ) (l : Left taking base come.passed come.written held at_end places end bytes)
              → listing_by taking end (held ++ l.more) ≡ behind line 1 (listing_by taking (end + count) (drop count (held ++ l.more)))
          first_line bytes l = step (held ++ l.more) (window_front at_end 1 held l.more enough l.may) 1 (omega arith) (enough_left at_end 1 held l.more enough some l.may)

          is_part : (m l : Listing) → m ≡ behind line 1 l → n < length m.lines
          is_part m l is = omega (arith, ap (λ (k : Listing). length k.lines) is, length-append line l.lines)

          part_same : (m l : Listing) → m ≡ behind line 1 l → take n m.lines ≡ take n line
          part_same m l is = let within : n ≤ length line = omega arith in ap (λ (k : Listing). take n k.lines) is ∙ take-append-le n line l.lines within

          pub was_cut : WasCut taking base left rest old then
          was_cut = record {
            listed = length come.passed;
            gave = (come.passed ++ held, omega (arith, length-append come.passed held), come.read);
            cut = λ bytes told.
                let l = left_over bytes told in
                let next = listing_by taking (end + count) (drop count (held ++ l.more)) in
                let from : listing_by taking (base + length come.passed) (drop (length come.passed) bytes) ≡ behind line 1 next =
                ap (λ p. listing_by taking p (drop (length come.passed) bytes)) (sym come.address)
                ∙ ap (listing_by taking end) (ap (drop (length come.passed)) l.is ∙ drop-append_seam come.passed (held ++ l.more)) ∙ first_line bytes l in (
                  come.written,
                  places,
                  l.same ∙ ap (behind come.written places) (first_line bytes l ∙ sym from),
                  (
                    n,
                    is_part _ next from,
                    subst (λ (b : List ℕ). Appends old then (come.written ++ b)) (sym (part_same _ next from)) (Appends-trans old new then come.written (take n line) come.wrote wrote),
                  ),
                );
          }

          pub proper_part : ForSome left (λ bytes. AppendsProperPrefix old then (listing_by taking base bytes).lines)
          proper_part bytes told =
              let l = left_over bytes told in
              let next = listing_by taking (end + count) (drop count (held ++ l.more)) in
              let here : (listing_by taking base bytes).lines ≡ come.written ++ (line ++ next.lines) = ap (λ (m : Listing). m.lines) (l.same ∙ ap (behind come.written places) (first_line bytes l)) in
              let within : n ≤ length line = omega arith in (
                length come.written + n,
                omega (arith, ap length here, length-append come.written (line ++ next.lines), length-append line next.lines),
                subst (λ (b : List ℕ). Appends old then b)
                    (sym (ap (take (length come.written + n)) here ∙ take-append-add come.written (line ++ next.lines) n ∙ ap (λ b. come.written ++ b) (take-append-le n line next.lines within)))
                    (Appends-trans old new then come.written (take n line) come.wrote wrote),
              )
