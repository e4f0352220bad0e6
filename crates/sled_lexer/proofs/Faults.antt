-- A text has one fault at most, and none where it has lexemes in range.
use Rattle.std.proofs.Common.{◌≡◌, ◌≢◌, ℕ, zero, suc, ◌+◌, ◌-◌, ◌<◌, ◌≤◌, ◌⊎◌, inl, inr, Bool, true, false, List, [], ◌∷◌, length, take, drop, arith, refl, sym, ◌∙◌, ap, subst, get_or}
use Rattle.std.specs.Prelude.{◌||◌, ◌==◌, nat_le, slice_index, if◌then◌else◌}
use Rattle.std.specs.Char.{is_ascii_digit}
use Rattle.std.proofs.lemmas.Bool.Decides.{nat_tests}
use Rattle.sled_base.specs.declared.limits.TheConstants.{MAX_NUMBER}
use Rattle.sled_lexer.specs.declared.Kind.{Kind}
use Rattle.sled_lexer.specs.declared.Kind.TheVariants as kind
use Rattle.sled_lexer.specs.declared.Lexeme.{Lexeme}
use Rattle.sled_lexer.specs.declared.LexFault.{LexFault}
use Rattle.sled_lexer.specs.declared.LexFault.TheVariants as fault
use Rattle.sled_lexer.specs.Spelled.{spelled, is_tail, is_text_byte, is_closed, number_value, quote, line_feed, begins_gap}
use Rattle.sled_lexer.specs.Lexemes.{IsLongest, IsNext, IsGap, Front, InRange, BeginsNothing, OpensText, BreaksText, LeavesOpen, IsTooBig, IsFaultAt, IsFaultAfter}
use Rattle.sled_lexer.specs.Cut.{run_len}
use Rattle.sled_lexer.proofs.Starts.{clash, begins, same_kind, digit_no_quote, empty_spells_nothing}
use Rattle.sled_lexer.proofs.Texts.{closed_only}
use Rattle.sled_lexer.proofs.Between.{same_start, no_tail}
use Rattle.sled_lexer.proofs.Unique.{same_piece, first_of, piece_begins, next_begins, same_next}

-- ---- an open Text

-- the front that passes the test is as long as its bytes pass
run_is_step : (test : ℕ → Bool) (x : Bool) (b : ℕ) (bs : List ℕ) (n : ℕ) → test b ≡ x → run_len test bs ≡ n → x ≡ true → (if x then suc (run_len test bs) else 0) ≡ suc n
run_is_step test true b bs n is more h = ap suc more
run_is_step test false b bs n is more h = absurd cc

run_is : (test : ℕ → Bool) (bs : List ℕ) (n : ℕ) → n ≤ length bs → ((i : ℕ) → i < n → test (get_or bs i 0) ≡ true) → ((n ≡ length bs) ⊎ (test (get_or bs n 0) ≡ false)) → run_len test bs ≡ n
run_is test [] n fits inside stops = omega arith
run_is test (b ∷ bs) zero fits inside (inl end) = absurd (omega arith)
run_is test (b ∷ bs) zero fits inside (inr stop) = rw stop refl
run_is test (b ∷ bs) (suc n) fits inside (inl end) =
    run_is_step test (test b) b bs n refl (run_is test bs n (omega arith) (λ i below. inside (suc i) (omega arith)) (inl (omega arith))) (inside 0 (omega arith))
run_is test (b ∷ bs) (suc n) fits inside (inr stop) =
    run_is_step test (test b) b bs n refl (run_is test bs n (omega arith) (λ i below. inside (suc i) (omega arith)) (inr stop)) (inside 0 (omega arith))

-- an open Text that stops at n has n - 1 bytes
open_len : (b : ℕ) (bs : List ℕ) (n : ℕ) → OpensText (b ∷ bs) n → ((n ≡ length (b ∷ bs)) ⊎ (is_text_byte (get_or (b ∷ bs) n 0) ≡ false)) → n ≡ suc (run_len is_text_byte bs)
open_len b bs zero opened stops = absurd (let some : 0 < zero = opened.some in omega arith)
open_len b bs (suc n) opened stops =
    let fits : suc n ≤ suc (length bs) = opened.fits in
    ap suc (sym (run_is is_text_byte bs n (omega arith) (λ i below. opened.inside (suc i) (omega arith) (omega arith)) (shorter stops)))
  where
    shorter : ((suc n ≡ suc (length bs)) ⊎ (is_text_byte (get_or bs n 0) ≡ false)) → ((n ≡ length bs) ⊎ (is_text_byte (get_or bs n 0) ≡ false))
    shorter (inl end) = inl (omega arith)
    shorter (inr stop) = inr stop

line_feed_stops : (s : List ℕ) (n : ℕ) → ((n ≡ length s) ⊎ (get_or s n 0 ≡ line_feed)) → ((n ≡ length s) ⊎ (is_text_byte (get_or s n 0) ≡ false))
line_feed_stops s n (inl end) = inl end
line_feed_stops s n (inr feed) = inr (rw feed refl)

feed_no_quote : (s : List ℕ) (n : ℕ) → ((n ≡ length s) ⊎ (get_or s n 0 ≡ line_feed)) → ((n ≡ length s) ⊎ (get_or s n 0 ≢ quote))
feed_no_quote s n (inl end) = inl end
feed_no_quote s n (inr feed) = inr (λ is. omega (arith, feed, is))

-- what stands at the front is no lexeme where a Text is opened and not closed
unclosed : (b : ℕ) (bs : List ℕ) (k : Kind) (m n : ℕ) → (b == quote) ≡ true → n ≡ suc (run_len is_text_byte bs) → ((n ≡ length (b ∷ bs)) ⊎ (get_or (b ∷ bs) n 0 ≢ quote)) → m ≤ length (b ∷ bs) → spelled k (take m (b ∷ bs)) ≡ true → ⊥
unclosed b bs k zero n opens is stops fits spells = clash _ spells (empty_spells_nothing k)
unclosed b bs k (suc m) n opens is stops fits spells =
    let text : k ≡ kind.Text = same_kind k kind.Text b (begins k b (take m bs) spells) opens in
    let closes : is_closed (take m bs) ≡ true = rw opens at (subst (λ j. spelled j (b ∷ take m bs) ≡ true) text spells) in
    let closed = closed_only bs m (omega arith) closes in
    by_stop stops closed.0 closed.1
  where
    by_stop : ((n ≡ suc (length bs)) ⊎ (get_or (b ∷ bs) n 0 ≢ quote)) → m ≡ suc (run_len is_text_byte bs) → ((get_or bs (run_len is_text_byte bs) 0 == quote) ≡ true) → ⊥
    by_stop (inl end) len closes = omega arith
    by_stop (inr stop) len closes = stop (rw is (grind (arith, nat_tests)))

-- ---- the fault at a place

-- which fault an open Text is whose bytes end at n
abbrev text_fault : List ℕ → ℕ → ℕ → LexFault
text_fault s at n = if nat_le (length s) n || slice_index s n == line_feed then fault.OpenText at else fault.BadByte (at + n)

-- which fault stands at the front of s, if one does
abbrev the_fault : List ℕ → ℕ → LexFault
the_fault [] at = fault.NoMemory
the_fault (b ∷ bs) at =
    if b == quote then text_fault (b ∷ bs) at (suc (run_len is_text_byte bs)) else (
    if is_ascii_digit b then fault.NumberTooBig at else fault.BadByte at)

alone_no_digit : (b : ℕ) → spelled kind.Number (b ∷ []) ≡ false → is_ascii_digit b ≡ false
alone_no_digit b h = grind (arith, nat_tests)

bad_first : (s : List ℕ) (at : ℕ) → BeginsNothing s → fault.BadByte at ≡ the_fault s at
bad_first [] at nothing = absurd (let some : 0 < length {A = ℕ} [] = nothing.some in omega arith)
bad_first (b ∷ bs) at nothing =
    let no_quote : (b == quote) ≡ false = (let differs : b ≢ quote = nothing.no_quote in grind (arith, nat_tests)) in
    let no_digit : is_ascii_digit b ≡ false = alone_no_digit b (nothing.no_piece kind.Number 1 (omega arith)) in
    rw (no_quote, no_digit) refl

opening : (b : ℕ) → b ≡ quote → (b == quote) ≡ true
opening b is = rw is refl

bad_inside : (s : List ℕ) (at n : ℕ) → BreaksText s n → fault.BadByte (at + n) ≡ the_fault s at
bad_inside [] at n breaks = absurd (let within : n < length {A = ℕ} [] = breaks.within in omega arith)
bad_inside (b ∷ bs) at n breaks =
    let len : n ≡ suc (run_len is_text_byte bs) = open_len b bs n breaks.opened (inr breaks.no_text) in
    let goes : (nat_le (length (b ∷ bs)) n || slice_index (b ∷ bs) n == line_feed) ≡ false = (
    let within : n < length (b ∷ bs) = breaks.within in
    let no_feed : slice_index (b ∷ bs) n ≢ line_feed = breaks.no_line_feed in
    grind (arith, nat_tests)) in
    rw (opening b breaks.opened.opens) (subst (λ k. fault.BadByte (at + n) ≡ text_fault (b ∷ bs) at k) len (rw goes refl))

left_open : (s : List ℕ) (at : ℕ) → LeavesOpen s → fault.OpenText at ≡ the_fault s at
left_open [] at (n, opened, ends) = absurd (let some : 0 < n = opened.some in let fits : n ≤ length {A = ℕ} [] = opened.fits in omega arith)
left_open (b ∷ bs) at (n, opened, ends) =
    let len : n ≡ suc (run_len is_text_byte bs) = open_len b bs n opened (line_feed_stops (b ∷ bs) n ends) in
    let stops : (nat_le (length (b ∷ bs)) n || slice_index (b ∷ bs) n == line_feed) ≡ true = grind (arith, nat_tests) in
    rw (opening b opened.opens) (subst (λ k. fault.OpenText at ≡ text_fault (b ∷ bs) at k) len (rw stops refl))

number_begins : (b : ℕ) (bs : List ℕ) (n : ℕ) → spelled kind.Number (take n (b ∷ bs)) ≡ true → is_ascii_digit b ≡ true
number_begins b bs zero spells = clash _ spells (empty_spells_nothing kind.Number)
number_begins b bs (suc n) spells = begins kind.Number b (take n bs) spells

too_big : (s : List ℕ) (at : ℕ) → IsTooBig s → fault.NumberTooBig at ≡ the_fault s at
too_big [] at (zero, piece, big) = clash _ piece.spells (empty_spells_nothing kind.Number)
too_big [] at (suc n, piece, big) = clash _ piece.spells (empty_spells_nothing kind.Number)
too_big (b ∷ bs) at (n, piece, big) =
    let digit : is_ascii_digit b ≡ true = number_begins b bs n piece.spells in
    rw (digit_no_quote b digit, digit) refl

fault_is : (text : List ℕ) (at : ℕ) (f : LexFault) → IsFaultAt text at f → f ≡ the_fault (drop at text) at
fault_is text at (fault.BadByte place) (inl (here, nothing)) = rw here (bad_first (drop at text) at nothing)
fault_is text at (fault.BadByte place) (inr (n, there, breaks)) = rw there (bad_inside (drop at text) at n breaks)
fault_is text at (fault.OpenText place) (here, open_) = rw here (left_open (drop at text) at open_)
fault_is text at (fault.NumberTooBig place) (here, big) = rw here (too_big (drop at text) at big)
fault_is text at fault.NoMemory none = absurd none

-- ---- a fault begins where a lexeme would

opens_no_gap : (b : ℕ) → b ≡ quote → begins_gap b ≡ false
opens_no_gap b is = rw is refl

fault_begins : (text : List ℕ) (at : ℕ) (f : LexFault) → IsFaultAt text at f → begins_gap (get_or text at 0) ≡ false
fault_begins text at (fault.BadByte place) (inl (here, nothing)) = ap begins_gap (sym (first_of text at)) ∙ nothing.no_gap
fault_begins text at (fault.BadByte place) (inr (n, there, breaks)) = opens_no_gap _ (sym (first_of text at) ∙ breaks.opened.opens)
fault_begins text at (fault.OpenText place) (here, (n, opened, ends)) = opens_no_gap _ (sym (first_of text at) ∙ opened.opens)
fault_begins text at (fault.NumberTooBig place) (here, (n, piece, big)) = piece_begins text at kind.Number n piece
fault_begins text at fault.NoMemory none = absurd none

-- ---- no lexeme in range stands where a fault does

open_no_piece : (s : List ℕ) (k : Kind) (m n : ℕ) → OpensText s n → ((n ≡ length s) ⊎ (is_text_byte (get_or s n 0) ≡ false)) → ((n ≡ length s) ⊎ (get_or s n 0 ≢ quote)) → IsLongest s k m → ⊥
open_no_piece [] k m n opened stops unlike piece = let some : 0 < n = opened.some in let fits : n ≤ length {A = ℕ} [] = opened.fits in omega arith
open_no_piece (b ∷ bs) k m n opened stops unlike piece = unclosed b bs k m n (opening b opened.opens) (open_len b bs n opened stops) unlike piece.fits piece.spells

fault_no_piece : (text : List ℕ) (at : ℕ) (f : LexFault) (k : Kind) (m : ℕ) → IsFaultAt text at f → IsLongest (drop at text) k m → (k ≡ kind.Number → number_value (take m (drop at text)) ≤ MAX_NUMBER) → ⊥
fault_no_piece text at (fault.BadByte place) k m (inl (here, nothing)) piece in_range = clash _ piece.spells (nothing.no_piece k m piece.fits)
fault_no_piece text at (fault.BadByte place) k m (inr (n, there, breaks)) piece in_range = open_no_piece (drop at text) k m n breaks.opened (inr breaks.no_text) (inr breaks.no_quote) piece
fault_no_piece text at (fault.OpenText place) k m (here, (n, opened, ends)) piece in_range = open_no_piece (drop at text) k m n opened (line_feed_stops _ n ends) (feed_no_quote _ n ends) piece
fault_no_piece text at (fault.NumberTooBig place) k m (here, (n, number, big)) piece in_range =
    let same = same_piece (drop at text) k kind.Number m n piece number in
    let len : m ≡ n = same.0 in
    let small : number_value (take m (drop at text)) ≤ MAX_NUMBER = in_range same.1 in
    let large : MAX_NUMBER < number_value (take m (drop at text)) = rw len big in
    omega arith
fault_no_piece text at fault.NoMemory k m none piece in_range = absurd none

next_no_fault : (text : List ℕ) (at : ℕ) (l : Lexeme) (f : LexFault) → IsNext text at l → InRange text (l ∷ []) → IsFaultAfter text at f → ⊥
next_no_fault text at l f next in_range (start, gap, here) =
    let same : start ≡ l.span.start = same_start text at start l.span.start gap (fault_begins text start f here) next.gap (next_begins text at l next) in
    fault_no_piece text l.span.start f l.kind (l.span.end - l.span.start) (subst (λ z. IsFaultAt text z f) same here) next.piece in_range.0

-- ---- the laws

pub no_list_and_fault : (text : List ℕ) (at : ℕ) (ls ms : List Lexeme) (e g : ℕ) (f : LexFault) → Front text at ls e → InRange text ls → is_tail false (drop e text) ≡ true → Front text at ms g → IsFaultAfter text g f → ⊥
no_list_and_fault text at [] [] e g f a ra tail b (start, gap, here) =
    no_tail text at start (subst (λ z. IsGap text z start) (sym b) gap) (fault_begins text start f here) (subst (λ z. is_tail false (drop z text) ≡ true) (sym a) tail)
no_list_and_fault text at [] (m ∷ ms) e g f a ra tail b stop = no_tail text at m.span.start b.0.gap (next_begins text at m b.0) (subst (λ z. is_tail false (drop z text) ≡ true) (sym a) tail)
no_list_and_fault text at (l ∷ ls) [] e g f a ra tail b stop = next_no_fault text at l f a.0 (ra.0, tt) (subst (λ z. IsFaultAfter text z f) (sym b) stop)
no_list_and_fault text at (l ∷ ls) (m ∷ ms) e g f a ra tail b stop =
    let one : l ≡ m = same_next text at l m a.0 b.0 in
    no_list_and_fault text l.span.end ls ms e g f a.1 ra.1 tail (subst (λ z. Front text z.span.end ms g) (sym one) b.1) stop

pub same_fault : (text : List ℕ) (at : ℕ) (ls ms : List Lexeme) (e g : ℕ) (f h : LexFault) → Front text at ls e → InRange text ls → IsFaultAfter text e f → Front text at ms g → InRange text ms → IsFaultAfter text g h → f ≡ h
same_fault text at [] [] e g f h a ra (start, gap, here) b rb (start', gap', here') =
    let same : start ≡ start' = same_start text at start start' (subst (λ z. IsGap text z start) (sym a) gap) (fault_begins text start f here) (subst (λ z. IsGap text z start') (sym b) gap') (fault_begins text start' h here') in
    fault_is text start f here ∙ ap (λ z. the_fault (drop z text) z) same ∙ sym (fault_is text start' h here')
same_fault text at [] (m ∷ ms) e g f h a ra stop b rb stop' = absurd (next_no_fault text at m f b.0 (rb.0, tt) (subst (λ z. IsFaultAfter text z f) (sym a) stop))
same_fault text at (l ∷ ls) [] e g f h a ra stop b rb stop' = absurd (next_no_fault text at l h a.0 (ra.0, tt) (subst (λ z. IsFaultAfter text z h) (sym b) stop'))
same_fault text at (l ∷ ls) (m ∷ ms) e g f h a ra stop b rb stop' =
    let one : l ≡ m = same_next text at l m a.0 b.0 in
    same_fault text l.span.end ls ms e g f h a.1 ra.1 stop (subst (λ z. Front text z.span.end ms g) (sym one) b.1) rb.1 stop'
