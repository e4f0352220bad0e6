-- Each text has lexemes in range, or a fault.
use Rattle.std.proofs.Common.{◌≡◌, ℕ, zero, suc, ◌+◌, ◌<◌, ◌≤◌, ◌⊎◌, inl, inr, Bool, true, false, List, [], ◌∷◌, ◌++◌, length, get_or, drop, arith, refl, ap, ◌∙◌, length-drop, Ok, Err}
use Rattle.std.specs.Prelude.{nat_lt}
use Rattle.std.proofs.lemmas.Bool.Decides.{nat_tests}
use Rattle.sled_lexer.specs.declared.Lexeme.{Lexeme}
use Rattle.sled_lexer.specs.declared.LexFault.{LexFault}
use Rattle.sled_lexer.specs.declared.LexFault.TheVariants as fault
use Rattle.sled_lexer.specs.declared.piece.Stop.TheVariants as stop
use Rattle.sled_lexer.specs.Spelled.{begins_gap}
use Rattle.sled_lexer.specs.Lexemes.{Front, InRange, Lexemes, IsGap, IsLexFault}
use Rattle.sled_lexer.specs.Cut.{Cut, gap_len, cut, Holds}
use Rattle.sled_lexer.proofs.Gaps.{tail_of, gap_of, gap_from_stops}
use Rattle.sled_lexer.proofs.Fronts.{front_more, range_more, next_of, bad_byte_at}
use Rattle.sled_lexer.proofs.Cuts.{holds_of}
use Rattle.sled_lexer.proofs.Unique.{first_of}

-- lexemes in range, or a fault
abbrev pub Either : List ℕ → Type 0
Either text = ((ls : List Lexeme) × Lexemes text ls × InRange text ls) ⊎ ((f : LexFault) × IsLexFault text f)

module _ (text : List ℕ) where
  -- what is left behind some lexemes in range
  abbrev Rest : ℕ → Type 0
  Rest left = (ls : List Lexeme) (at : ℕ) → Front text 0 ls at → InRange text ls → at ≤ length text → length text ≤ at + left → Either text

  by_cut : (left : ℕ) → Rest left → (ls : List Lexeme) (at start : ℕ) → Front text 0 ls at → InRange text ls → at ≤ start → length text ≤ at + suc left → IsGap text at start → (c : Cut) → Holds (drop start text) c → Either text
  by_cut left rest ls at start front in_range order far gap (Ok (k, n)) holds =
      let next = next_of text at start n k order gap holds in
      let past : at < start + n = next.moves in
      let fits : start + n ≤ length text = next.within in
      rest (ls ++ record { kind = k; span = record { start = start; end = start + n } } ∷ []) (start + n) (front_more text 0 ls at _ front next.next) (range_more text ls _ in_range next.in_range) fits (omega arith)
  by_cut left rest ls at start front in_range order far gap (Err (stop.BadByte n)) holds = inr (fault.BadByte (start + n), (ls, at, front, in_range, (start, gap, bad_byte_at text start n holds)))
  by_cut left rest ls at start front in_range order far gap (Err stop.OpenText) holds = inr (fault.OpenText start, (ls, at, front, in_range, (start, gap, (refl, holds))))
  by_cut left rest ls at start front in_range order far gap (Err stop.NumberTooBig) holds = inr (fault.NumberTooBig start, (ls, at, front, in_range, (start, gap, (refl, holds))))

  by_gap : (left : ℕ) → Rest left → (ls : List Lexeme) (at : ℕ) → Front text 0 ls at → InRange text ls → at ≤ length text → length text ≤ at + suc left
      → (t : Bool) → nat_lt (at + gap_len false (drop at text)) (length text) ≡ t → Either text
  by_gap left rest ls at front in_range within far false e = inl (ls, (at, front, tail_of text at (gap_len false (drop at text)) within refl (grind (arith, nat_tests))), in_range)
  by_gap left rest ls at front in_range within far true e =
      let n : ℕ = gap_len false (drop at text) in
      let start : ℕ = at + n in
      let below : start < length text = grind (arith, nat_tests) in
      let some : 0 < length (drop start text) = omega (arith, length-drop start text) in
      let stops : begins_gap (get_or (drop start text) 0 0) ≡ false = ap begins_gap (first_of text start) ∙ gap_from_stops text at n refl below in
      by_cut left rest ls at start front in_range (omega arith) far (gap_of text at n within refl below) (cut (drop start text)) (holds_of (drop start text) some stops)

  from_here : (left : ℕ) → Rest left
  from_here zero ls at front in_range within far = inl (ls, (at, front, tail_of text at (gap_len false (drop at text)) within refl (omega arith)), in_range)
  from_here (suc left) ls at front in_range within far = by_gap left (from_here left) ls at front in_range within far (nat_lt (at + gap_len false (drop at text)) (length text)) refl

  pub list_or_stop : Either text
  list_or_stop = from_here (length text) [] 0 refl tt (omega arith) (omega arith)
