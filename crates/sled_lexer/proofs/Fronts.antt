-- The lexemes so far, and what comes next.
use Rattle.std.proofs.Common.{◌≡◌, ℕ, ◌+◌, ◌-◌, ◌<◌, ◌≤◌, inl, inr, List, [], ◌∷◌, ◌++◌, length, drop, arith, refl, sym, subst, length-drop}
use Rattle.sled_lexer.specs.declared.Kind.{Kind}
use Rattle.sled_lexer.specs.declared.Lexeme.{Lexeme}
use Rattle.sled_lexer.specs.declared.LexFault.TheVariants as fault
use Rattle.sled_lexer.specs.declared.piece.Stop.TheVariants as stop
use Rattle.sled_lexer.specs.Lexemes.{Front, IsNext, IsGap, InRange, IsFaultAt}
use Rattle.sled_lexer.specs.Cut.{IsPiece, IsStop, ComesNext}

pub front_more : (text : List ℕ) (at : ℕ) (ls : List Lexeme) (end : ℕ) (l : Lexeme) → Front text at ls end → IsNext text end l → Front text at (ls ++ l ∷ []) l.span.end
front_more text at [] end l f n = (let P : ℕ → Type 0 = λ k. IsNext text k l in subst P (sym f) n, refl)
front_more text at (k ∷ ls) end l f n = (f.0, front_more text k.span.end ls end l f.1 n)

pub range_more : (text : List ℕ) (ls : List Lexeme) (l : Lexeme) → InRange text ls → InRange text (l ∷ []) → InRange text (ls ++ l ∷ [])
range_more text [] l f n = n
range_more text (k ∷ ls) l f n = (f.0, range_more text ls l f.1 n)

pub next_of : (text : List ℕ) (at start len : ℕ) (k : Kind) → at ≤ start → IsGap text at start → IsPiece (drop start text) k len
    → ComesNext text at (record { kind = k; span = record { start = start; end = start + len } })
next_of text at start len k order gap piece =
    let e : start + len - start ≡ len = omega arith in
    let fits : len ≤ length (drop start text) = piece.piece.fits in
    let some : 0 < len = piece.some in
    record {
      next = record { gap = gap; order = omega arith; piece = rw e piece.piece };
      in_range = (rw e piece.in_range, tt);
      moves = omega arith;
      within = omega (arith, length-drop start text, fits, gap.1);
    }

-- a byte that the code refuses is a fault there
pub bad_byte_at : (text : List ℕ) (at n : ℕ) → IsStop (drop at text) (stop.BadByte n) → IsFaultAt text at (fault.BadByte (at + n))
bad_byte_at text at n (inl (first, nothing)) = inl (omega (arith, first), nothing)
bad_byte_at text at n (inr breaks) = inr (n, refl, breaks)
