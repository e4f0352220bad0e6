-- What those who stand on `lex` may know: a text has one list of lexemes in range or one fault, and its lexemes lie in it.
use Rattle.std.proofs.Common.{◌≡◌, ℕ, ◌-◌, ◌≤◌, ◌⊎◌, List, [], ◌∷◌, length, drop, arith, length-drop}
use Rattle.sled_lexer.specs.declared.Lexeme.{Lexeme}
use Rattle.sled_lexer.specs.declared.LexFault.{LexFault}
use Rattle.sled_lexer.specs.Lexemes.{IsNext, IsGap, Front, Lexemes, InRange, IsLexFault, AllWithin, AllSpelled}
use Rattle.sled_lexer.proofs.Unique.{same_lists}
use Rattle.sled_lexer.proofs.Each.{list_or_stop}
use Rattle.sled_lexer.proofs.Faults.{same_fault, no_list_and_fault}

-- a text has at most one list of lexemes
pub one_list : (text : List ℕ) (ls ms : List Lexeme) → Lexemes text ls → Lexemes text ms → ls ≡ ms
one_list text ls ms a b = same_lists text 0 ls ms a.0 b.0 a.1 a.2 b.1 b.2

-- a text has at most one fault
pub one_fault : (text : List ℕ) (f g : LexFault) → IsLexFault text f → IsLexFault text g → f ≡ g
one_fault text f g a b = same_fault text 0 a.0 b.0 a.1 b.1 f g a.2 a.3 a.4 b.2 b.3 b.4

-- a text has not both lexemes in range and a fault
pub list_or_fault : (text : List ℕ) (ls : List Lexeme) (f : LexFault) → Lexemes text ls → InRange text ls → IsLexFault text f → ⊥
list_or_fault text ls f a in_range b = no_list_and_fault text 0 ls b.0 a.0 b.1 f a.1 in_range a.2 b.2 b.4

-- a text has one of both
pub each_text : (text : List ℕ) → ((ls : List Lexeme) × Lexemes text ls × InRange text ls) ⊎ ((f : LexFault) × IsLexFault text f)
each_text = list_or_stop

-- the lexeme that comes next lies in the text
next_within : (text : List ℕ) (at : ℕ) (l : Lexeme) → IsNext text at l → (l.span.start ≤ l.span.end) × (l.span.end ≤ length text)
next_within text at l next =
    let gap : IsGap text at l.span.start = next.gap in
    let fits : l.span.end - l.span.start ≤ length (drop l.span.start text) = next.piece.fits in
    (next.order, omega (arith, gap.1, fits, length-drop l.span.start text))

pub front_within : (text : List ℕ) (at : ℕ) (ls : List Lexeme) (end : ℕ) → Front text at ls end → AllWithin text ls
front_within text at [] end front = tt
front_within text at (l ∷ ls) end front = (next_within text at l front.0, front_within text l.span.end ls end front.1)

-- each lexeme of a text lies in the text
pub within : (text : List ℕ) (ls : List Lexeme) → Lexemes text ls → AllWithin text ls
within text ls all = front_within text 0 ls all.0 all.1

front_spelled : (text : List ℕ) (at : ℕ) (ls : List Lexeme) (end : ℕ) → Front text at ls end → AllSpelled text ls
front_spelled text at [] end front = tt
front_spelled text at (l ∷ ls) end front = (front.0.piece.spells, front_spelled text l.span.end ls end front.1)

-- each lexeme of a text is spelled as its kind
pub all_spelled : (text : List ℕ) (ls : List Lexeme) → Lexemes text ls → AllSpelled text ls
all_spelled text ls all = front_spelled text 0 ls all.0 all.1
