-- A text has no more lexemes than bytes.
use Rattle.std.proofs.Common.{◌≡◌, ℕ, zero, suc, ◌+◌, ◌-◌, ◌<◌, ◌≤◌, true, false, List, [], ◌∷◌, length, take, drop, arith}
use Rattle.std.proofs.lemmas.List.{length-drop}
use Rattle.sled_lexer.specs.declared.Kind.{Kind}
use Rattle.sled_lexer.specs.declared.Kind.TheVariants as kind
use Rattle.sled_lexer.specs.declared.Lexeme.{Lexeme}
use Rattle.sled_lexer.specs.Spelled.{spelled}
use Rattle.sled_lexer.specs.Lexemes.{Front, IsNext, Lexemes}

-- nothing is spelled as a lexeme
nothing_spelled : (k : Kind) → spelled k [] ≡ true → ⊥
nothing_spelled kind.Word h = cc
nothing_spelled kind.Number h = cc
nothing_spelled kind.Text h = cc
nothing_spelled kind.Mark h = cc

some_spelled : (k : Kind) (n : ℕ) (s : List ℕ) → spelled k (take n s) ≡ true → 0 < n
some_spelled k zero s h = absurd (nothing_spelled k h)
some_spelled k (suc n) s h = omega arith

-- each lexeme takes a byte of the text
front_counts : (text : List ℕ) (at : ℕ) (ls : List Lexeme) (end : ℕ) → at ≤ length text → Front text at ls end → (at + length ls ≤ end) × (end ≤ length text)
front_counts text at [] end within front = (omega (arith, front), omega (arith, front))
front_counts text at (l ∷ ls) end within front =
    let next : IsNext text at l = front.0 in
    let some = some_spelled l.kind (l.span.end - l.span.start) (drop l.span.start text) next.piece.spells in
    let inside : l.span.end ≤ length text = omega (arith, length-drop l.span.start text, next.piece.fits, next.gap.1, next.order) in
    let rest = front_counts text l.span.end ls end inside front.1 in
    (omega (arith, rest.0, some, next.gap.0), rest.1)

pub few : (text : List ℕ) (ls : List Lexeme) → Lexemes text ls → length ls ≤ length text
few text ls all = let counts = front_counts text 0 ls all.0 (omega arith) all.1 in omega (arith, counts.0, counts.1)
