-- How deep brackets stand inside one another.
use Rattle.std.specs.Prelude.{ℕ, suc, ◌-◌, Bool, true, false, ◌&&◌, if◌then◌else◌, nat_le, List, [], ◌∷◌, Option, Some, None}
use Rattle.sled_lexer.specs.declared.Lexeme.{Lexeme}
use Rattle.sled_parser.specs.declared.class.Class.{Class}
use Rattle.sled_parser.specs.declared.class.Class.TheVariants as class
use Rattle.sled_parser.specs.Pieces.{Piece, piece, class_of}

abbrev pub opens : Class → Bool
opens class.Open = true
opens class.OpenBrace = true
opens class.OpenBracket = true
opens _ = false

abbrev pub closes : Class → Bool
closes class.Close = true
closes class.CloseBrace = true
closes class.CloseBracket = true
closes _ = false

-- how many brackets are open behind a lexeme of this class, where this many are before it
unfoldable pub depth_behind : ℕ → Class → ℕ
depth_behind depth k = if opens k then suc depth else (if closes k then depth - 1 else depth)

-- A bracket opens inside 64 others.
unfoldable pub too_deep : ℕ → Class → Bool
too_deep depth k = opens k && nat_le 64 depth

abbrev pub class_at : Piece → Class
class_at q = class_of q.kind q.text

-- the first opening bracket inside 64 others, where this many are open before the lexemes
unfoldable pub nest_fault_from : List ℕ → ℕ → List Lexeme → Option ℕ
nest_fault_from text depth [] = None
nest_fault_from text depth (l ∷ ls) =
    if too_deep depth (class_at (piece text l)) then Some l.span.start else nest_fault_from text (depth_behind depth (class_at (piece text l))) ls

-- the start of the first opening bracket that stands inside 64 others
abbrev pub nest_fault : List ℕ → List Lexeme → Option ℕ
nest_fault text ls = nest_fault_from text 0 ls
