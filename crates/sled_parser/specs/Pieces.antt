-- What a parser reads from, and the steps that every rule is made of.
use Rattle.std.specs.Prelude.{◌≡◌, ℕ, Bool, ◌&&◌, if◌then◌else◌, List, [], ◌∷◌, slice_range, Result, Ok, Err, bytes_eq, codes}
use Rattle.sled_lexer.specs.declared.Kind.{Kind}
use Rattle.sled_lexer.specs.declared.Kind.TheVariants as kind
use Rattle.sled_lexer.specs.declared.Lexeme.{Lexeme}
use Rattle.sled_parser.specs.declared.class.Class.{Class}
use Rattle.sled_parser.specs.declared.class.Class.TheVariants as class
use Rattle.sled_parser.specs.declared.fault.Fault.{Fault}
use Rattle.sled_parser.specs.declared.fault.Fault.TheVariants as fault
use Rattle.sled_parser.specs.Classes.{same_class}

-- a lexeme by its kind and its text
pub record Piece : Type 0 where
  pub kind : Kind
  pub text : List ℕ

abbrev pub piece : List ℕ → Lexeme → Piece
piece text l = record { kind = l.kind; text = slice_range text l.span.start l.span.end }

abbrev pub pieces : List ℕ → List Lexeme → List Piece
pieces text [] = []
pieces text (l ∷ ls) = piece text l ∷ pieces text ls

-- ---- what a lexeme means to the grammar

unfoldable pub mark_class : List ℕ → Class
mark_class t =
    if bytes_eq t (codes "|") then class.Bar else (
    if bytes_eq t (codes ";") then class.Semicolon else (
    if bytes_eq t (codes "&") then class.And else (
    if bytes_eq t (codes "(") then class.Open else (
    if bytes_eq t (codes ")") then class.Close else (
    if bytes_eq t (codes "{") then class.OpenBrace else (
    if bytes_eq t (codes "}") then class.CloseBrace else (
    if bytes_eq t (codes "[") then class.OpenBracket else (
    if bytes_eq t (codes "]") then class.CloseBracket else (
    if bytes_eq t (codes ":") then class.Colon else (
    if bytes_eq t (codes ",") then class.Comma else (
    if bytes_eq t (codes "_") then class.Underscore else (
    if bytes_eq t (codes "...") then class.Ellipsis else (
    if bytes_eq t (codes "=") then class.Equal else (
    if bytes_eq t (codes "!=") then class.Differs else (
    if bytes_eq t (codes "<") then class.Below else (
    if bytes_eq t (codes "<=") then class.AtMost else (
    if bytes_eq t (codes ">") then class.Above else (
    if bytes_eq t (codes ">=") then class.AtLeast else (
    if bytes_eq t (codes "=>") then class.Arrow else (
    if bytes_eq t (codes "@") then class.At else (
    if bytes_eq t (codes "!") then class.Bang else (
    if bytes_eq t (codes "+") then class.Plus else (
    if bytes_eq t (codes "-") then class.Minus else (
    if bytes_eq t (codes "*") then class.Star else (
    class.Other)))))))))))))))))))))))))

unfoldable pub word_class : List ℕ → Class
word_class t =
    if bytes_eq t (codes "all") then class.All else (
    if bytes_eq t (codes "case") then class.Case else (
    if bytes_eq t (codes "constructors") then class.Constructors else (
    if bytes_eq t (codes "else") then class.Else else (
    if bytes_eq t (codes "epsilon") then class.Epsilon else (
    if bytes_eq t (codes "fields") then class.Fields else (
    if bytes_eq t (codes "is") then class.Is else (
    if bytes_eq t (codes "little") then class.Little else (
    if bytes_eq t (codes "match") then class.Match else (
    if bytes_eq t (codes "of") then class.Of else (
    if bytes_eq t (codes "patterns") then class.Patterns else (
    if bytes_eq t (codes "skip") then class.Skip else (
    if bytes_eq t (codes "to") then class.To else (
    if bytes_eq t (codes "version") then class.Version else (
    class.Name))))))))))))))

abbrev pub class_of : Kind → List ℕ → Class
class_of kind.Word t = word_class t
class_of kind.Number t = class.Number
class_of kind.Text t = class.Text
class_of kind.Mark t = mark_class t

-- ---- parsers

abbrev pub Input : Type 0
Input = List Piece

-- what was read and what is left, or what is left where the next lexeme is one with which nothing goes on
abbrev pub Outcome : Type 0 → Type 0
Outcome A = Result (A × Input) Input

abbrev pub Parser : Type 0 → Type 0
Parser A = Input → Outcome A

abbrev pub and_then : {A B : Type 0} → Outcome A → (A → Parser B) → Outcome B
and_then (Ok p) f = f p.0 p.1
and_then (Err e) f = Err e

infixl 10 ◌>>=◌
abbrev pub ◌>>=◌ : {A B : Type 0} → Parser A → (A → Parser B) → Parser B
p >>= f = λ i. and_then (p i) f

infixl 10 ◌>>◌
abbrev pub ◌>>◌ : {A B : Type 0} → Parser A → Parser B → Parser B
p >> q = p >>= (λ _. q)

abbrev pub pure : {A : Type 0} → A → Parser A
pure a = λ i. Ok (a, i)

abbrev pub refuse : {A : Type 0} → Parser A
refuse = λ i. Err i

-- the class of the next lexeme
unfoldable pub ahead : Input → Class
ahead [] = class.End
ahead (p ∷ i) = class_of p.kind p.text

-- the class of the lexeme after it
unfoldable pub second : Input → Class
second [] = class.End
second (p ∷ i) = ahead i

unfoldable pub next : Input → Input
next [] = []
next (p ∷ i) = i

unfoldable pub text_of : Input → List ℕ
text_of [] = []
text_of (p ∷ i) = p.text

unfoldable pub sees : Class → Input → Bool
sees k i = same_class (ahead i) k

abbrev pub looks : Class → Parser Bool
looks k = λ i. Ok (sees k i, i)

-- a name and a colon come next
unfoldable pub sees_label : Input → Bool
sees_label i = same_class (ahead i) class.Name && same_class (second i) class.Colon

-- takes a lexeme of this class, if it comes next
abbrev pub eat : Class → Parser Bool
eat k = λ i. Ok (sees k i, if sees k i then next i else i)

abbrev pub step : Parser (Unit {0})
step = λ i. Ok (tt, next i)

abbrev pub peek : Parser Class
peek = λ i. Ok (ahead i, i)

-- takes the lexeme, whatever it is
abbrev pub take_text : Parser (List ℕ)
take_text = λ i. Ok (text_of i, next i)

-- takes a lexeme of this class, or refuses
unfoldable pub pass : Class → Parser (Unit {0})
pass k = λ i. if sees k i then Ok (tt, next i) else Err i

-- No lexeme is left, or it is refused.
unfoldable pub finish : Parser (Unit {0})
finish = λ i. if sees class.End i then Ok (tt, i) else Err i

-- ---- what a function that parses ensures: the parser's outcome, unless memory fails

abbrev pub Reads : {A : Type 0} → Outcome A → Result A Fault → Input → Type 0
Reads outcome (Ok a) new = outcome ≡ Ok (a, new)
Reads outcome (Err fault.Syntax) new = outcome ≡ Err new
Reads outcome (Err fault.NoMemory) new = Unit {0}
