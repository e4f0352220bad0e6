-- A class that is one lexeme, and the lexeme.
use Rattle.std.proofs.Common.{◌≡◌, ℕ, Bool, true, false, List, [], ◌∷◌, refl, ap, sym, ◌∙◌, subst, arith}
use Rattle.std.specs.Prelude.{◌==◌, if◌then◌else◌, bytes_eq, codes}
use Rattle.std.proofs.lemmas.Slice.Eq.{bytes_eq-Decides}
use Rattle.std.proofs.lemmas.Bool.Decides.{nat_tests}
use Rattle.sled_lexer.specs.declared.Kind.{Kind}
use Rattle.sled_lexer.specs.declared.Kind.TheVariants as kind
use Rattle.sled_parser.specs.declared.class.Class.{Class}
use Rattle.sled_parser.specs.declared.class.Class.TheVariants as class
use Rattle.sled_parser.specs.Classes.{number, same_class}
use Rattle.sled_parser.specs.Pieces.{Piece, Input, class_of, mark_class, word_class, sees, ahead, next, text_of}
use Rattle.sled_parser.specs.Trees as tree
use Rattle.sled_parser.specs.Trees.{piece_for, mark, word, is_name}

pub chosen : {X : Type 0} (P : X → Type 0) (t : Bool) (x y : X) → (t ≡ true → P x) → (t ≡ false → P y) → P (if t then x else y)
chosen P true x y f g = f refl
chosen P false x y f g = g refl

-- the class with a number
abbrev of_number : ℕ → Class
of_number n =
    if n == 0 then class.End else (
    if n == 1 then class.Bar else (
    if n == 2 then class.Semicolon else (
    if n == 3 then class.And else (
    if n == 4 then class.Open else (
    if n == 5 then class.Close else (
    if n == 6 then class.OpenBrace else (
    if n == 7 then class.CloseBrace else (
    if n == 8 then class.OpenBracket else (
    if n == 9 then class.CloseBracket else (
    if n == 10 then class.Colon else (
    if n == 11 then class.Comma else (
    if n == 12 then class.Underscore else (
    if n == 13 then class.Ellipsis else (
    if n == 14 then class.Equal else (
    if n == 15 then class.Differs else (
    if n == 16 then class.Below else (
    if n == 17 then class.AtMost else (
    if n == 18 then class.Above else (
    if n == 19 then class.AtLeast else (
    if n == 20 then class.Arrow else (
    if n == 21 then class.At else (
    if n == 22 then class.Bang else (
    if n == 23 then class.Plus else (
    if n == 24 then class.Minus else (
    if n == 25 then class.Star else (
    if n == 26 then class.All else (
    if n == 27 then class.Case else (
    if n == 28 then class.Constructors else (
    if n == 29 then class.Else else (
    if n == 30 then class.Epsilon else (
    if n == 31 then class.Fields else (
    if n == 32 then class.Is else (
    if n == 33 then class.Little else (
    if n == 34 then class.Match else (
    if n == 35 then class.Of else (
    if n == 36 then class.Patterns else (
    if n == 37 then class.Skip else (
    if n == 38 then class.To else (
    if n == 39 then class.Version else (
    if n == 40 then class.Name else (
    if n == 41 then class.Number else (
    if n == 42 then class.Text else (
    class.Other)))))))))))))))))))))))))))))))))))))))))))

of_number_of : (a : Class) → of_number (number a) ≡ a
of_number_of class.End = refl
of_number_of class.Bar = refl
of_number_of class.Semicolon = refl
of_number_of class.And = refl
of_number_of class.Open = refl
of_number_of class.Close = refl
of_number_of class.OpenBrace = refl
of_number_of class.CloseBrace = refl
of_number_of class.OpenBracket = refl
of_number_of class.CloseBracket = refl
of_number_of class.Colon = refl
of_number_of class.Comma = refl
of_number_of class.Underscore = refl
of_number_of class.Ellipsis = refl
of_number_of class.Equal = refl
of_number_of class.Differs = refl
of_number_of class.Below = refl
of_number_of class.AtMost = refl
of_number_of class.Above = refl
of_number_of class.AtLeast = refl
of_number_of class.Arrow = refl
of_number_of class.At = refl
of_number_of class.Bang = refl
of_number_of class.Plus = refl
of_number_of class.Minus = refl
of_number_of class.Star = refl
of_number_of class.All = refl
of_number_of class.Case = refl
of_number_of class.Constructors = refl
of_number_of class.Else = refl
of_number_of class.Epsilon = refl
of_number_of class.Fields = refl
of_number_of class.Is = refl
of_number_of class.Little = refl
of_number_of class.Match = refl
of_number_of class.Of = refl
of_number_of class.Patterns = refl
of_number_of class.Skip = refl
of_number_of class.To = refl
of_number_of class.Version = refl
of_number_of class.Name = refl
of_number_of class.Number = refl
of_number_of class.Text = refl
of_number_of class.Other = refl

pub same_true : (a b : Class) → same_class a b ≡ true → a ≡ b
unfolding same_class
same_true a b h =
    let e : number a ≡ number b = grind (arith, nat_tests) in
    sym (of_number_of a) ∙ ap of_number e ∙ of_number_of b

pub same_self : (a : Class) → same_class a a ≡ true
unfolding same_class
same_self a = grind (arith, nat_tests)

-- a class that one lexeme alone has
abbrev pub is_fixed : Class → Bool
is_fixed class.End = false
is_fixed class.Name = false
is_fixed class.Number = false
is_fixed class.Text = false
is_fixed class.Other = false
is_fixed _ = true

-- the class of that lexeme
pub class_for : (k : Class) → is_fixed k ≡ true → class_of (piece_for k).kind (piece_for k).text ≡ k
unfolding mark_class word_class
class_for class.End h = absurd cc
class_for class.Bar h = refl
class_for class.Semicolon h = refl
class_for class.And h = refl
class_for class.Open h = refl
class_for class.Close h = refl
class_for class.OpenBrace h = refl
class_for class.CloseBrace h = refl
class_for class.OpenBracket h = refl
class_for class.CloseBracket h = refl
class_for class.Colon h = refl
class_for class.Comma h = refl
class_for class.Underscore h = refl
class_for class.Ellipsis h = refl
class_for class.Equal h = refl
class_for class.Differs h = refl
class_for class.Below h = refl
class_for class.AtMost h = refl
class_for class.Above h = refl
class_for class.AtLeast h = refl
class_for class.Arrow h = refl
class_for class.At h = refl
class_for class.Bang h = refl
class_for class.Plus h = refl
class_for class.Minus h = refl
class_for class.Star h = refl
class_for class.All h = refl
class_for class.Case h = refl
class_for class.Constructors h = refl
class_for class.Else h = refl
class_for class.Epsilon h = refl
class_for class.Fields h = refl
class_for class.Is h = refl
class_for class.Little h = refl
class_for class.Match h = refl
class_for class.Of h = refl
class_for class.Patterns h = refl
class_for class.Skip h = refl
class_for class.To h = refl
class_for class.Version h = refl
class_for class.Name h = absurd cc
class_for class.Number h = absurd cc
class_for class.Text h = absurd cc
class_for class.Other h = absurd cc

bytes_same : (t w : List ℕ) → bytes_eq t w ≡ true → t ≡ w
bytes_same t w h = (bytes_eq-Decides t w).0 h

abbrev Spells : Kind → List ℕ → Class → Type 0
Spells m t x = (k : Class) → x ≡ k → is_fixed k ≡ true → record { kind = m; text = t } ≡ piece_for k

hit : (m : Kind) (t w : List ℕ) (c : Class) → piece_for c ≡ record { kind = m; text = w } → bytes_eq t w ≡ true → Spells m t c
hit m t w c e h k is f = ap (λ x. let y : Piece = record { kind = m; text = x } in y) (bytes_same t w h) ∙ sym e ∙ ap piece_for is

miss : (m : Kind) (t : List ℕ) (c : Class) → is_fixed c ≡ false → Spells m t c
miss m t c free k is f = absurd (let bad : is_fixed k ≡ false = subst (λ x. is_fixed x ≡ false) is free in cc)

mark_spells : (t : List ℕ) → Spells kind.Mark t (mark_class t)
unfolding mark_class
mark_spells t =
    let P : Class → Type 0 = Spells kind.Mark t in
    chosen P (bytes_eq t (codes "|")) _ _ (hit kind.Mark t (codes "|") class.Bar refl) (λ _.
    chosen P (bytes_eq t (codes ";")) _ _ (hit kind.Mark t (codes ";") class.Semicolon refl) (λ _.
    chosen P (bytes_eq t (codes "&")) _ _ (hit kind.Mark t (codes "&") class.And refl) (λ _.
    chosen P (bytes_eq t (codes "(")) _ _ (hit kind.Mark t (codes "(") class.Open refl) (λ _.
    chosen P (bytes_eq t (codes ")")) _ _ (hit kind.Mark t (codes ")") class.Close refl) (λ _.
    chosen P (bytes_eq t (codes "{")) _ _ (hit kind.Mark t (codes "{") class.OpenBrace refl) (λ _.
    chosen P (bytes_eq t (codes "}")) _ _ (hit kind.Mark t (codes "}") class.CloseBrace refl) (λ _.
    chosen P (bytes_eq t (codes "[")) _ _ (hit kind.Mark t (codes "[") class.OpenBracket refl) (λ _.
    chosen P (bytes_eq t (codes "]")) _ _ (hit kind.Mark t (codes "]") class.CloseBracket refl) (λ _.
    chosen P (bytes_eq t (codes ":")) _ _ (hit kind.Mark t (codes ":") class.Colon refl) (λ _.
    chosen P (bytes_eq t (codes ",")) _ _ (hit kind.Mark t (codes ",") class.Comma refl) (λ _.
    chosen P (bytes_eq t (codes "_")) _ _ (hit kind.Mark t (codes "_") class.Underscore refl) (λ _.
    chosen P (bytes_eq t (codes "...")) _ _ (hit kind.Mark t (codes "...") class.Ellipsis refl) (λ _.
    chosen P (bytes_eq t (codes "=")) _ _ (hit kind.Mark t (codes "=") class.Equal refl) (λ _.
    chosen P (bytes_eq t (codes "!=")) _ _ (hit kind.Mark t (codes "!=") class.Differs refl) (λ _.
    chosen P (bytes_eq t (codes "<")) _ _ (hit kind.Mark t (codes "<") class.Below refl) (λ _.
    chosen P (bytes_eq t (codes "<=")) _ _ (hit kind.Mark t (codes "<=") class.AtMost refl) (λ _.
    chosen P (bytes_eq t (codes ">")) _ _ (hit kind.Mark t (codes ">") class.Above refl) (λ _.
    chosen P (bytes_eq t (codes ">=")) _ _ (hit kind.Mark t (codes ">=") class.AtLeast refl) (λ _.
    chosen P (bytes_eq t (codes "=>")) _ _ (hit kind.Mark t (codes "=>") class.Arrow refl) (λ _.
    chosen P (bytes_eq t (codes "@")) _ _ (hit kind.Mark t (codes "@") class.At refl) (λ _.
    chosen P (bytes_eq t (codes "!")) _ _ (hit kind.Mark t (codes "!") class.Bang refl) (λ _.
    chosen P (bytes_eq t (codes "+")) _ _ (hit kind.Mark t (codes "+") class.Plus refl) (λ _.
    chosen P (bytes_eq t (codes "-")) _ _ (hit kind.Mark t (codes "-") class.Minus refl) (λ _.
    chosen P (bytes_eq t (codes "*")) _ _ (hit kind.Mark t (codes "*") class.Star refl) (λ _.
    miss kind.Mark t class.Other refl)))))))))))))))))))))))))

word_spells : (t : List ℕ) → Spells kind.Word t (word_class t)
unfolding word_class
word_spells t =
    let P : Class → Type 0 = Spells kind.Word t in
    chosen P (bytes_eq t (codes "all")) _ _ (hit kind.Word t (codes "all") class.All refl) (λ _.
    chosen P (bytes_eq t (codes "case")) _ _ (hit kind.Word t (codes "case") class.Case refl) (λ _.
    chosen P (bytes_eq t (codes "constructors")) _ _ (hit kind.Word t (codes "constructors") class.Constructors refl) (λ _.
    chosen P (bytes_eq t (codes "else")) _ _ (hit kind.Word t (codes "else") class.Else refl) (λ _.
    chosen P (bytes_eq t (codes "epsilon")) _ _ (hit kind.Word t (codes "epsilon") class.Epsilon refl) (λ _.
    chosen P (bytes_eq t (codes "fields")) _ _ (hit kind.Word t (codes "fields") class.Fields refl) (λ _.
    chosen P (bytes_eq t (codes "is")) _ _ (hit kind.Word t (codes "is") class.Is refl) (λ _.
    chosen P (bytes_eq t (codes "little")) _ _ (hit kind.Word t (codes "little") class.Little refl) (λ _.
    chosen P (bytes_eq t (codes "match")) _ _ (hit kind.Word t (codes "match") class.Match refl) (λ _.
    chosen P (bytes_eq t (codes "of")) _ _ (hit kind.Word t (codes "of") class.Of refl) (λ _.
    chosen P (bytes_eq t (codes "patterns")) _ _ (hit kind.Word t (codes "patterns") class.Patterns refl) (λ _.
    chosen P (bytes_eq t (codes "skip")) _ _ (hit kind.Word t (codes "skip") class.Skip refl) (λ _.
    chosen P (bytes_eq t (codes "to")) _ _ (hit kind.Word t (codes "to") class.To refl) (λ _.
    chosen P (bytes_eq t (codes "version")) _ _ (hit kind.Word t (codes "version") class.Version refl) (λ _.
    miss kind.Word t class.Name refl))))))))))))))

fixed_piece : (q : Piece) → Spells q.kind q.text (class_of q.kind q.text)
fixed_piece q = by_kind q.kind q.text
  where
    by_kind : (m : Kind) (t : List ℕ) → Spells m t (class_of m t)
    by_kind kind.Word t = word_spells t
    by_kind kind.Number t = miss kind.Number t class.Number refl
    by_kind kind.Text t = miss kind.Text t class.Text refl
    by_kind kind.Mark t = mark_spells t

-- what comes next, where a class is seen
pub sees_fixed : (k : Class) (i : Input) → is_fixed k ≡ true → sees k i ≡ true → i ≡ piece_for k ∷ next i
unfolding sees ahead next
sees_fixed k [] f h = absurd (let e : class.End ≡ k = same_true class.End k h in let bad : is_fixed k ≡ false = subst (λ x. is_fixed x ≡ false) e refl in cc)
sees_fixed k (q ∷ i) f h = ap (λ x. x ∷ i) (fixed_piece q k (same_true (class_of q.kind q.text) k h) f)

pub sees_for : (k : Class) (i : Input) → is_fixed k ≡ true → sees k (piece_for k ∷ i) ≡ true
unfolding sees ahead
sees_for k i f = rw (class_for k f) (same_self k)

-- ---- names and numbers

abbrev is_mark_class : Class → Bool
is_mark_class class.End = false
is_mark_class class.All = false
is_mark_class class.Case = false
is_mark_class class.Constructors = false
is_mark_class class.Else = false
is_mark_class class.Epsilon = false
is_mark_class class.Fields = false
is_mark_class class.Is = false
is_mark_class class.Little = false
is_mark_class class.Match = false
is_mark_class class.Of = false
is_mark_class class.Patterns = false
is_mark_class class.Skip = false
is_mark_class class.To = false
is_mark_class class.Version = false
is_mark_class class.Name = false
is_mark_class class.Number = false
is_mark_class class.Text = false
is_mark_class _ = true

abbrev pub is_word_class : Class → Bool
is_word_class class.All = true
is_word_class class.Case = true
is_word_class class.Constructors = true
is_word_class class.Else = true
is_word_class class.Epsilon = true
is_word_class class.Fields = true
is_word_class class.Is = true
is_word_class class.Little = true
is_word_class class.Match = true
is_word_class class.Of = true
is_word_class class.Patterns = true
is_word_class class.Skip = true
is_word_class class.To = true
is_word_class class.Version = true
is_word_class class.Name = true
is_word_class _ = false

mark_class_is : (t : List ℕ) → is_mark_class (mark_class t) ≡ true
unfolding mark_class
mark_class_is t =
    let P : Class → Type 0 = λ c. is_mark_class c ≡ true in
    chosen P (bytes_eq t (codes "|")) class.Bar _ (λ _. refl) (λ _.
    chosen P (bytes_eq t (codes ";")) class.Semicolon _ (λ _. refl) (λ _.
    chosen P (bytes_eq t (codes "&")) class.And _ (λ _. refl) (λ _.
    chosen P (bytes_eq t (codes "(")) class.Open _ (λ _. refl) (λ _.
    chosen P (bytes_eq t (codes ")")) class.Close _ (λ _. refl) (λ _.
    chosen P (bytes_eq t (codes "{")) class.OpenBrace _ (λ _. refl) (λ _.
    chosen P (bytes_eq t (codes "}")) class.CloseBrace _ (λ _. refl) (λ _.
    chosen P (bytes_eq t (codes "[")) class.OpenBracket _ (λ _. refl) (λ _.
    chosen P (bytes_eq t (codes "]")) class.CloseBracket _ (λ _. refl) (λ _.
    chosen P (bytes_eq t (codes ":")) class.Colon _ (λ _. refl) (λ _.
    chosen P (bytes_eq t (codes ",")) class.Comma _ (λ _. refl) (λ _.
    chosen P (bytes_eq t (codes "_")) class.Underscore _ (λ _. refl) (λ _.
    chosen P (bytes_eq t (codes "...")) class.Ellipsis _ (λ _. refl) (λ _.
    chosen P (bytes_eq t (codes "=")) class.Equal _ (λ _. refl) (λ _.
    chosen P (bytes_eq t (codes "!=")) class.Differs _ (λ _. refl) (λ _.
    chosen P (bytes_eq t (codes "<")) class.Below _ (λ _. refl) (λ _.
    chosen P (bytes_eq t (codes "<=")) class.AtMost _ (λ _. refl) (λ _.
    chosen P (bytes_eq t (codes ">")) class.Above _ (λ _. refl) (λ _.
    chosen P (bytes_eq t (codes ">=")) class.AtLeast _ (λ _. refl) (λ _.
    chosen P (bytes_eq t (codes "=>")) class.Arrow _ (λ _. refl) (λ _.
    chosen P (bytes_eq t (codes "@")) class.At _ (λ _. refl) (λ _.
    chosen P (bytes_eq t (codes "!")) class.Bang _ (λ _. refl) (λ _.
    chosen P (bytes_eq t (codes "+")) class.Plus _ (λ _. refl) (λ _.
    chosen P (bytes_eq t (codes "-")) class.Minus _ (λ _. refl) (λ _.
    chosen P (bytes_eq t (codes "*")) class.Star class.Other (λ _. refl) (λ _.
    refl)))))))))))))))))))))))))

pub word_class_is : (t : List ℕ) → is_word_class (word_class t) ≡ true
unfolding word_class
word_class_is t =
    let P : Class → Type 0 = λ c. is_word_class c ≡ true in
    chosen P (bytes_eq t (codes "all")) class.All _ (λ _. refl) (λ _.
    chosen P (bytes_eq t (codes "case")) class.Case _ (λ _. refl) (λ _.
    chosen P (bytes_eq t (codes "constructors")) class.Constructors _ (λ _. refl) (λ _.
    chosen P (bytes_eq t (codes "else")) class.Else _ (λ _. refl) (λ _.
    chosen P (bytes_eq t (codes "epsilon")) class.Epsilon _ (λ _. refl) (λ _.
    chosen P (bytes_eq t (codes "fields")) class.Fields _ (λ _. refl) (λ _.
    chosen P (bytes_eq t (codes "is")) class.Is _ (λ _. refl) (λ _.
    chosen P (bytes_eq t (codes "little")) class.Little _ (λ _. refl) (λ _.
    chosen P (bytes_eq t (codes "match")) class.Match _ (λ _. refl) (λ _.
    chosen P (bytes_eq t (codes "of")) class.Of _ (λ _. refl) (λ _.
    chosen P (bytes_eq t (codes "patterns")) class.Patterns _ (λ _. refl) (λ _.
    chosen P (bytes_eq t (codes "skip")) class.Skip _ (λ _. refl) (λ _.
    chosen P (bytes_eq t (codes "to")) class.To _ (λ _. refl) (λ _.
    chosen P (bytes_eq t (codes "version")) class.Version class.Name (λ _. refl) (λ _.
    refl))))))))))))))

pub name_ahead : (i : Input) → ahead i ≡ class.Name → (i ≡ word (text_of i) ∷ next i) × (is_name (text_of i) ≡ true)
unfolding ahead next text_of
name_ahead [] h = absurd cc
name_ahead (q ∷ i) h = by_kind q.kind q.text h
  where
    by_kind : (m : Kind) (t : List ℕ) → class_of m t ≡ class.Name → ((let y : Piece = record { kind = m; text = t } in y ∷ i) ≡ word t ∷ i) × (is_name t ≡ true)
    by_kind kind.Word t e = (refl, rw e (same_self class.Name))
    by_kind kind.Number t e = absurd cc
    by_kind kind.Text t e = absurd cc
    by_kind kind.Mark t e = absurd (let bad : is_mark_class class.Name ≡ true = rw e at (mark_class_is t) in cc)

-- no mark has the class of a Text
pub no_mark_text : (t : List ℕ) → mark_class t ≡ class.Text → ⊥
no_mark_text t e = let bad : is_mark_class class.Text ≡ true = rw e at (mark_class_is t) in cc

pub number_ahead : (i : Input) → ahead i ≡ class.Number → i ≡ tree.number (text_of i) ∷ next i
unfolding ahead next text_of
number_ahead [] h = absurd cc
number_ahead (q ∷ i) h = by_kind q.kind q.text h
  where
    by_kind : (m : Kind) (t : List ℕ) → class_of m t ≡ class.Number → (let y : Piece = record { kind = m; text = t } in y ∷ i) ≡ tree.number t ∷ i
    by_kind kind.Word t e = absurd (let bad : is_word_class class.Number ≡ true = rw e at (word_class_is t) in cc)
    by_kind kind.Number t e = refl
    by_kind kind.Text t e = absurd cc
    by_kind kind.Mark t e = absurd (let bad : is_mark_class class.Number ≡ true = rw e at (mark_class_is t) in cc)

pub sees_ahead : (k : Class) (i : Input) → sees k i ≡ true → ahead i ≡ k
unfolding sees
sees_ahead k i h = same_true (ahead i) k h

-- the class of a word that is a name
pub ahead_name : (w : List ℕ) (i : Input) → is_name w ≡ true → ahead (word w ∷ i) ≡ class.Name
unfolding ahead
ahead_name w i h = same_true (word_class w) class.Name h

pub ahead_sees : (k : Class) (i : Input) → ahead i ≡ k → sees k i ≡ true
unfolding sees
ahead_sees k i h = rw h (same_self k)

pub ahead_for : (k : Class) (i : Input) → is_fixed k ≡ true → ahead (piece_for k ∷ i) ≡ k
unfolding ahead
ahead_for k i f = class_for k f

-- no lexeme has the class of none
pub ahead_end : (i : Input) → ahead i ≡ class.End → i ≡ []
unfolding ahead
ahead_end [] h = refl
ahead_end (q ∷ i) h = absurd (by_kind q.kind q.text h)
  where
    by_kind : (m : Kind) (t : List ℕ) → class_of m t ≡ class.End → ⊥
    by_kind kind.Word t e = let bad : is_word_class class.End ≡ true = rw e at (word_class_is t) in cc
    by_kind kind.Number t e = cc
    by_kind kind.Text t e = cc
    by_kind kind.Mark t e = let bad : is_mark_class class.End ≡ true = rw e at (mark_class_is t) in cc
