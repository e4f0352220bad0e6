-- The lexemes that a tree unparses to, and where its parts stand.
use Rattle.std.specs.Prelude.{◌≡◌, ℕ, suc, Bool, true, ◌&&◌, List, [], ◌∷◌, ◌++◌, length, max, nat_le, nat_lt, map, codes}
use Rattle.std.specs.List.{list_all}
use Rattle.sled_lexer.specs.declared.Kind.TheVariants as kind
use Rattle.sled_parser.specs.declared.class.Class.{Class}
use Rattle.sled_parser.specs.declared.class.Class.TheVariants as class
use Rattle.sled_parser.specs.declared.tree.PatternTree.{PatternTree, fold-PatternTree}
use Rattle.sled_parser.specs.declared.tree.PatternTree.TheOpen.{PatternTree-F}
use Rattle.sled_parser.specs.declared.tree.PatternTree.TheOpen as p
use Rattle.sled_parser.specs.declared.tree.ArgumentTree.{ArgumentTree, fold-ArgumentTree}
use Rattle.sled_parser.specs.declared.tree.ArgumentTree.TheOpen.{ArgumentTree-F}
use Rattle.sled_parser.specs.declared.tree.ArgumentTree.TheOpen as argument
use Rattle.sled_parser.specs.declared.tree.RelationTree.{RelationTree}
use Rattle.sled_parser.specs.declared.tree.RelationTree.TheVariants as relation
use Rattle.sled_parser.specs.declared.tree.ValueTree.{ValueTree}
use Rattle.sled_parser.specs.declared.tree.ValueTree.TheVariants as value
use Rattle.sled_parser.specs.Classes.{same_class}
use Rattle.sled_parser.specs.Pieces.{Piece, word_class}

abbrev pub mark : List ℕ → Piece
mark t = record { kind = kind.Mark; text = t }

abbrev pub word : List ℕ → Piece
word t = record { kind = kind.Word; text = t }

abbrev pub number : List ℕ → Piece
number t = record { kind = kind.Number; text = t }

-- the lexeme of a mark or a reserved word; of the other classes there are many
abbrev pub piece_for : Class → Piece
piece_for class.Bar = mark (codes "|")
piece_for class.Semicolon = mark (codes ";")
piece_for class.And = mark (codes "&")
piece_for class.Open = mark (codes "(")
piece_for class.Close = mark (codes ")")
piece_for class.OpenBrace = mark (codes "{")
piece_for class.CloseBrace = mark (codes "}")
piece_for class.OpenBracket = mark (codes "[")
piece_for class.CloseBracket = mark (codes "]")
piece_for class.Colon = mark (codes ":")
piece_for class.Comma = mark (codes ",")
piece_for class.Underscore = mark (codes "_")
piece_for class.Ellipsis = mark (codes "...")
piece_for class.Equal = mark (codes "=")
piece_for class.Differs = mark (codes "!=")
piece_for class.Below = mark (codes "<")
piece_for class.AtMost = mark (codes "<=")
piece_for class.Above = mark (codes ">")
piece_for class.AtLeast = mark (codes ">=")
piece_for class.Arrow = mark (codes "=>")
piece_for class.At = mark (codes "@")
piece_for class.Bang = mark (codes "!")
piece_for class.Plus = mark (codes "+")
piece_for class.Minus = mark (codes "-")
piece_for class.Star = mark (codes "*")
piece_for class.All = word (codes "all")
piece_for class.Case = word (codes "case")
piece_for class.Constructors = word (codes "constructors")
piece_for class.Else = word (codes "else")
piece_for class.Epsilon = word (codes "epsilon")
piece_for class.Fields = word (codes "fields")
piece_for class.Is = word (codes "is")
piece_for class.Little = word (codes "little")
piece_for class.Match = word (codes "match")
piece_for class.Of = word (codes "of")
piece_for class.Patterns = word (codes "patterns")
piece_for class.Skip = word (codes "skip")
piece_for class.To = word (codes "to")
piece_for class.Version = word (codes "version")
piece_for _ = mark []

-- a Word that is not reserved
abbrev pub is_name : List ℕ → Bool
is_name w = same_class (word_class w) class.Name

-- ---- lists with a mark between two

abbrev pub followed : Piece → List (List Piece) → List Piece
followed m [] = []
followed m (x ∷ xs) = m ∷ (x ++ followed m xs)

abbrev pub join : Piece → List (List Piece) → List Piece
join m [] = []
join m (x ∷ xs) = x ++ followed m xs

-- ---- values and arguments

abbrev pub relation_piece : RelationTree → Piece
relation_piece relation.Equal = piece_for class.Equal
relation_piece relation.Differs = piece_for class.Differs
relation_piece relation.Below = piece_for class.Below
relation_piece relation.AtMost = piece_for class.AtMost
relation_piece relation.Above = piece_for class.Above
relation_piece relation.AtLeast = piece_for class.AtLeast

abbrev pub value_spelling : ValueTree → List Piece
value_spelling (value.One n) = number n ∷ []
value_spelling (value.Range a b) = piece_for class.OpenBrace ∷ number a ∷ piece_for class.To ∷ number b ∷ piece_for class.CloseBrace ∷ []
value_spelling (value.Listed ns) = piece_for class.OpenBrace ∷ (map number ns ++ piece_for class.CloseBrace ∷ [])

abbrev pub value_layered : ValueTree → Bool
value_layered (value.One n) = true
value_layered (value.Range a b) = true
value_layered (value.Listed ns) = nat_lt 0 (length ns)

abbrev pub argument_step : ArgumentTree-F (List Piece) → List Piece
argument_step argument.Any = piece_for class.Underscore ∷ []
argument_step (argument.Name w) = word w ∷ []
argument_step (argument.Inner w args) = word w ∷ piece_for class.Open ∷ (join (piece_for class.Comma) args ++ piece_for class.Close ∷ [])

unfoldable pub argument_spelling : ArgumentTree → List Piece
argument_spelling = fold-ArgumentTree (List Piece) argument_step

abbrev pub argument_layered_step : ArgumentTree-F Bool → Bool
argument_layered_step argument.Any = true
argument_layered_step (argument.Name w) = is_name w
argument_layered_step (argument.Inner w args) = is_name w && list_all (λ b. b) args

unfoldable pub argument_layered : ArgumentTree → Bool
argument_layered = fold-ArgumentTree Bool argument_layered_step

-- ---- patterns

abbrev pub pattern_step : PatternTree-F (List Piece) → List Piece
pattern_step (p.Either xs) = join (piece_for class.Bar) xs
pattern_step (p.Chain xs) = join (piece_for class.Semicolon) xs
pattern_step (p.Both xs) = join (piece_for class.And) xs
pattern_step (p.Labelled w x) = word w ∷ piece_for class.Colon ∷ x
pattern_step (p.Loose x) = x ++ piece_for class.Ellipsis ∷ []
pattern_step (p.Group x) = piece_for class.Open ∷ (x ++ piece_for class.Close ∷ [])
pattern_step p.Empty = piece_for class.Epsilon ∷ []
pattern_step (p.Word w) = word w ∷ []
pattern_step (p.Limit w r v) = word w ∷ relation_piece r ∷ value_spelling v
pattern_step (p.Apply w args) = word w ∷ piece_for class.Open ∷ (join (piece_for class.Comma) (map argument_spelling args) ++ piece_for class.Close ∷ [])

unfoldable pub spelling : PatternTree → List Piece
spelling = fold-PatternTree (List Piece) pattern_step

-- the layer at which a tree stands, and whether all its parts stand where the grammar has them
abbrev pub members : ℕ → List (ℕ × Bool) → Bool
members below xs = nat_lt 1 (length xs) && list_all (λ g. nat_le g.0 below && g.1) xs

abbrev pub grade_step : PatternTree-F (ℕ × Bool) → ℕ × Bool
grade_step (p.Either xs) = (5, members 4 xs)
grade_step (p.Chain xs) = (4, members 3 xs)
grade_step (p.Both xs) = (3, members 2 xs)
grade_step (p.Labelled w x) = (2, is_name w && (nat_le x.0 1 && x.1))
grade_step (p.Loose x) = (1, nat_le x.0 0 && x.1)
grade_step (p.Group x) = (0, x.1)
grade_step p.Empty = (0, true)
grade_step (p.Word w) = (0, is_name w)
grade_step (p.Limit w r v) = (0, is_name w && value_layered v)
grade_step (p.Apply w args) = (0, is_name w && list_all argument_layered args)

unfoldable pub grade : PatternTree → ℕ × Bool
grade = fold-PatternTree (ℕ × Bool) grade_step

abbrev pub rank : PatternTree → ℕ
rank t = (grade t).0

abbrev pub IsLayered : PatternTree → Type 0
IsLayered t = (grade t).1 ≡ true

-- ---- how deep brackets stand inside one another

abbrev pub deepest : List ℕ → ℕ
deepest [] = 0
deepest (n ∷ ns) = max n (deepest ns)

abbrev pub argument_nesting_step : ArgumentTree-F ℕ → ℕ
argument_nesting_step argument.Any = 0
argument_nesting_step (argument.Name w) = 0
argument_nesting_step (argument.Inner w args) = suc (deepest args)

unfoldable pub argument_nesting : ArgumentTree → ℕ
argument_nesting = fold-ArgumentTree ℕ argument_nesting_step

abbrev pub nesting_step : PatternTree-F ℕ → ℕ
nesting_step (p.Either xs) = deepest xs
nesting_step (p.Chain xs) = deepest xs
nesting_step (p.Both xs) = deepest xs
nesting_step (p.Labelled w x) = x
nesting_step (p.Loose x) = x
nesting_step (p.Group x) = suc x
nesting_step p.Empty = 0
nesting_step (p.Word w) = 0
nesting_step (p.Limit w r v) = 0
nesting_step (p.Apply w args) = suc (deepest (map argument_nesting args))

unfoldable pub nesting : PatternTree → ℕ
nesting = fold-PatternTree ℕ nesting_step
