-- The lexemes that equations unparse to, and where their parts stand.
use Rattle.std.specs.Prelude.{ℕ, Bool, true, ◌&&◌, if◌then◌else◌, List, [], ◌∷◌, ◌++◌, length, nat_lt, flat_map, Option, Some, None}
use Rattle.std.specs.List.{list_all}
use Rattle.sled_parser.specs.declared.class.Class.TheVariants as class
use Rattle.sled_parser.specs.declared.tree.PlaceTree.{PlaceTree}
use Rattle.sled_parser.specs.declared.tree.PlaceTree.TheVariants as place
use Rattle.sled_parser.specs.declared.tree.TermTree.{TermTree}
use Rattle.sled_parser.specs.declared.tree.TermTree.TheVariants as term
use Rattle.sled_parser.specs.declared.tree.SumTree.{SumTree}
use Rattle.sled_parser.specs.declared.tree.EqTree.{EqTree}
use Rattle.sled_parser.specs.Pieces.{Piece}
use Rattle.sled_parser.specs.Trees.{piece_for, word, number, is_name}

-- ---- places

abbrev pub place_spelling : PlaceTree → List Piece
place_spelling (place.Word w) = word w ∷ []
place_spelling (place.Extended w) = word w ∷ piece_for class.Bang ∷ []
place_spelling (place.Slice w lo hi) =
    word w ∷ piece_for class.At ∷ piece_for class.OpenBracket ∷ number lo ∷ piece_for class.Colon ∷ number hi ∷ piece_for class.CloseBracket ∷ []

abbrev pub place_layered : PlaceTree → Bool
place_layered (place.Word w) = is_name w
place_layered (place.Extended w) = is_name w
place_layered (place.Slice w lo hi) = is_name w

-- ---- terms

abbrev pub is_minus : TermTree → Bool
is_minus (term.Number minus n) = minus
is_minus (term.Place minus c at) = minus

abbrev pub coefficient_spelling : Option (List ℕ) → List Piece
coefficient_spelling None = []
coefficient_spelling (Some n) = number n ∷ piece_for class.Star ∷ []

-- a term without its sign
abbrev pub term_spelling : TermTree → List Piece
term_spelling (term.Number minus n) = number n ∷ []
term_spelling (term.Place minus c at) = coefficient_spelling c ++ place_spelling at

abbrev pub term_layered : TermTree → Bool
term_layered (term.Number minus n) = true
term_layered (term.Place minus c at) = place_layered at

-- the sign of the first term of a sum
abbrev pub first_sign : Bool → List Piece
first_sign minus = if minus then piece_for class.Minus ∷ [] else []

-- the sign between two terms
abbrev pub later_sign : Bool → Piece
later_sign minus = if minus then piece_for class.Minus else piece_for class.Plus

abbrev pub first_spelling : TermTree → List Piece
first_spelling t = first_sign (is_minus t) ++ term_spelling t

abbrev pub later_spelling : TermTree → List Piece
later_spelling t = later_sign (is_minus t) ∷ term_spelling t

-- ---- sums and equations

abbrev pub terms_spelling : List TermTree → List Piece
terms_spelling [] = []
terms_spelling (t ∷ ts) = first_spelling t ++ flat_map later_spelling ts

abbrev pub sum_spelling : SumTree → List Piece
sum_spelling s = terms_spelling s.terms

abbrev pub sum_layered : SumTree → Bool
sum_layered s = nat_lt 0 (length s.terms) && list_all term_layered s.terms

abbrev pub equation_spelling : EqTree → List Piece
equation_spelling e = sum_spelling e.left ++ piece_for class.Equal ∷ sum_spelling e.right

abbrev pub equation_layered : EqTree → Bool
equation_layered e = sum_layered e.left && sum_layered e.right
