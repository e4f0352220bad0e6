-- The lexemes that a statement unparses to, and where its parts stand.
use Rattle.std.specs.Prelude.{◌≡◌, ℕ, Bool, true, List, [], ◌∷◌, ◌++◌, flat_map, Option, Some, None}
use Rattle.std.specs.List.{list_all}
use Rattle.sled_lexer.specs.declared.Kind.TheVariants as kind
use Rattle.sled_parser.specs.declared.class.Class.TheVariants as class
use Rattle.sled_parser.specs.declared.tree.ArmTree.{ArmTree}
use Rattle.sled_parser.specs.declared.tree.ArmsTree.{ArmsTree}
use Rattle.sled_parser.specs.declared.tree.ArmsTree.TheVariants as arms
use Rattle.sled_parser.specs.declared.tree.MatchTree.{MatchTree}
use Rattle.sled_parser.specs.Pieces.{Piece, Input}
use Rattle.sled_parser.specs.Trees.{piece_for, number, spelling, grade}

-- a Text
abbrev pub quoted : List ℕ → Piece
quoted t = record { kind = kind.Text; text = t }

abbrev pub arm_spelling : ArmTree → List Piece
arm_spelling a = piece_for class.Case ∷ (spelling a.pattern ++ piece_for class.Arrow ∷ quoted a.action ∷ [])

abbrev pub arm_layered : ArmTree → Bool
arm_layered a = (grade a.pattern).1

abbrev pub arms_spelling : ArmsTree → List Piece
arms_spelling arms.All = piece_for class.All ∷ []
arms_spelling (arms.Listed xs) = flat_map arm_spelling xs

abbrev pub arms_layered : ArmsTree → Bool
arms_layered arms.All = true
arms_layered (arms.Listed xs) = list_all arm_layered xs

abbrev pub skip_spelling : Option (List ℕ) → List Piece
skip_spelling None = []
skip_spelling (Some n) = piece_for class.Else ∷ piece_for class.Skip ∷ number n ∷ []

abbrev pub statement_spelling : MatchTree → List Piece
statement_spelling t = piece_for class.Match ∷ (arms_spelling t.arms ++ skip_spelling t.skip)

abbrev pub statement_layered : MatchTree → Bool
statement_layered t = arms_layered t.arms

-- the list is what the layered statement unparses to
abbrev pub IsStatement : Input → MatchTree → Type 0
IsStatement i t = (statement_layered t ≡ true) × (i ≡ statement_spelling t)
