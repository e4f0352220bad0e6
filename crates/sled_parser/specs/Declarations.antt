-- The lexemes that a description unparses to, and where its declarations stand.
use Rattle.std.specs.Prelude.{◌≡◌, ℕ, Bool, true, false, ◌&&◌, if◌then◌else◌, List, [], ◌∷◌, ◌++◌, map, flat_map, Option, Some, None}
use Rattle.std.specs.List.{list_all}
use Rattle.sled_parser.specs.declared.class.Class.TheVariants as class
use Rattle.sled_parser.specs.declared.tree.FieldTree.{FieldTree}
use Rattle.sled_parser.specs.declared.tree.ItemTree.{ItemTree}
use Rattle.sled_parser.specs.declared.tree.ItemTree.TheVariants as item
use Rattle.sled_parser.specs.declared.tree.OperandTree.{OperandTree}
use Rattle.sled_parser.specs.declared.tree.OperandTree.TheVariants as operand
use Rattle.sled_parser.specs.declared.tree.EqTree.{EqTree}
use Rattle.sled_parser.specs.declared.tree.Section.{Section}
use Rattle.sled_parser.specs.declared.tree.Section.TheVariants as section
use Rattle.sled_parser.specs.declared.tree.Decl.{Decl}
use Rattle.sled_parser.specs.declared.tree.Decl.TheVariants as decl
use Rattle.sled_parser.specs.Pieces.{Piece, Input}
use Rattle.sled_parser.specs.Trees.{piece_for, word, number, is_name, join, spelling, grade, deepest, nesting}
use Rattle.sled_parser.specs.Equations.{equation_spelling, equation_layered}

-- ---- the parts of declarations

abbrev pub field_spelling : FieldTree → List Piece
field_spelling f = word f.name ∷ number f.lo ∷ piece_for class.Colon ∷ number f.hi ∷ []

abbrev pub field_layered : FieldTree → Bool
field_layered f = is_name f.name

abbrev pub item_spelling : ItemTree → List Piece
item_spelling (item.Name w) = word w ∷ []
item_spelling item.Skip = piece_for class.Underscore ∷ []

abbrev pub item_layered : ItemTree → Bool
item_layered (item.Name w) = is_name w
item_layered item.Skip = true

abbrev pub operand_spelling : OperandTree → List Piece
operand_spelling (operand.Word w) = word w ∷ []
operand_spelling (operand.Extended w) = word w ∷ piece_for class.Bang ∷ []
operand_spelling (operand.Typed w result) = word w ∷ piece_for class.Colon ∷ word result ∷ []

abbrev pub operand_layered : OperandTree → Bool
operand_layered (operand.Word w) = is_name w
operand_layered (operand.Extended w) = is_name w
operand_layered (operand.Typed w result) = is_name w && is_name result

abbrev pub little_spelling : Bool → List Piece
little_spelling little = if little then piece_for class.Little ∷ [] else []

-- the list of a group
abbrev pub items_spelling : Option (List ItemTree) → List Piece
items_spelling None = []
items_spelling (Some xs) = piece_for class.OpenBracket ∷ (flat_map item_spelling xs ++ piece_for class.CloseBracket ∷ [])

abbrev pub items_layered : Option (List ItemTree) → Bool
items_layered None = true
items_layered (Some xs) = list_all item_layered xs

-- the result of a constructor
abbrev pub result_spelling : Option (List ℕ) → List Piece
result_spelling None = []
result_spelling (Some w) = piece_for class.Colon ∷ word w ∷ []

abbrev pub result_layered : Option (List ℕ) → Bool
result_layered None = true
result_layered (Some w) = is_name w

-- no equations have no braces
abbrev pub equations_spelling : List EqTree → List Piece
equations_spelling [] = []
equations_spelling (e ∷ es) =
    piece_for class.OpenBrace ∷ (join (piece_for class.Comma) (map equation_spelling (e ∷ es)) ++ piece_for class.CloseBrace ∷ [])

-- ---- declarations

abbrev pub heading_piece : Section → Piece
heading_piece section.Patterns = piece_for class.Patterns
heading_piece section.Constructors = piece_for class.Constructors

abbrev pub decl_spelling : Decl → List Piece
decl_spelling (decl.Class name width little fields) =
    piece_for class.Fields ∷ piece_for class.Of ∷ word name ∷ piece_for class.Open ∷ number width
    ∷ (little_spelling little ++ piece_for class.Close ∷ flat_map field_spelling fields)
decl_spelling (decl.Heading h) = heading_piece h ∷ []
decl_spelling (decl.Definition name items pattern) = word name ∷ (items_spelling items ++ piece_for class.Is ∷ spelling pattern)
decl_spelling (decl.ConstructorDecl opcode operands result equations body) =
    word opcode ∷ piece_for class.Open
    ∷ (join (piece_for class.Comma) (map operand_spelling operands) ++ piece_for class.Close
    ∷ (result_spelling result ++ (equations_spelling equations ++ piece_for class.Is ∷ spelling body)))

-- the section in which a declaration stands
abbrev pub in_patterns : Option Section → Bool
in_patterns (Some section.Patterns) = true
in_patterns _ = false

abbrev pub in_constructors : Option Section → Bool
in_constructors (Some section.Constructors) = true
in_constructors _ = false

abbrev pub decl_layered : Option Section → Decl → Bool
decl_layered s (decl.Class name width little fields) = is_name name && list_all field_layered fields
decl_layered s (decl.Heading h) = true
decl_layered s (decl.Definition name items pattern) = in_patterns s && (is_name name && (items_layered items && (grade pattern).1))
decl_layered s (decl.ConstructorDecl opcode operands result equations body) =
    in_constructors s
    && (is_name opcode && (list_all operand_layered operands && (result_layered result && (list_all equation_layered equations && (grade body).1))))

-- the section in which the next declaration stands: a heading begins one, and a class ends it
abbrev pub section_after : Option Section → Decl → Option Section
section_after s (decl.Class name width little fields) = None
section_after s (decl.Heading h) = Some h
section_after s (decl.Definition name items pattern) = s
section_after s (decl.ConstructorDecl opcode operands result equations body) = s

-- ---- descriptions

abbrev pub description_spelling : List Decl → List Piece
description_spelling = flat_map decl_spelling

abbrev pub layered_in : Option Section → List Decl → Bool
layered_in s [] = true
layered_in s (d ∷ ds) = decl_layered s d && layered_in (section_after s d) ds

abbrev pub description_layered : List Decl → Bool
description_layered = layered_in None

-- the list is what the layered declarations unparse to
abbrev pub IsDescription : Input → List Decl → Type 0
IsDescription i ds = (description_layered ds ≡ true) × (i ≡ description_spelling ds)

-- how deep brackets stand inside one another in the patterns of a description
abbrev pub decl_nesting : Decl → ℕ
decl_nesting (decl.Class name width little fields) = 0
decl_nesting (decl.Heading h) = 0
decl_nesting (decl.Definition name items pattern) = nesting pattern
decl_nesting (decl.ConstructorDecl opcode operands result equations body) = nesting body

abbrev pub description_nesting : List Decl → ℕ
description_nesting ds = deepest (map decl_nesting ds)
