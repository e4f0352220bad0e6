-- The operands of a constructor: their names, and what each is.
use Rattle.std.specs.Prelude.{ℕ, Bool, true, ◌&&◌, ◌||◌, List, map, Option, Some, None, is_some, is_none, option_map, if◌then◌else◌}
use Rattle.std.specs.List.{list_all, filter_map}
use Rattle.std.specs.Option.{option_map_or}
use Rattle.sled_parser.specs.declared.tree.EqTree.{EqTree}
use Rattle.sled_parser.specs.declared.tree.OperandTree.{OperandTree}
use Rattle.sled_parser.specs.declared.tree.OperandTree.TheVariants.{Word, Extended, Typed}
use Rattle.sled_parser.specs.declared.tree.PlaceTree.{PlaceTree}
use Rattle.sled_parser.specs.declared.tree.PlaceTree.TheVariants as place
use Rattle.sled_parser.specs.declared.tree.TermTree.{TermTree}
use Rattle.sled_parser.specs.declared.tree.TermTree.TheVariants as term
use Rattle.sled_model.specs.declared.constructor.OperandKind.{OperandKind}
use Rattle.sled_model.specs.declared.constructor.OperandKind.TheVariants as kind
use Rattle.tree_meaning.specs.declared.scope.Meaning.{Meaning}
use Rattle.tree_meaning.specs.declared.scope.Meaning.TheVariants as meaning
use Rattle.tree_meaning.specs.Names.{is_among}
use Rattle.tree_meaning.specs.Scopes.{Declared, meaning_of, field_named, type_named}
use Rattle.operand_meaning.specs.Terms.{sliced_names, terms_in}

-- ---- names

abbrev pub operand_name : OperandTree → List ℕ
operand_name (Word w) = w
operand_name (Extended w) = w
operand_name (Typed n r) = n

-- the name of each operand, in order
abbrev pub operand_names : List OperandTree → List (List ℕ)
operand_names operands = map operand_name operands

abbrev pub explicit_name : OperandTree → Option (List ℕ)
explicit_name (Typed n r) = Some n
explicit_name _ = None

-- the names of the operands whose type is written
abbrev pub explicit_names : List OperandTree → List (List ℕ)
explicit_names operands = filter_map explicit_name operands

abbrev pub lone_word : OperandTree → Option (List ℕ)
lone_word (Word w) = Some w
lone_word _ = None

-- the names of the operands that are a lone word
abbrev pub lone_words : List OperandTree → List (List ℕ)
lone_words operands = filter_map lone_word operands

-- ---- kinds

-- what an operand of a name with this meaning is: only fields and types stand for operands
abbrev pub declared_kind : Meaning → Option OperandKind
declared_kind (meaning.Field f) = Some (kind.Plain f)
declared_kind (meaning.Type t) = Some (kind.Typed t)
declared_kind _ = None

-- what an operand is, over a test of the names that the equations slice: a lone word that was not declared is a whole number
abbrev pub kind_over : Declared → (List ℕ → Bool) → OperandTree → Option OperandKind
kind_over declared is_sliced (Word w) = option_map_or declared_kind (meaning_of declared w) (Some (if is_sliced w then kind.Sliced else kind.Whole))
kind_over declared is_sliced (Extended w) = option_map kind.Extended (field_named declared w)
kind_over declared is_sliced (Typed n r) = option_map kind.Typed (type_named declared r)

-- what an operand of a constructor with these equations is: none where its name stands for something else, or was not declared where it
-- has to be
abbrev pub operand_kind : Declared → List EqTree → OperandTree → Option OperandKind
operand_kind declared equations operand = kind_over declared (is_among (sliced_names equations)) operand

-- what each operand that is something is
abbrev pub operand_kinds : Declared → List EqTree → List OperandTree → List OperandKind
operand_kinds declared equations operands = filter_map (operand_kind declared equations) operands

-- ---- condition 2, names are known

-- each operand is something: over `fields of b (8) x 0:7` and `p is x = 1`, the operands of `k(x, n) { n = x } is x` are, those of
-- `k(p) is x` are not
abbrev pub operands_are_known : Declared → List EqTree → List OperandTree → Bool
operands_are_known declared equations operands = list_all (λ o. is_some (operand_kind declared equations o)) operands

-- an operand's name, a label or a declared name
abbrev pub is_known_word : Declared → (List ℕ → Bool) → (List ℕ → Bool) → List ℕ → Bool
is_known_word declared is_operand is_label w = is_operand w || is_label w || is_some (meaning_of declared w)

-- a name in an equation is one of these, and `!` stands on a field
abbrev pub is_known_place : Declared → (List ℕ → Bool) → (List ℕ → Bool) → PlaceTree → Bool
is_known_place declared is_operand is_label (place.Word w) = is_known_word declared is_operand is_label w
is_known_place declared is_operand is_label (place.Slice w lo hi) = is_known_word declared is_operand is_label w
is_known_place declared is_operand is_label (place.Extended w) = is_some (field_named declared w)

abbrev pub is_known_term : Declared → (List ℕ → Bool) → (List ℕ → Bool) → TermTree → Bool
is_known_term declared is_operand is_label (term.Number minus n) = true
is_known_term declared is_operand is_label (term.Place minus c p) = is_known_place declared is_operand is_label p

-- each name in the equations is: those of `k(n) { n = x! } is x` are, those of `k(n) { n = m } is x` are not
abbrev pub equations_are_known : Declared → List (List ℕ) → List OperandTree → List EqTree → Bool
equations_are_known declared labels operands equations = list_all (is_known_term declared (is_among (operand_names operands)) (is_among labels)) (terms_in equations)

-- ---- whole numbers

-- the name is that of a lone word among the operands, and was not declared
abbrev pub is_number : Declared → (List ℕ → Bool) → List ℕ → Bool
is_number declared is_lone w = is_none (meaning_of declared w) && is_lone w
