-- What equations mean: `left = right` says that the sum of left minus right is 0.
use Rattle.std.specs.Prelude.{ℕ, Bool, true, false, not, List, ◌++◌, map, fold, Option, Some, None, is_some, unwrap_or, position, bytes_eq, if◌then◌else◌, ℤ, pos, neg_ℤ, ◌+ℤ◌}
use Rattle.std.specs.List.{filter_map}
use Rattle.std.specs.Option.{option_map_or}
use Rattle.sled_lexer.specs.Spelled.{number_value}
use Rattle.sled_parser.specs.declared.tree.EqTree.{EqTree}
use Rattle.sled_parser.specs.declared.tree.OperandTree.{OperandTree}
use Rattle.sled_parser.specs.declared.tree.OperandTree.TheVariants as operand
use Rattle.sled_parser.specs.declared.tree.PlaceTree.{PlaceTree}
use Rattle.sled_parser.specs.declared.tree.PlaceTree.TheVariants.{Word, Extended, Slice}
use Rattle.sled_parser.specs.declared.tree.TermTree.{TermTree}
use Rattle.sled_parser.specs.declared.tree.TermTree.TheVariants.{Number, Place}
use Rattle.sled_model.specs.declared.constructor.Atom.{Atom}
use Rattle.sled_model.specs.declared.constructor.Atom.TheVariants as atom
use Rattle.sled_model.specs.declared.constructor.Equation.{Equation}
use Rattle.sled_model.specs.declared.constructor.Term.{Term}
use Rattle.tree_meaning.specs.Names.{position_of}
use Rattle.tree_meaning.specs.Patterns.{field_or_first}
use Rattle.tree_meaning.specs.Scopes.{Declared, meaning_of}

abbrev pub is_lone : List ℕ → OperandTree → Bool
is_lone w (operand.Word v) = bytes_eq w v
is_lone w _ = false

-- the number of the whole-number operand of that name: the operand that is this lone word, which was not declared
abbrev pub number_of : Declared → List OperandTree → List ℕ → Option ℕ
number_of declared operands w = if is_some (meaning_of declared w) then None else position (is_lone w) operands

abbrev pub label_or_field : Declared → List (List ℕ) → List ℕ → Atom
label_or_field declared labels w = option_map_or atom.Label (position_of labels w) (atom.Field (field_or_first declared w))

-- what a name stands for. No two of these clash: the name of a whole-number operand was not declared, and a label is no declared name and
-- no operand's name (condition 1).
abbrev pub word_atom : Declared → List (List ℕ) → List OperandTree → List ℕ → Atom
word_atom declared labels operands w =
    option_map_or atom.Name (number_of declared operands w) (label_or_field declared labels w)

-- what a place stands for. Where it stands for nothing (conditions 10 and 11), it is the first field or a slice of the first operand.
abbrev pub place_atom : Declared → List (List ℕ) → List OperandTree → PlaceTree → Atom
place_atom declared labels operands (Word w) = word_atom declared labels operands w
place_atom declared labels operands (Extended w) = atom.Signed (field_or_first declared w)
place_atom declared labels operands (Slice w lo hi) = atom.Slice (unwrap_or (number_of declared operands w) 0) (number_value lo) (number_value hi)

-- on the right side the sign is turned
abbrev pub is_negative : Bool → Bool → Bool
is_negative turned minus = if turned then not minus else minus

abbrev pub signed : Bool → ℕ → ℤ
signed negative n = if negative then neg_ℤ (pos n) else pos n

-- a multiple of an atom on the left side, or turned on the right
abbrev pub term_of : Declared → List (List ℕ) → List OperandTree → Bool → TermTree → Option Term
term_of declared labels operands turned (Number minus n) = None
term_of declared labels operands turned (Place minus c p) =
    Some (record { coefficient = signed (is_negative turned minus) (option_map_or number_value c 1); atom = place_atom declared labels operands p })

-- what a term adds to the rest: a number on the left side, or turned on the right
abbrev pub rest_of : Bool → TermTree → ℤ
rest_of turned (Number minus n) = signed (is_negative turned minus) (number_value n)
rest_of turned (Place minus c p) = pos 0

abbrev pub sum_of : Bool → List TermTree → ℤ
sum_of turned ts = fold ◌+ℤ◌ (pos 0) (map (rest_of turned) ts)

-- the terms in written order, and the sum of the numbers
abbrev pub equation_of : Declared → List (List ℕ) → List OperandTree → EqTree → Equation
equation_of declared labels operands e = record {
  terms = filter_map (term_of declared labels operands false) e.left.terms ++ filter_map (term_of declared labels operands true) e.right.terms;
  rest = sum_of false e.left.terms +ℤ sum_of true e.right.terms;
}

abbrev pub equations_of : Declared → List (List ℕ) → List OperandTree → List EqTree → List Equation
equations_of declared labels operands equations = map (equation_of declared labels operands) equations
