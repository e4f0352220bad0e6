-- Condition 10: operands, hidden fields and the names in equations stand where they have to. Over `fields of b (8) x 0:7 y 0:7`,
-- `k(x, n) { n = x + y } is x & y` meets it. `k(x) is y` (the operand x), `k(n) is x` (the operand n), `k(n) { n = 1 } is x` (the hidden x)
-- and `k(n) { n = y } is x` (the y of the equation) do not.
use Rattle.std.specs.Prelude.{ℕ, Bool, true, not, ◌&&◌, ◌||◌, List, is_some, if◌then◌else◌}
use Rattle.std.specs.List.{list_all}
use Rattle.sled_parser.specs.declared.tree.EqTree.{EqTree}
use Rattle.sled_parser.specs.declared.tree.OperandTree.{OperandTree}
use Rattle.sled_parser.specs.declared.tree.OperandTree.TheVariants as operand
use Rattle.sled_parser.specs.declared.tree.PlaceTree.{PlaceTree}
use Rattle.sled_parser.specs.declared.tree.PlaceTree.TheVariants.{Word, Extended, Slice}
use Rattle.sled_parser.specs.declared.tree.TermTree.{TermTree}
use Rattle.sled_parser.specs.declared.tree.TermTree.TheVariants.{Number, Place}
use Rattle.tree_meaning.specs.Names.{is_among}
use Rattle.tree_meaning.specs.Scopes.{Declared, meaning_of, field_named}
use Rattle.operand_meaning.specs.Operands.{operand_names, lone_words, is_number}
use Rattle.operand_meaning.specs.Terms.{terms_in, names_in}

-- an operand that is a field or of a type stands in the body, one that is a whole number in an equation
abbrev pub operand_stands : Declared → (List ℕ → Bool) → (List ℕ → Bool) → OperandTree → Bool
operand_stands declared is_bound is_named (operand.Word w) = if is_some (meaning_of declared w) then is_bound w else is_named w
operand_stands declared is_bound is_named (operand.Extended w) = is_bound w
operand_stands declared is_bound is_named (operand.Typed n r) = is_bound n

-- each operand does, where the body binds these names
abbrev pub operands_stand : Declared → List (List ℕ) → List OperandTree → List EqTree → Bool
operands_stand declared bound operands equations = list_all (operand_stands declared (is_among bound) (is_among (names_in equations))) operands

-- a field that the body binds is hidden where it is no operand
abbrev pub is_hidden : Declared → (List ℕ → Bool) → List ℕ → Bool
is_hidden declared is_operand w = is_some (field_named declared w) && not (is_operand w)

abbrev pub hidden_stands : Declared → (List ℕ → Bool) → (List ℕ → Bool) → List ℕ → Bool
hidden_stands declared is_operand is_named w = not (is_hidden declared is_operand w) || is_named w

-- each hidden field stands in an equation
abbrev pub hidden_fields_stand : Declared → List (List ℕ) → List OperandTree → List EqTree → Bool
hidden_fields_stand declared bound operands equations = list_all (hidden_stands declared (is_among (operand_names operands)) (is_among (names_in equations))) bound

-- a field that stands bare in the body
abbrev pub is_bare : Declared → (List ℕ → Bool) → List ℕ → Bool
is_bare declared is_bound w = is_bound w && is_some (field_named declared w)

-- a whole-number operand, a label or a field that stands bare in the body
abbrev pub word_stands : Declared → (List ℕ → Bool) → (List ℕ → Bool) → (List ℕ → Bool) → List ℕ → Bool
word_stands declared is_lone is_label is_bound w = is_number declared is_lone w || is_label w || is_bare declared is_bound w

-- what an equation names is one of these, and with `!` such a field
abbrev pub place_stands : Declared → (List ℕ → Bool) → (List ℕ → Bool) → (List ℕ → Bool) → PlaceTree → Bool
place_stands declared is_lone is_label is_bound (Word w) = word_stands declared is_lone is_label is_bound w
place_stands declared is_lone is_label is_bound (Slice w lo hi) = word_stands declared is_lone is_label is_bound w
place_stands declared is_lone is_label is_bound (Extended w) = is_bare declared is_bound w

abbrev pub term_stands : Declared → (List ℕ → Bool) → (List ℕ → Bool) → (List ℕ → Bool) → TermTree → Bool
term_stands declared is_lone is_label is_bound (Number minus n) = true
term_stands declared is_lone is_label is_bound (Place minus c p) = place_stands declared is_lone is_label is_bound p

-- each name in the equations is one of these
abbrev pub terms_stand : Declared → List (List ℕ) → List (List ℕ) → List OperandTree → List EqTree → Bool
terms_stand declared bound labels operands equations = list_all (term_stands declared (is_among (lone_words operands)) (is_among labels) (is_among bound)) (terms_in equations)

-- condition 10, over the names that the body binds and its labels
abbrev pub names_stand : Declared → List (List ℕ) → List (List ℕ) → List OperandTree → List EqTree → Bool
names_stand declared bound labels operands equations =
    operands_stand declared bound operands equations
    && hidden_fields_stand declared bound operands equations
    && terms_stand declared bound labels operands equations
