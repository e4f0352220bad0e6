-- The action of an arm as text, with the values of its names.
use Rattle.std.specs.Prelude.{ℕ, ◌<◌, List, [], slice_get}
use Rattle.std.specs.List.{flat_map}
use Rattle.std.specs.Option.{option_map_or}
use Rattle.sled_model.specs.declared.instance.Operand.{Operand}
use Rattle.sled_model.specs.declared.spec.Spec.{Spec}
use Rattle.sled_model.specs.declared.statement.Arm.{Arm}
use Rattle.sled_model.specs.declared.statement.Piece.{Piece}
use Rattle.sled_model.specs.declared.statement.Piece.TheVariants.{Words, Bound}
use Rattle.asm_text.specs.Instances.{operand_text}

-- the piece names none but the first so many names
abbrev pub NamesBelow : ℕ → Piece → Type 0
NamesBelow count (Words words) = Unit {0}
NamesBelow count (Bound k) = k < count

-- words as they stand, or the text of the operand of this number
abbrev pub piece_text : Spec → List Operand → Piece → List ℕ
piece_text spec operands (Words words) = words
piece_text spec operands (Bound k) = option_map_or (operand_text spec) (slice_get operands k) []

-- the pieces of the arm's action, one behind another, where operand number k is the value of name number k
abbrev pub action_text : Spec → Arm → List Operand → List ℕ
action_text spec arm operands = flat_map (piece_text spec operands) arm.action
