use Rattle.std.proofs.Common.{◌≡◌, ◌++◌, take}
use Rattle.std.specs.List.{flat_map}
use Rattle.asm_text.specs.Actions.{piece_text}
use Rattle.asm_text.proofs.actions.write_pieces.Given as goal

-- those so far are written
abbrev pub invariant-loop-piece : goal.invariant-loop-piece
invariant-loop-piece l = l.text.items ≡ l.initial.text.items ++ flat_map (piece_text l.spec l.operands) (take l.piece-index l.pieces)
