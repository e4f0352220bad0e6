use Rattle.std.proofs.Common.{◌<◌, length, arith}
use Rattle.asm_text.specs.Actions.{piece_text}
use Rattle.asm_text.proofs.PrefixLemmas.{OnErr-always}
use Rattle.asm_text.proofs.TextLaws.{flat_map_prefix}
use Rattle.asm_text.proofs.actions.write_pieces.Goals as goal

pub returns-in_err-write_piece-clause-prefix : goal.returns-in_err-write_piece-clause-prefix
returns-in_err-write_piece-clause-prefix c =
    let a = c.args in let i = c.loop-piece.piece-index in
    let within : i < length a.pieces.now = omega arith in
    OnErr-always c.from_residual.result
    (flat_map_prefix (piece_text a.spec.now a.operands.now) a.pieces.now i c.piece-item.result within c.piece-item.is a.text.now.items c.loop-piece.text.items c.write_piece.new.text.items
    c.loop-piece.invariant c.in_err-write_piece.ensures.prefix)
