use Rattle.std.proofs.lemmas.List.Elements.{All-same}
use Rattle.asm_text.specs.Writable.{HasText}
use Rattle.asm_text.proofs.WritableLaws.{All-text_from_admitted}
use Rattle.asm_text.proofs.actions.write_action.Goals as goal

pub write_pieces-requires-clause-texts : goal.write_pieces-requires-clause-texts
write_pieces-requires-clause-texts c =
    let a = c.args in
    All-same (HasText a.spec.now) c.as_slice-2.result.now a.operands.now c.as_slice-2.ensures (All-text_from_admitted a.spec.now a.operands.now c.requires.admitted c.requires.resolved)
