use Rattle.std.proofs.Common.{arith}
use Rattle.std.proofs.lemmas.Result.{IfOk-weaker}
use Rattle.disassembler.proofs.Taken.{matchable_of, within_window, window_taken}
use Rattle.disassembler.proofs.place.DisassemblerDecoder.take.Goals as goal

pub returns-clause-within : goal.returns-clause-within
returns-clause-within c =
    let d = c.args.self.now in let h = matchable_of d c.requires.stands.1.0 in
    IfOk-weaker c.taken-count.result _ _ (λ count is. within_window d.spec.now d.statement.now h c.args.place c.args.window.now _ count c.requires.some is) c.taken-count.ensures

pub returns-clause-taken : goal.returns-clause-taken
returns-clause-taken c =
    let d = c.args.self.now in let h = matchable_of d c.requires.stands.1.0 in
    IfOk-weaker c.taken-count.result _ _
    (λ count is taking left stands front. window_taken d.spec.now d.statement.now h taking c.args.place c.args.window.now left _ count stands.1 (omega arith) c.requires.some front is) c.taken-count.ensures
