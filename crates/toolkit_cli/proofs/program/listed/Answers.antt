use Rattle.std.proofs.Common.{inl, refl, codes, Some, None}
use Rattle.image_listing.specs.declared.answers.Stop.TheVariants.{NoMatch, AddressEnd}
use Rattle.disassembler.proofs.Taken.{taking_of}
use Rattle.toolkit_cli.specs.Reply.{accepted}
use Rattle.toolkit_cli.specs.Stands.{Change}
use Rattle.toolkit_cli.proofs.StandsLemmas.{takes_along, told_stands, unread_stands, answer_stands, input_listed, input_unwritten, input_forgone, Keeps-same, Gets-nothing}
use Rattle.toolkit_cli.proofs.program.listed.Goals as goal

pub list-requires : goal.list-requires
list-requires g c =
    let t = taking_of c.args.spec.now c.args.statement.now c.requires in
    let of = t.1 in
    (t.0, (c.in-Ok.ensures.prepared, takes_along _ _ _ _ _ c.in-Ok.ensures.spec c.in-Ok.ensures.statement of))

pub returns-in-Ok-list-clause-read_to_end : goal.returns-in-Ok-list-clause-read_to_end
returns-in-Ok-list-clause-read_to_end g c = λ done.
    let t = taking_of c.args.spec.now c.args.statement.now c.requires in
    let of = t.1 in
    let h = c.in-Ok-list.ensures.listed t.0 (c.in-Ok.ensures.prepared, takes_along _ _ _ _ _ c.in-Ok.ensures.spec c.in-Ok.ensures.statement of) in
    h.0

pub returns-in-Ok-list-clause-stands : goal.returns-in-Ok-list-clause-stands
returns-in-Ok-list-clause-stands g c = λ taking of.
    let h = c.in-Ok-list.ensures.listed taking (c.in-Ok.ensures.prepared, takes_along _ _ _ _ _ c.in-Ok.ensures.spec c.in-Ok.ensures.statement of) in
    let kept = Keeps-same (g.E.Sink.contents c.args.notes.now) (g.E.Sink.contents c.args.notes.now) refl in
    let log : Change = record { old = g.E.Sink.contents c.args.notes.now; new = g.E.Sink.contents c.args.notes.now; count = g.E.Sink.faults c.args.notes.now; new_count = g.E.Sink.faults c.args.notes.now } in
    answer_stands _ _ (λ name. ⊥) _ log _ _ (accepted taking c.args.base) tt refl
    (input_listed taking c.args.base _ _ None _ _ refl refl (λ bytes told. (h.1 bytes told).lines) (λ bytes told. (h.1 bytes told).stop))
    (Gets-nothing log kept)

pub returns-in-Err-NoMatch-clause-stands : goal.returns-in-Err-NoMatch-clause-stands
returns-in-Err-NoMatch-clause-stands g c = λ taking of.
    let h = (rw c.in-Err-NoMatch.field-0-is at c.in-Err-NoMatch.ensures.listed) taking (c.in-Ok.ensures.prepared, takes_along _ _ _ _ _ c.in-Ok.ensures.spec c.in-Ok.ensures.statement of) in
    told_stands _ _ _ _ _ _ _ _ (accepted taking c.args.base) tt refl
    (input_listed taking c.args.base _ _ (Some (NoMatch c.in-Err-NoMatch.address)) _ _ refl refl (λ bytes told. (h.wrote bytes told).lines) (λ bytes told. (h.wrote bytes told).stop))
    c.tell.ensures.told

pub returns-in-Err-AddressEnd-clause-stands : goal.returns-in-Err-AddressEnd-clause-stands
returns-in-Err-AddressEnd-clause-stands g c = λ taking of.
    let h = (rw c.in-Err-AddressEnd.field-0-is at c.in-Err-AddressEnd.ensures.listed) taking (c.in-Ok.ensures.prepared, takes_along _ _ _ _ _ c.in-Ok.ensures.spec c.in-Ok.ensures.statement of) in
    told_stands _ _ _ _ _ _ _ _ (accepted taking c.args.base) tt refl
    (input_listed taking c.args.base _ _ (Some (AddressEnd c.in-Err-AddressEnd.address)) _ _ refl refl (λ bytes told. (h.wrote bytes told).lines) (λ bytes told. (h.wrote bytes told).stop))
    c.tell-in-Err-AddressEnd.ensures.told

pub returns-in-Err-ReadFault-clause-stands : goal.returns-in-Err-ReadFault-clause-stands
returns-in-Err-ReadFault-clause-stands g c = λ taking of.
    let h = (rw c.in-Err-ReadFault.field-0-is at c.in-Err-ReadFault.ensures.listed) taking (c.in-Ok.ensures.prepared, takes_along _ _ _ _ _ c.in-Ok.ensures.spec c.in-Ok.ensures.statement of) in
    unread_stands _ _ _ _ _ (codes "input") _ (refl, (h.0, record { given = h.1.given; taken = h.1.read; stop = h.1.stop; lines = h.1.lines }))
    (λ kept. input_forgone taking c.args.base _ _ _ h.2 kept)
    c.tell-in-Err-ReadFault.ensures.told

pub returns-in-Err-WriteFault-clause-stands : goal.returns-in-Err-WriteFault-clause-stands
returns-in-Err-WriteFault-clause-stands g c = λ taking of.
    let h = (rw c.in-Err-WriteFault.field-0-is at c.in-Err-WriteFault.ensures.listed) taking (c.in-Ok.ensures.prepared, takes_along _ _ _ _ _ c.in-Ok.ensures.spec c.in-Ok.ensures.statement of) in
    inl (accepted taking c.args.base, refl, inl (input_unwritten taking c.args.base _ _ _ (Keeps-same _ _ refl) h.0 h.2))

pub returns-clause-stands : goal.returns-clause-stands
returns-clause-stands g c = λ taking of.
    let h = (rw c.in-Err-NoMemory.field-0-is at c.in-Err-NoMemory.ensures.listed) taking (c.in-Ok.ensures.prepared, takes_along _ _ _ _ _ c.in-Ok.ensures.spec c.in-Ok.ensures.statement of) in
    input_forgone taking c.args.base _ _ _ h (Keeps-same _ _ refl)
