use Rattle.std.proofs.Common.{inl, inr, Err, refl, sym, ap, subst, ◌∙◌}
use Rattle.sled_elab.specs.Descriptions.{described_in}
use Rattle.disassembler.proofs.Taken.{taking_of}
use Rattle.toolkit_cli.specs.declared.texts.TextStop.{TextStop}
use Rattle.toolkit_cli.specs.Texts.{Stops, StopsThere, RefusesDescription, RefusesStatement, IsDescribed, IsStated}
use Rattle.toolkit_cli.specs.Reply.{SettlesDis, Shelved, IsThere, MakesBoth}
use Rattle.toolkit_cli.specs.Stands.{Change}
use Rattle.toolkit_cli.specs.CommandWords.{command_words}
use Rattle.toolkit_cli.proofs.StandsLemmas.{Rose-later, stopped_stands, Stands-along, Keeps-same}
use Rattle.toolkit_cli.proofs.TextLemmas.{of_declarations}
use Rattle.toolkit_cli.proofs.program.dis.Goals as goal

pub returns-in-Err-clause-stands : goal.returns-in-Err-clause-stands
returns-in-Err-clause-stands g c =
    let kept = Keeps-same (g.O.Sink.contents c.args.out.now) (g.O.Sink.contents c.args.out.now) refl in
    let sink : Change = record { old = g.O.Sink.contents c.args.out.now; new = g.O.Sink.contents c.args.out.now; count = g.O.Sink.faults c.args.out.now; new_count = g.O.Sink.faults c.args.out.now } in
    stopped_stands _ _ _ sink _ c.args.command.now.spec.now c.in-Err.stop _
    (λ e. inl (refl, c.in-Err.ensures.unread (ap Err e), kept))
    (λ p e. inl (refl, (subst (StopsThere (g.H.Shelf.lacks c.args.shelf.now c.args.command.now.spec.now)) e c.in-Err.ensures.stops, λ t told. subst (λ (s : TextStop). Stops RefusesDescription t s) e (c.in-Err.ensures.refused t told))))
    kept c.stopped.ensures.told

pub returns-in-Err-described-clause-stands : goal.returns-in-Err-described-clause-stands
returns-in-Err-described-clause-stands g c =
    let name = c.args.command.now.spec.now in
    let shelf : Shelved = record { text = g.H.Shelf.text c.args.shelf.now; lacks = g.H.Shelf.lacks c.args.shelf.now } in
    let kept = Keeps-same (g.O.Sink.contents c.args.out.now) (g.O.Sink.contents c.args.out.now) refl in
    let sink : Change = record { old = g.O.Sink.contents c.args.out.now; new = g.O.Sink.contents c.args.out.now; count = g.O.Sink.faults c.args.out.now; new_count = g.O.Sink.faults c.args.out.now } in
    stopped_stands _ _ _ sink _ name c.in-Err-described.stop _
    (λ e. absurd (c.in-Err-described.ensures.loaded e))
    (λ p e. inl (
      refl,
      of_declarations shelf name c.in-Ok.decls.items c.as_slice.result.now (λ t. RefusesDescription t p) c.as_slice.ensures.value (c.in-Ok.ensures.there, c.in-Ok.ensures.made)
          (λ t is. subst (λ (s : TextStop). Stops RefusesDescription t s) e (c.in-Err-described.ensures.refused t is)),
    ))
    kept c.stopped-in-Err-described.ensures.told

pub returns-in-Err-read_statement-clause-stands : goal.returns-in-Err-read_statement-clause-stands
returns-in-Err-read_statement-clause-stands g c =
    let name = c.args.command.now.matching.now in
    let shelf : Shelved = record { text = g.H.Shelf.text c.args.shelf.now; lacks = g.H.Shelf.lacks c.args.shelf.now } in
    let d = described_in c.in-Ok-described.description in
    let one : IsThere shelf c.args.command.now.spec.now (λ t. IsDescribed t d) =
    of_declarations shelf c.args.command.now.spec.now c.in-Ok.decls.items c.as_slice.result.now (λ t. IsDescribed t d) c.as_slice.ensures.value (c.in-Ok.ensures.there, c.in-Ok.ensures.made) c.in-Ok-described.ensures.made in
    let kept = Keeps-same (g.O.Sink.contents c.args.out.now) (g.O.Sink.contents c.args.out.now) refl in
    let sink : Change = record { old = g.O.Sink.contents c.args.out.now; new = g.O.Sink.contents c.args.out.now; count = g.O.Sink.faults c.args.out.now; new_count = g.O.Sink.faults c.args.out.now } in
    stopped_stands _ _ _ sink _ name c.in-Err-read_statement.stop _
    (λ e. inr (inl (refl, (d, one), Rose-later _ _ _ (c.read_decls.ensures.later name) (c.in-Err-read_statement.ensures.unread (ap Err e)), kept)))
    (λ p e. inr (refl, (d, one, (sym (c.read_decls.ensures.absent name) ∙ subst (StopsThere (g.H.Shelf.lacks c.read_decls.new.shelf name)) e c.in-Err-read_statement.ensures.stops, λ t told. subst (λ (s : TextStop). Stops (RefusesStatement d) t s) e (c.in-Err-read_statement.ensures.refused t (c.read_decls.ensures.texts name ∙ told))))))
    kept c.stopped-in-Err-read_statement.ensures.told

pub returns-clause-stands : goal.returns-clause-stands
returns-clause-stands g c =
    let name = c.args.command.now.matching.now in
    let shelf : Shelved = record { text = g.H.Shelf.text c.args.shelf.now; lacks = g.H.Shelf.lacks c.args.shelf.now } in
    let d = described_in c.in-Ok-described.description in
    let statement = c.in-Ok-read_statement.statement in
    let one : IsThere shelf c.args.command.now.spec.now (λ t. IsDescribed t d) =
    of_declarations shelf c.args.command.now.spec.now c.in-Ok.decls.items c.as_slice.result.now (λ t. IsDescribed t d) c.as_slice.ensures.value (c.in-Ok.ensures.there, c.in-Ok.ensures.made) c.in-Ok-described.ensures.made in
    let two : IsThere shelf name (λ t. IsStated d t statement) = (sym (c.read_decls.ensures.absent name) ∙ c.in-Ok-read_statement.ensures.there, λ t told. c.in-Ok-read_statement.ensures.made t (c.read_decls.ensures.texts name ∙ told)) in
    let t = taking_of d.spec statement c.in-Ok-read_statement.ensures.matchable in
    let both : MakesBoth (command_words c.args.command.now) shelf t.0 =
    record { description = d; statement = statement; spec = one; stated = two; takes = t.1 } in
    Stands-along _ _ _ _ _ _ _ _
    (λ s e. subst (SettlesDis (command_words c.args.command.now) shelf) (sym e) (refl, both))
    (λ who read. inr (inr (read.0, (t.0, both, read.1))))
    (c.listed.ensures.stands t.0 t.1)

pub returns-clause-unasked : goal.returns-clause-unasked
returns-clause-unasked g c =
    let name = c.args.command.now.matching.now in
    let shelf : Shelved = record { text = g.H.Shelf.text c.args.shelf.now; lacks = g.H.Shelf.lacks c.args.shelf.now } in
    let d = described_in c.in-Ok-described.description in
    let statement = c.in-Ok-read_statement.statement in
    let one : IsThere shelf c.args.command.now.spec.now (λ t. IsDescribed t d) =
    of_declarations shelf c.args.command.now.spec.now c.in-Ok.decls.items c.as_slice.result.now (λ t. IsDescribed t d) c.as_slice.ensures.value (c.in-Ok.ensures.there, c.in-Ok.ensures.made) c.in-Ok-described.ensures.made in
    inl (d, statement, one, (sym (c.read_decls.ensures.absent name) ∙ c.in-Ok-read_statement.ensures.there, λ t told. c.in-Ok-read_statement.ensures.made t (c.read_decls.ensures.texts name ∙ told)))
