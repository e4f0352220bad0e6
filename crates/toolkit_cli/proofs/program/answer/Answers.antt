use Rattle.std.proofs.Common.{None, Some, refl, sym}
use Rattle.toolkit_cli.specs.Reply.{no_form}
use Rattle.toolkit_cli.proofs.StandsLemmas.{told_stands, Keeps-same, usage_output, by_words}
use Rattle.toolkit_cli.proofs.program.answer.Goals as goal

pub returns-in-None-clause-stands : goal.returns-in-None-clause-stands
returns-in-None-clause-stands g c =
    let kept = Keeps-same (g.O.Sink.contents c.args.out.now) (g.O.Sink.contents c.args.out.now) refl in
    by_words _ None _ _ _ _ _ _ _ (sym c.in-None.ensures) (told_stands _ _ _ _ _ _ _ _ no_form tt refl (usage_output _ (g.I.Source.left c.args.input.now) kept) (rw c.as_bytes.ensures.value at c.say.ensures.told))

pub returns-in-Some-clause-stands : goal.returns-in-Some-clause-stands
returns-in-Some-clause-stands g c = by_words _ (Some _) _ _ _ _ _ _ _ (sym c.in-Some.ensures) c.dis.ensures.stands
