use Rattle.toolkit_cli.proofs.StandsLemmas.{stands_answer, stands_no_form, stands_untouched}
use Rattle.toolkit_cli.proofs.ReplyLaws.{only_settled}
use Rattle.toolkit_cli.proofs.program.run.Goals as goal

pub returns-clause-answered : goal.returns-clause-answered
returns-clause-answered g c = λ is. stands_answer _ _ _ _ _ _ is c.answer.ensures.stands

pub returns-clause-no_form : goal.returns-clause-no_form
returns-clause-no_form g c = λ e. stands_no_form _ _ _ _ _ _ _ _ e c.answer.ensures.stands

pub returns-clause-only : goal.returns-clause-only
returns-clause-only g c = λ is s told so. only_settled _ _ _ _ s told so (stands_answer _ _ _ _ _ _ is c.answer.ensures.stands)

pub returns-clause-untouched : goal.returns-clause-untouched
returns-clause-untouched g c = stands_untouched _ _ _ _ _ _ _ _ c.answer.ensures.stands
