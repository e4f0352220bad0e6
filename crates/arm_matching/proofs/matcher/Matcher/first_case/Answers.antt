use Rattle.std.proofs.Common.{◌∙◌}
use Rattle.arm_matching.proofs.Told.{place_none, place_some}
use Rattle.arm_matching.proofs.matcher.Matcher.first_case.Goals as goal

pub returns-in_err-number-clause-first : goal.returns-in_err-number-clause-first
returns-in_err-number-clause-first c =
    let m = c.args.self.now in c.from_residual.ensures ∙ place_none c.args.window.now.window.now m.cases m.tree.cases.items c.requires.bits c.in_err-number.ensures.first

pub returns-clause-first : goal.returns-clause-first
returns-clause-first c = let m = c.args.self.now in place_some c.args.window.now.window.now m.cases m.tree.cases.items c.requires.bits c.in_ok-number.number c.in_ok-number.ensures.first
