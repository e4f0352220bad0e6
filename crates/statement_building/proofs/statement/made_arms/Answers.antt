use Rattle.std.proofs.Common.{◌≡◌, sym, subst, ◌∙◌}
use Rattle.std.specs.Prelude.{All}
use Rattle.matchable_arms.specs.Arms.{AppliesInside, HasLengths}
use Rattle.arm_meaning.proofs.AllLaws.{actions_name_their_names}
use Rattle.statement_building.proofs.MadeLemmas.{NamesItsNames, all_applied, all_named, all_matchable}
use Rattle.statement_building.proofs.statement.made_arms.Goals as goal

pub check_all-requires-clause-applies : goal.check_all-requires-clause-applies
check_all-requires-clause-applies c =
    subst (All AppliesInside) (sym (c.as_slice.ensures ∙ c.in_ok-arms.ensures)) (all_applied c.args.spec.now)

pub returns-clause-matchable : goal.returns-clause-matchable
returns-clause-matchable c =
    let spec = c.args.spec.now in let arms = c.in_ok-arms.arms in
    all_matchable spec c.requires.sound c.requires.readings c.requires.once arms
    (subst (All (HasLengths spec)) c.as_slice.ensures c.in_ok-check_all.ensures.lengths)
    (subst (All NamesItsNames) (sym c.in_ok-arms.ensures) (all_named actions_name_their_names spec))
