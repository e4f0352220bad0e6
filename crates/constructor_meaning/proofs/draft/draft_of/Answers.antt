use Rattle.std.proofs.Common.{◌≡◌, ◌∙◌, ℕ, List, None, Some, sym, subst, ap}
use Rattle.std.specs.Prelude.{All, Option}
use Rattle.sled_model.specs.declared.pattern.Pattern.{Pattern}
use Rattle.sled_model.specs.Leaves.{AllLeaves, IsNoApplication}
use Rattle.tree_meaning.specs.Scopes.{Declared, declared_in}
use Rattle.constructor_meaning.specs.Conditions.{standing_conditions}
use Rattle.constructor_meaning.specs.Constructing.{constructing}
use Rattle.constructor_meaning.specs.Unmet.{first_unmet}
use Rattle.constructor_meaning.proofs.UnmetLemmas as by
use Rattle.constructor_meaning.proofs.draft.draft_of.Goals as goal

pub returns-in-Err-clause-unmet : goal.returns-in-Err-clause-unmet
returns-in-Err-clause-unmet c =
    by.fault_of_naming c.args.spec.now (declared_in c.args.scope.now) (constructing c.args.tree.now) c.in-Err.fault c.in-Err.ensures.unmet

pub measure_each-requires-clause-plain : goal.measure_each-requires-clause-plain
measure_each-requires-clause-plain c =
    let spec = c.args.spec.now in let d = declared_in c.args.scope.now in let t = constructing c.args.tree.now in
    subst (λ (ps : List Pattern). All (AllLeaves IsNoApplication) ps) (sym (c.as_slice.ensures ∙ c.in-Ok.ensures.read.body.bodies)) (by.plain spec d t c.in-Ok.ensures.met c.requires.sound)

pub returns-in-Some-clause-unmet : goal.returns-in-Some-clause-unmet
returns-in-Some-clause-unmet c =
    let spec = c.args.spec.now in let d = declared_in c.args.scope.now in let t = constructing c.args.tree.now in
    by.unmet_forming spec d t c.in-Some.condition c.in-Ok.ensures.met (sym (c.unmet_forming.ensures d t c.in-Ok.ensures.read) ∙ c.in-Some.is)

pub returns-in-Some-2-clause-unmet : goal.returns-in-Some-2-clause-unmet
returns-in-Some-2-clause-unmet c =
    let spec = c.args.spec.now in let d = declared_in c.args.scope.now in let t = constructing c.args.tree.now in
    by.to_standing spec d t c.in-Ok.ensures.met (sym (c.unmet_forming.ensures d t c.in-Ok.ensures.read) ∙ c.in_default.is)
    ∙ sym (c.in_ok-condition.ensures ∙ ap (λ (e : Declared). first_unmet (standing_conditions e t)) c.in-Ok.ensures.kept) ∙ c.in-Some-2.is

pub returns-clause-met : goal.returns-clause-met
returns-clause-met c =
    let spec = c.args.spec.now in let d = declared_in c.args.scope.now in let t = constructing c.args.tree.now in
    by.to_standing spec d t c.in-Ok.ensures.met (sym (c.unmet_forming.ensures d t c.in-Ok.ensures.read) ∙ c.in_default.is)
    ∙ sym (c.in_ok-condition.ensures ∙ ap (λ (e : Declared). first_unmet (standing_conditions e t)) c.in-Ok.ensures.kept) ∙ c.in_default-2.is
