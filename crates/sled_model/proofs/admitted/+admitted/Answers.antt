use Rattle.std.proofs.Common.{◌≡◌, Bool, true, IfOk, Some, slice_get, subst, sym, ap, ◌∙◌}
use Rattle.std.specs.Prelude.{◌&&◌, ◌==◌}
use Rattle.std.specs.Option.{option_copied}
use Rattle.std.proofs.lemmas.Bool.{eq-eqb}
use Rattle.sled_model.specs.declared.raw.RawEntry.TheVariants.{Choice}
use Rattle.sled_model.specs.Results.{application_admits, argument_admits}
use Rattle.sled_model.specs.Admitted.{list_admits}
use Rattle.sled_model.specs.PatternContexts.{known_in}
use Rattle.sled_model.proofs.AdmittedLaws.{argument_admits-Inner, application_admits-Apply, known_admits, admits_none, admits_some}
use Rattle.sled_model.proofs.ContextLemmas.{known_at}
use Rattle.sled_model.proofs.admitted.+admitted.Goals as goal

pub argument_admits-returns-in-Inner : goal.argument_admits-returns-in-Inner
argument_admits-returns-in-Inner t c =
    let a = c.args in let known = known_in a.near.now in
    let e : application_admits known (option_copied a.choice) c.get.result.now ≡ argument_admits known (option_copied a.choice) a.argument.now =
    ap (application_admits known (option_copied a.choice)) c.get.ensures ∙ sym (argument_admits-Inner known (option_copied a.choice) c.in-Inner.pattern)
    ∙ ap (argument_admits known (option_copied a.choice)) (sym c.in-Inner.is) in
    subst (λ b. IfOk c.application_admits.result (λ admitted. admitted ≡ b)) e c.application_admits.ensures

pub application_admits-returns-in-None : goal.application_admits-returns-in-None
application_admits-returns-in-None t c =
    let a = c.args in let known = known_in a.near.now in let k = c.in-Apply.constructor in let inner = c.in-Choice.inner.entries in
    let chosen : option_copied a.choice ≡ Some (Choice c.in-Choice.chosen c.in-Choice.inner c.in-Choice.arguments) =
    ap option_copied c.in-Some.is ∙ ap Some c.in-Choice.is in
    let none : known_admits known (slice_get known k.0) inner c.in-Apply.arguments ≡ true =
    admits_none known (slice_get known k.0) inner c.in-Apply.arguments (known_at a.near.now.tokens.now a.near.now.constructors.now k.0 ∙ sym c.in-None.ensures) in
    sym (ap (λ o. application_admits known o a.pattern.now) chosen ∙ ap (application_admits known (Some (Choice c.in-Choice.chosen c.in-Choice.inner c.in-Choice.arguments))) c.in-Apply.is
    ∙ application_admits-Apply known c.in-Choice.chosen k c.in-Choice.inner c.in-Choice.arguments c.in-Apply.arguments
    ∙ ap (λ b. b && known_admits known (slice_get known k.0) inner c.in-Apply.arguments) (eq-eqb c.in-Choice.chosen.0 k.0 c.if-chosen-constructor.false) ∙ none)

pub application_admits-returns-in-Some-item_at : goal.application_admits-returns-in-Some-item_at
application_admits-returns-in-Some-item_at t c =
    let a = c.args in let known = known_in a.near.now in let k = c.in-Apply.constructor in let inner = c.in-Choice.inner.entries in
    let chosen : option_copied a.choice ≡ Some (Choice c.in-Choice.chosen c.in-Choice.inner c.in-Choice.arguments) =
    ap option_copied c.in-Some.is ∙ ap Some c.in-Choice.is in
    let some : known_admits known (slice_get known k.0) inner c.in-Apply.arguments ≡ list_admits known c.in-Some-item_at.known.now inner 0 c.in-Apply.arguments =
    admits_some known (slice_get known k.0) inner c.in-Apply.arguments c.in-Some-item_at.known.now (known_at a.near.now.tokens.now a.near.now.constructors.now k.0 ∙ sym c.in-Some-item_at.ensures) in
    let e : application_admits known (option_copied a.choice) a.pattern.now ≡ list_admits known c.in-Some-item_at.known.now inner 0 c.in-Apply.arguments =
    ap (λ o. application_admits known o a.pattern.now) chosen ∙ ap (application_admits known (Some (Choice c.in-Choice.chosen c.in-Choice.inner c.in-Choice.arguments))) c.in-Apply.is
    ∙ application_admits-Apply known c.in-Choice.chosen k c.in-Choice.inner c.in-Choice.arguments c.in-Apply.arguments
    ∙ ap (λ b. b && known_admits known (slice_get known k.0) inner c.in-Apply.arguments) (eq-eqb c.in-Choice.chosen.0 k.0 c.if-chosen-constructor.false) ∙ some in
    let told : list_admits known c.in-Some-item_at.known.now c.as_slice-in-Some-item_at.result.now 0 c.as_slice.result.now ≡ list_admits known c.in-Some-item_at.known.now inner 0 c.in-Apply.arguments =
    ap (λ es. list_admits known c.in-Some-item_at.known.now es 0 c.as_slice.result.now) c.as_slice-in-Some-item_at.ensures ∙ ap (list_admits known c.in-Some-item_at.known.now inner 0) c.as_slice.ensures in
    subst (λ b. IfOk c.arguments_admit.result (λ admitted. admitted ≡ b)) (told ∙ sym e) c.arguments_admit.ensures
