use Rattle.std.proofs.Common.{◌≡◌, true, [], IfOk, Some, slice_get, subst, sym, ap, ◌∙◌}
use Rattle.std.specs.Prelude.{◌&&◌}
use Rattle.std.specs.Option.{option_map, option_copied}
use Rattle.std.proofs.lemmas.Bool.{eq-eqb}
use Rattle.sled_model.specs.declared.raw.RawEntry.TheVariants.{Choice}
use Rattle.sled_model.specs.Results.{application_admits, argument_admits}
use Rattle.sled_model.specs.Admitted.{list_admits}
use Rattle.pattern_normal.specs.Skeletons.{read_spot, read_entries}
use Rattle.pattern_normal.specs.Surroundings.{around, known_of}
use Rattle.sled_model.proofs.AdmittedLaws.{argument_admits-Inner, application_admits-Apply, known_admits, admits_none, admits_some}
use Rattle.sled_model.proofs.ContextLemmas.{known_at}
use Rattle.pattern_normal.proofs.SkeletonLaws.{read_choice}
use Rattle.pattern_normal.proofs.admitted.+admitted.Goals as goal

pub argument_admits-returns-in-Inner : goal.argument_admits-returns-in-Inner
argument_admits-returns-in-Inner t c =
    let a = c.args in let known = known_of (around a.near.now) in let o = option_map (read_spot a.near.now.tokens.now []) (option_copied a.choice) in
    let e : application_admits known o c.get.result.now ≡ argument_admits known o a.argument.now =
    ap (application_admits known o) c.get.ensures ∙ sym (argument_admits-Inner known o c.in-Inner.pattern)
    ∙ ap (argument_admits known o) (sym c.in-Inner.is) in
    subst (λ b. IfOk c.application_admits.result (λ admitted. admitted ≡ b)) e c.application_admits.ensures

pub application_admits-returns-in-None : goal.application_admits-returns-in-None
application_admits-returns-in-None t c =
    let a = c.args in let known = known_of (around a.near.now) in let k = c.in-Apply.constructor in let T = a.near.now.tokens.now in
    let inner = read_entries T [] c.in-Choice.inner.entries in
    let chosen : option_map (read_spot T []) (option_copied a.choice) ≡ Some (Choice c.in-Choice.chosen (record { entries = inner }) c.in-Choice.arguments) =
    ap (λ o. option_map (read_spot T []) (option_copied o)) c.in-Some.is ∙ ap (λ s. Some (read_spot T [] s)) c.in-Choice.is
    ∙ ap Some (read_choice T [] c.in-Choice.chosen c.in-Choice.inner.entries c.in-Choice.arguments) in
    let none : known_admits known (slice_get known k.0) inner c.in-Apply.arguments ≡ true =
    admits_none known (slice_get known k.0) inner c.in-Apply.arguments (known_at T a.near.now.constructors.now k.0 ∙ sym c.in-None.ensures) in
    sym (ap (λ o. application_admits known o a.pattern.now) chosen ∙ ap (application_admits known (Some (Choice c.in-Choice.chosen (record { entries = inner }) c.in-Choice.arguments))) c.in-Apply.is
    ∙ application_admits-Apply known c.in-Choice.chosen k (record { entries = inner }) c.in-Choice.arguments c.in-Apply.arguments
    ∙ ap (λ b. b && known_admits known (slice_get known k.0) inner c.in-Apply.arguments) (eq-eqb c.in-Choice.chosen.0 k.0 c.if-chosen-constructor.false) ∙ none)

pub application_admits-returns-in-Some-item_at : goal.application_admits-returns-in-Some-item_at
application_admits-returns-in-Some-item_at t c =
    let a = c.args in let known = known_of (around a.near.now) in let k = c.in-Apply.constructor in let T = a.near.now.tokens.now in
    let inner = read_entries T [] c.in-Choice.inner.entries in let d = c.in-Some-item_at.known.now in
    let chosen : option_map (read_spot T []) (option_copied a.choice) ≡ Some (Choice c.in-Choice.chosen (record { entries = inner }) c.in-Choice.arguments) =
    ap (λ o. option_map (read_spot T []) (option_copied o)) c.in-Some.is ∙ ap (λ s. Some (read_spot T [] s)) c.in-Choice.is
    ∙ ap Some (read_choice T [] c.in-Choice.chosen c.in-Choice.inner.entries c.in-Choice.arguments) in
    let some : known_admits known (slice_get known k.0) inner c.in-Apply.arguments ≡ list_admits known d inner 0 c.in-Apply.arguments =
    admits_some known (slice_get known k.0) inner c.in-Apply.arguments d (known_at T a.near.now.constructors.now k.0 ∙ sym c.in-Some-item_at.ensures) in
    let e : application_admits known (option_map (read_spot T []) (option_copied a.choice)) a.pattern.now ≡ list_admits known d inner 0 c.in-Apply.arguments =
    ap (λ o. application_admits known o a.pattern.now) chosen ∙ ap (application_admits known (Some (Choice c.in-Choice.chosen (record { entries = inner }) c.in-Choice.arguments))) c.in-Apply.is
    ∙ application_admits-Apply known c.in-Choice.chosen k (record { entries = inner }) c.in-Choice.arguments c.in-Apply.arguments
    ∙ ap (λ b. b && known_admits known (slice_get known k.0) inner c.in-Apply.arguments) (eq-eqb c.in-Choice.chosen.0 k.0 c.if-chosen-constructor.false) ∙ some in
    let told : list_admits known d (read_entries T [] c.as_slice-in-Some-item_at.result.now) 0 c.as_slice.result.now ≡ list_admits known d inner 0 c.in-Apply.arguments =
    ap (λ es. list_admits known d (read_entries T [] es) 0 c.as_slice.result.now) c.as_slice-in-Some-item_at.ensures ∙ ap (list_admits known d inner 0) c.as_slice.ensures in
    subst (λ b. IfOk c.arguments_admit.result (λ admitted. admitted ≡ b)) (told ∙ sym e) c.arguments_admit.ensures
