use Rattle.std.proofs.Common.{◌≡◌, ◌+◌, ◌≤◌, List, length, map, filter, slice_get, All, refl, sym, ap, subst, ◌∙◌}
use Rattle.std.proofs.lemmas.Result.{IfOk-weaker}
use Rattle.sled_model.specs.declared.raw.RawEntry.{RawEntry}
use Rattle.sled_model.specs.declared.raw.Match.{Match}
use Rattle.sled_model.specs.Results.{application_results, choice_match}
use Rattle.sled_model.specs.Admitted.{list_admits}
use Rattle.sled_model.specs.PatternContexts.{known_in}
use Rattle.sled_model.proofs.Local.{application-local}
use Rattle.sled_model.proofs.ContextLemmas.{are_local, known_at, meaning_within}
use Rattle.sled_model.proofs.ChoiceLemmas.{applied_none, applied_some, mapped_results}
use Rattle.sled_model.proofs.choices.application_results.Goals as goal

pub returns-in-None-clause-value : goal.returns-in-None-clause-value
returns-in-None-clause-value c =
    let a = c.args in let near = a.near.now in let known = known_in near in
    c.new.ensures ∙ applied_none known a.k.0 a.arguments.now near.window.now a.at (slice_get known a.k.0) refl (known_at near.tokens.now near.constructors.now a.k.0 ∙ sym c.in-None.ensures)

pub returns-in-Some-clause-value : goal.returns-in-Some-clause-value
returns-in-Some-clause-value c =
    let a = c.args in let near = a.near.now in let known = known_in near in let d = c.in-Some.constructor.now in
    let f = choice_match a.k.0 a.arguments.now in let p = λ (x : Match). list_admits known d x.binds 0 a.arguments.now in
    let e = applied_some known a.k.0 a.arguments.now near.window.now a.at (slice_get known a.k.0) d refl (known_at near.tokens.now near.constructors.now a.k.0 ∙ sym c.in-Some.ensures) in
    IfOk-weaker c.admitted_choices.result _ _
    (λ found is. is ∙ ap (λ xs. map f (filter p xs)) c.body_at.ensures ∙ mapped_results (slice_get known a.k.0) (λ c. c.body near.window.now a.at) f p ∙ sym e) c.admitted_choices.ensures

pub returns-in-Some-clause-within : goal.returns-in-Some-clause-within
returns-in-Some-clause-within c =
    let a = c.args in let near = a.near.now in let known = known_in near in let d = c.in-Some.constructor.now in let n = length near.window.now in
    let f = choice_match a.k.0 a.arguments.now in let p = λ (x : Match). list_admits known d x.binds 0 a.arguments.now in
    let admitted = λ (inner : List RawEntry). list_admits known d inner 0 a.arguments.now in
    IfOk-weaker c.admitted_choices.result _ (All (λ (x : Match). a.at + x.len ≤ n))
    (λ found is. subst (All (λ (x : Match). a.at + x.len ≤ n))
    (sym (is ∙ ap (λ xs. map f (filter p xs)) c.body_at.ensures ∙ mapped_results (slice_get known a.k.0) (λ c. c.body near.window.now a.at) f p))
    (meaning_within (application_results known a.k.0 a.arguments.now admitted)
    (application-local known a.k.0 a.arguments.now admitted (are_local near.tokens.now near.constructors.now)) near.window.now a.at c.requires.at))
    c.admitted_choices.ensures
