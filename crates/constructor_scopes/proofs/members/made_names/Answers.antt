use Rattle.std.proofs.Common.{◌≡◌, ◌∙◌, List, ℕ, ap, map, sym}
use Rattle.constructor_scopes.specs.declared.members.Makings.{Makings}
use Rattle.constructor_scopes.specs.declared.members.Member.{Member}
use Rattle.constructor_scopes.specs.Makings.{Made}
use Rattle.constructor_scopes.specs.Names.{made_names}
use Rattle.constructor_scopes.specs.Views.{made, made_for}
use Rattle.constructor_scopes.proofs.TypedLemmas.{map-map}
use Rattle.constructor_scopes.proofs.members.made_names.Goals as goal

pub returns-in_ok-names-in-Members : goal.returns-in_ok-names-in-Members
returns-in_ok-names-in-Members c =
    let members = c.in-Members.members.items in
    let are : made c.args.makings.now ≡ map made_for members = ap made c.in-Members.is in
    c.in_ok-names-in-Members.ensures ∙ ap (map (λ (m : Member). m.name.now)) c.as_slice.ensures.value
    ∙ sym (map-map (λ (m : Made). m.name) made_for members) ∙ sym (ap made_names are)
