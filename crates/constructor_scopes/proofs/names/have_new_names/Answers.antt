use Rattle.std.proofs.Common.{◌≡◌, ◌∙◌, ℕ, List, Bor, true, false, ap, map, sym}
use Rattle.std.specs.Prelude.{◌&&◌}
use Rattle.sled_model.specs.Specs.{constructor_names_of}
use Rattle.tree_meaning.specs.Names.{are_new, are_distinct}
use Rattle.tree_meaning.proofs.NamesLemmas.{new_of_map}
use Rattle.constructor_scopes.proofs.names.have_new_names.Goals as goal

pub returns-then-not-are_unknown : goal.returns-then-not-are_unknown
returns-then-not-are_unknown c =
    let names = map (λ (x : Bor (List ℕ)). x.now) c.args.names.now in
    let known : are_new (constructor_names_of c.args.spec.now) names ≡ false =
    new_of_map (constructor_names_of c.args.spec.now) (λ x. x.now) c.args.names.now ∙ sym c.are_unknown.ensures ∙ c.if-not-are_unknown.true in
    sym (ap (λ t. t && are_distinct names) known)

pub returns : goal.returns
returns c =
    let names = map (λ (x : Bor (List ℕ)). x.now) c.args.names.now in
    let new : are_new (constructor_names_of c.args.spec.now) names ≡ true =
    new_of_map (constructor_names_of c.args.spec.now) (λ x. x.now) c.args.names.now ∙ sym c.are_unknown.ensures ∙ c.if-not-are_unknown.false in
    rw new c.differ.ensures
