use Rattle.std.proofs.Common.{◌≡◌, ◌∙◌, subst, map}
use Rattle.std.specs.Prelude.{Some}
use Rattle.tree_meaning.specs.Parts.{has_one_number}
use Rattle.tree_meaning.specs.Scopes.{declared_in}
use Rattle.tree_meaning.proofs.PartLaws.{all_parts}
use Rattle.sled_elab.specs.Conditions.{choices_are_listed}
use Rattle.sled_elab.proofs.DefinitionLemmas.{listed_some}
use Rattle.sled_elab.proofs.definition.choices_are_listed.Goals as goal

pub returns-in-None : goal.returns-in-None
returns-in-None c = rw (c.in-None.is) (c.generate_nothing.ensures ∙ all_parts has_one_number (λ x. x.now) c.args.parts.now c.args.tree.now c.requires.parts)

pub returns-then-has_name : goal.returns-then-has_name
returns-then-has_name c =
    let declared = declared_in c.args.scope.now in
    rw (c.in-Some.is) (subst (λ items. c.has_places.result ≡ choices_are_listed declared (Some items) c.args.tree.now) c.as_slice-items.ensures
    (listed_some declared c.as_slice-items.result.now c.args.tree.now (map (λ x. x.now) c.args.parts.now) c.has_name.result c.has_places.result c.if-has_name.true c.has_name.ensures c.requires.parts c.has_places.ensures))
