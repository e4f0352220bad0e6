use Rattle.std.proofs.Common.{Some, None, sym, ap, subst, ◌∙◌}
use Rattle.constructor_meaning.specs.Conditions.{conditions}
use Rattle.constructor_meaning.specs.Constructing.{constructing}
use Rattle.constructor_meaning.specs.Draft.{IsDraftOf}
use Rattle.constructor_meaning.specs.Unmet.{first_unmet}
use Rattle.sled_elab.specs.Conditions.{IsUnmetMade}
use Rattle.sled_elab.specs.Declarations.{Described}
use Rattle.sled_elab.specs.Descriptions.{described_in}
use Rattle.sled_elab.proofs.ConstructorLemmas.{unmet_later}
use Rattle.sled_elab.proofs.constructor.declare_constructor.Goals as goal

pub unmet_made-requires-clause-draft : goal.unmet_made-requires-clause-draft
unmet_made-requires-clause-draft c =
    subst (λ (d : Described). IsDraftOf d.spec d.declared (constructing c.args.tree.now) c.in-Ok.draft) (sym c.in-Ok.ensures.kept) c.in-Ok.ensures.draft

pub unmet_made-requires-clause-met : goal.unmet_made-requires-clause-met
unmet_made-requires-clause-met c =
    ap (λ (d : Described). first_unmet (conditions d.spec d.declared (constructing c.args.tree.now))) c.in-Ok.ensures.kept ∙ c.in-Ok.ensures.met

pub returns-in-Some-clause-unmet : goal.returns-in-Some-clause-unmet
returns-in-Some-clause-unmet c =
    let tree = constructing c.args.tree.now in
    let kept = described_in c.drafted.new.description in
    unmet_later (described_in c.args.description.now) tree kept (Some c.in-Some.condition) c.in-Ok.ensures.kept c.in-Ok.ensures.met (subst (IsUnmetMade kept tree) c.in-Some.is c.in_ok-condition.ensures)

pub add_constructors-requires-clause-draft : goal.add_constructors-requires-clause-draft
add_constructors-requires-clause-draft c =
    subst (λ (d : Described). IsDraftOf d.spec d.declared (constructing c.args.tree.now) c.in-Ok.draft) (sym c.in-Ok.ensures.kept) c.in-Ok.ensures.draft

pub add_constructors-requires-clause-met : goal.add_constructors-requires-clause-met
add_constructors-requires-clause-met c =
    ap (λ (d : Described). first_unmet (conditions d.spec d.declared (constructing c.args.tree.now))) c.in-Ok.ensures.kept ∙ c.in-Ok.ensures.met

pub returns-clause-unmet : goal.returns-clause-unmet
returns-clause-unmet c =
    let tree = constructing c.args.tree.now in
    let kept = described_in c.drafted.new.description in
    unmet_later (described_in c.args.description.now) tree kept None c.in-Ok.ensures.kept c.in-Ok.ensures.met (subst (IsUnmetMade kept tree) c.in_default.is c.in_ok-condition.ensures)
