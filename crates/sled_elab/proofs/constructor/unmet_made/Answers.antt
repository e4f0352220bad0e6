use Rattle.std.proofs.Common.{All, sym, subst, ◌∙◌}
use Rattle.sled_model.specs.Linear.{IsLinear}
use Rattle.constructor_meaning.specs.Constructing.{constructing}
use Rattle.constructor_plans.specs.Plans.{ArePlansUnmet}
use Rattle.sled_elab.specs.Descriptions.{described_in}
use Rattle.sled_elab.proofs.MadeConstructors.{made_linear}
use Rattle.sled_elab.proofs.constructor.unmet_made.Goals as goal

pub unmet_plans-requires-clause-linear : goal.unmet_plans-requires-clause-linear
unmet_plans-requires-clause-linear c =
    let d = described_in c.args.description.now in
    subst (All (IsLinear d.spec.tokens)) (sym (c.as_slice.ensures ∙ c.in_ok-constructors.ensures))
    (made_linear d c.requires.sound c.requires.plain (constructing c.args.tree.now) c.requires.met c.requires.equations)

pub returns : goal.returns
returns c =
    let d = described_in c.args.description.now in (
      c.in_ok-plans.plans,
      subst (λ cs. ArePlansUnmet d.spec.tokens cs c.in_ok-plans.plans) (c.as_slice.ensures ∙ c.in_ok-constructors.ensures) c.in_ok-plans.ensures,
      c.or_unmet_measures-unmet.ensures,
    )
