use Rattle.std.proofs.Common.{sym, ap, ◌∙◌}
use Rattle.constructor_meaning.specs.Constructing.{constructing}
use Rattle.sled_elab.specs.Conditions.{unmet_made}
use Rattle.sled_elab.specs.Descriptions.{described_in}
use Rattle.sled_elab.proofs.constructor.or_unmet_measures.Goals as goal

pub returns-in-None : goal.returns-in-None
returns-in-None c =
    let d = described_in c.args.description.now in
    let tree = constructing c.args.tree.now in
    c.unmet_measures.ensures d.declared tree c.requires.reading c.is_some.ensures ∙ sym (ap (unmet_made d tree) c.in-None.is)
