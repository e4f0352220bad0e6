use Rattle.std.proofs.Common.{◌∙◌}
use Rattle.sled_elab.proofs.DefinitionLemmas.{some_name}
use Rattle.sled_elab.proofs.definition.has_name.Goals as goal

pub returns : goal.returns
returns c = c.any_name.ensures ∙ some_name c.args.items.now
