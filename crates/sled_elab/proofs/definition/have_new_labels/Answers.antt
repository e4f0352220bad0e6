use Rattle.std.proofs.Common.{◌∙◌}
use Rattle.tree_meaning.specs.NameTables.{table_names}
use Rattle.tree_meaning.proofs.PartLaws.{all_labels}
use Rattle.sled_elab.proofs.definition.have_new_labels.Goals as goal

pub returns : goal.returns
returns c = c.labels_are_new.ensures ∙ all_labels (table_names c.args.scope.now.names) (λ x. x.now) c.args.parts.now c.args.tree.now c.requires
