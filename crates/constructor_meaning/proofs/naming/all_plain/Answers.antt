use Rattle.std.proofs.Common.{◌∙◌}
use Rattle.tree_meaning.specs.Parts.{has_one_number}
use Rattle.tree_meaning.proofs.PartLaws.{all_parts}
use Rattle.constructor_meaning.proofs.naming.all_plain.Goals as goal

pub returns : goal.returns
returns c = c.generate_nothing.ensures ∙ all_parts has_one_number (λ x. x.now) c.args.parts.now c.args.body.now c.requires
