use Rattle.std.proofs.Common.{◌∙◌}
use Rattle.tree_meaning.specs.Parts.{is_known_part}
use Rattle.tree_meaning.specs.declared.parts.Site.TheVariants.{Body}
use Rattle.tree_meaning.specs.Scopes.{declared_in}
use Rattle.tree_meaning.proofs.PartLaws.{all_parts}
use Rattle.constructor_meaning.proofs.naming.all_known.Goals as goal

pub returns : goal.returns
returns c = c.are_known.ensures ∙ all_parts (is_known_part Body (declared_in c.args.scope.now)) (λ x. x.now) c.args.parts.now c.args.body.now c.requires
