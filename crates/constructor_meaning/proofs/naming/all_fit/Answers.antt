use Rattle.std.proofs.Common.{◌∙◌}
use Rattle.tree_meaning.specs.Parts.{part_fits}
use Rattle.tree_meaning.specs.Patterns.{has_part_in_range}
use Rattle.tree_meaning.specs.Scopes.{declared_in}
use Rattle.tree_meaning.proofs.PartLaws.{all_parts}
use Rattle.constructor_meaning.proofs.naming.all_fit.Goals as goal

pub numbers_fit-requires-clause-numbers : goal.numbers_fit-requires-clause-numbers
numbers_fit-requires-clause-numbers c = all_parts has_part_in_range (λ x. x.now) c.args.parts.now c.args.body.now c.requires.parts ∙ c.requires.numbers

pub returns : goal.returns
returns c = c.numbers_fit.ensures ∙ all_parts (part_fits c.args.tokens.now (declared_in c.args.scope.now)) (λ x. x.now) c.args.parts.now c.args.body.now c.requires.parts
