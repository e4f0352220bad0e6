use Rattle.operand_meaning.proofs.LimitLaws.{all_held}
use Rattle.tree_meaning.specs.Scopes.{declared_in}
use Rattle.operand_meaning.proofs.equations.equations_of.Goals as goal

pub all_equations-requires-clause-held : goal.all_equations-requires-clause-held
all_equations-requires-clause-held c = all_held (declared_in c.args.scope.now) c.args.operands.now c.args.equations.now c.requires.limits
