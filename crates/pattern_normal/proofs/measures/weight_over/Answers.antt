use Rattle.pattern_normal.specs.Operands.{operand_weights}
use Rattle.pattern_normal.proofs.measures.weight_over.Goals as goal

pub returns : goal.returns
unfolding operand_weights
returns c = c.weight_at.ensures
