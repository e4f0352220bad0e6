use Rattle.pattern_normal.specs.Operands.{operand_sizes}
use Rattle.pattern_normal.proofs.measures.size_over.Goals as goal

pub returns : goal.returns
unfolding operand_sizes
returns c = c.size_at.ensures
