use Rattle.relation_cases.proofs.FieldBits.{shifts_in_order}
use Rattle.relation_cases.proofs.masks.token_mask.Goals as goal

pub overflow_sub-result : goal.overflow_sub-result
overflow_sub-result c = shifts_in_order c.args.field.lo c.args.field.hi c.args.block.free c.requires.order c.requires.block.free c.requires.within
