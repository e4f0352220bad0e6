use Rattle.eq_solver.proofs.Bounds.{product_within, product_kept}
use Rattle.eq_solver.proofs.sums.scaled.Goals as goal

pub returns-clause-is : goal.returns-clause-is
returns-clause-is c = product_kept c.args.coefficient c.args.value c.requires.coefficient c.requires.value c.ranges.coefficient c.ranges.value

pub returns-clause-within : goal.returns-clause-within
returns-clause-within c = rw (product_kept c.args.coefficient c.args.value c.requires.coefficient c.requires.value c.ranges.coefficient c.ranges.value) (product_within _ _ c.requires.coefficient c.requires.value)
