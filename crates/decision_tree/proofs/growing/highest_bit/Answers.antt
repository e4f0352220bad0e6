use Rattle.decision_tree.proofs.Open.{highest_one}
use Rattle.decision_tree.proofs.growing.highest_bit.Goals as goal

pub returns-clause-one : goal.returns-clause-one
returns-clause-one c = (highest_one c.args.free c.requires c.ranges.free.fits).1
