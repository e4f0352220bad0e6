use Rattle.matchable_arms.proofs.Arms.{arm_matchable}
use Rattle.matchable_arms.proofs.arms_are_matchable.Goals as goal

pub returns : goal.returns
returns c = λ spec arm sound readings once lengths action. arm_matchable spec arm sound readings once lengths action
