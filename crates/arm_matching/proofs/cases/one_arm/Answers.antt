use Rattle.std.proofs.Common.{inr}
use Rattle.arm_matching.proofs.cases.one_arm.Goals as goal

pub cases_of-requires-clause-few : goal.cases_of-requires-clause-few
cases_of-requires-clause-few c = inr c.requires.spec.few
