use Rattle.std.proofs.Common.{inr, arith}
use Rattle.pattern_normal.proofs.Worked.{few_bodies, fits_application}
use Rattle.pattern_normal.proofs.tests.choices.Goals as goal

pub cases_of-requires-clause-few : goal.cases_of-requires-clause-few
cases_of-requires-clause-few c = inr (few_bodies c.in_ok-spec.spec.constructors _ _ _ c.in_ok-spec.ensures.bodies)

pub cases_of-requires-clause-fits : goal.cases_of-requires-clause-fits
cases_of-requires-clause-fits c = fits_application c.in_ok-spec.spec c.in_ok-pattern.pattern _ c.in_ok-spec.ensures.byte c.in_ok-spec.ensures.bodies c.in_ok-pattern.ensures
