use Rattle.std.proofs.Common.{inl}
use Rattle.pattern_normal.proofs.Worked.{plain, fits}
use Rattle.pattern_normal.proofs.tests.told.Goals as goal

pub cases_of-requires-clause-few : goal.cases_of-requires-clause-few
cases_of-requires-clause-few c = inl (plain c.in_ok-pattern.pattern c.in_ok-pattern.ensures)

pub cases_of-requires-clause-fits : goal.cases_of-requires-clause-fits
cases_of-requires-clause-fits c = fits c.in_ok-spec.spec c.in_ok-pattern.pattern c.in_ok-pattern.ensures c.in_ok-spec.ensures.low c.in_ok-spec.ensures.high
