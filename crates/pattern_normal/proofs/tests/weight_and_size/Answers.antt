use Rattle.std.proofs.Common.{inl}
use Rattle.pattern_normal.proofs.Worked.{plain, fits}
use Rattle.pattern_normal.proofs.tests.weight_and_size.Goals as goal

pub weight-requires-clause-plain : goal.weight-requires-clause-plain
weight-requires-clause-plain g c = plain c.in_ok-pattern.pattern c.in_ok-pattern.ensures

pub size-requires : goal.size-requires
size-requires g c = record { plain = plain c.in_ok-pattern.pattern c.in_ok-pattern.ensures }

pub cases_of-requires-clause-few : goal.cases_of-requires-clause-few
cases_of-requires-clause-few g c = inl (plain c.in_ok-pattern.pattern c.in_ok-pattern.ensures)

pub cases_of-requires-clause-fits : goal.cases_of-requires-clause-fits
cases_of-requires-clause-fits g c = fits c.in_ok-spec.spec c.in_ok-pattern.pattern c.in_ok-pattern.ensures c.in_ok-spec.ensures.low c.in_ok-spec.ensures.high
