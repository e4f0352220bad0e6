use Rattle.std.proofs.Common.{◌≡◌, drop}
use Rattle.eq_solver.specs.declared.plan.Occurrence.TheVariants.{Absent}
use Rattle.eq_solver.specs.Solving.{occurrence_from}
use Rattle.eq_solver.proofs.order.occurrence.Given as goal

abbrev pub invariant-loop-term : goal.invariant-loop-term
invariant-loop-term l = occurrence_from l.field l.found (drop l.term-index l.terms) ≡ occurrence_from l.field Absent l.terms
