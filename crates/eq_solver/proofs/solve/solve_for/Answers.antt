use Rattle.std.proofs.Common.{arith, w64, FitsSigned, rules}
use Rattle.std.proofs.lemmas.Int.{ints, to_z-of_z}
use Rattle.eq_solver.proofs.Roots.{root_read}
use Rattle.eq_solver.proofs.solve.solve_for.Goals as goal

pub returns-in-Some : goal.returns-in-Some
returns-in-Some c =
    let f : FitsSigned w64 c.in-Some.read = search rules in
    root_read c.args.half c.args.coefficient c.args.total _ c.in-Some.read _ _ _ c.args.signed c.unread.result (to_z-of_z w64 c.args.half c.ranges.half) (to_z-of_z w64 c.args.coefficient c.ranges.coefficient)
    (to_z-of_z w64 c.in-Some.read f) (omega (arith, ints)) c.in-Some.ensures c.unread.ensures
