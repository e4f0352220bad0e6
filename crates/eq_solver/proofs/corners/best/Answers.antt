use Rattle.std.proofs.Common.{w64, FitsSigned, rules, arith, to_z, of_z, ◌-ℤ◌, ◌+ℤ◌, pos}
use Rattle.std.proofs.lemmas.Int.{ints, to_z-of_z}
use Rattle.eq_solver.proofs.Most.{best_read}
use Rattle.eq_solver.proofs.corners.best.Goals as goal

pub returns-clause-is : goal.returns-clause-is
returns-clause-is c =
    let fh : FitsSigned w64 c.args.half = search rules in
    let f0 : FitsSigned w64 c.better-low.result = search rules in
    let f1 : FitsSigned w64 c.better-high.result = search rules in
    let f2 : FitsSigned w64 c.better.result = search rules in
    let h = to_z w64 (of_z w64 c.args.half) in
    best_read c.args.half c.args.cell c.args.terms.now h (to_z w64 (of_z w64 (h -ℤ pos 1))) (to_z w64 (of_z w64 (to_z w64 (of_z w64 (h +ℤ h)) -ℤ pos 1))) c.better-low.result c.better-high.result c.better.result
    (to_z w64 (of_z w64 c.better-low.result)) (to_z w64 (of_z w64 c.better-high.result)) _ c.better-low.ensures.is c.better-high.ensures.is c.better.ensures.is
    (omega (arith, ints)) (omega (arith, ints)) (omega (arith, ints)) (to_z-of_z w64 c.better-low.result f0) (to_z-of_z w64 c.better-high.result f1) (to_z-of_z w64 c.better.result f2)
