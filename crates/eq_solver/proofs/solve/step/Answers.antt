use Rattle.std.proofs.Common.{◌+ℤ◌, w64, FitsSigned, to_z, of_z, arith, refl}
use Rattle.std.proofs.lemmas.Int.{ints}
use Rattle.eq_solver.specs.Sums.{at, setting_from}
use Rattle.eq_solver.proofs.Moves.{check_found_at, fields_of, total_of}
use Rattle.eq_solver.proofs.solve.step.Goals as goal

pub returns-in-Check : goal.returns-in-Check
returns-in-Check c left s k =
    let w = setting_from c.args.halves.now c.args.operands.now c.args.labels.now in
    let x = to_z w64 (of_z w64 c.sum.result) +ℤ to_z w64 (of_z w64 c.args.equation.now.rest) in
    let f : FitsSigned w64 x = omega (arith, ints) in
    check_found_at w _ left c.args.equation.now (at c.args.out.now) x _ c.args.work c.in-Check.is refl f (total_of _ _ _ _ _ _ _ (omega (arith, ints)) c.sum.ensures.is c.as_slice.ensures) (fields_of _ _ _ _ c.requires.values) s
