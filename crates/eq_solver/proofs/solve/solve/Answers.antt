use Rattle.std.proofs.Common.{w64, FitsSigned, rules, arith, ◌∙◌, refl}
use Rattle.std.proofs.lemmas.Int.{ints, to_z-of_z}
use Rattle.eq_solver.specs.Sums.{setting_from}
use Rattle.eq_solver.proofs.Moves.{none_found, one_found, fields_of, half_of, total_of}
use Rattle.eq_solver.proofs.solve.solve.Goals as goal

pub returns-in-None : goal.returns-in-None
returns-in-None c left s k =
    let f : FitsSigned w64 c.number_at.result = search rules in
    none_found (setting_from c.args.halves.now c.args.operands.now c.args.labels.now) _ left c.args.equation.now c.args.out.now c.args.cell c.args.signed c.args.coefficient _ _ _
    (to_z-of_z w64 c.number_at.result f ∙ c.number_at.ensures) (to_z-of_z w64 c.args.coefficient c.ranges.coefficient)
    (total_of _ _ _ _ _ _ _ (omega (arith, ints)) c.sum.ensures.is c.as_slice.ensures) c.in-None.ensures (half_of _ _ _ _ c.args.cell c.requires.values c.requires.cell) refl s k

pub returns-in-Some : goal.returns-in-Some
returns-in-Some c left s k =
    let f : FitsSigned w64 c.number_at.result = search rules in
    let g : FitsSigned w64 c.in-Some.value = search rules in
    one_found (setting_from c.args.halves.now c.args.operands.now c.args.labels.now) _ left c.args.equation.now c.args.out.now c.args.cell c.args.signed c.args.coefficient _ _ _ _ _
    (to_z-of_z w64 c.number_at.result f ∙ c.number_at.ensures) (to_z-of_z w64 c.args.coefficient c.ranges.coefficient)
    (total_of _ _ _ _ _ _ _ (omega (arith, ints)) c.sum.ensures.is c.as_slice.ensures) (to_z-of_z w64 c.in-Some.value g) c.in-Some.ensures (half_of _ _ _ _ c.args.cell c.requires.values c.requires.cell) refl (fields_of _ _ _ _ c.requires.values) s k
