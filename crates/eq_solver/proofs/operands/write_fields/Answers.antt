use Rattle.std.proofs.Common.{refl, ◌+◌, ◌∙◌, arith, ◌<◌, w64, FitsSigned, rules, get_or, pos}
use Rattle.std.proofs.lemmas.Int.{to_z-of_z}
use Rattle.eq_solver.specs.Sums.{at}
use Rattle.eq_solver.proofs.FieldsWritten.{fields_more}
use Rattle.eq_solver.proofs.operands.write_fields.Goals as goal

pub loop-cell-preserved : goal.loop-cell-preserved
loop-cell-preserved c =
    let f : FitsSigned w64 (get_or c.args.halves.now c.loop-cell.cell (pos 0)) = search rules in
    let g : FitsSigned w64 (get_or c.args.fields.now c.loop-cell.cell (pos 0)) = search rules in
    record {
      fits = fields_more c.args.halves.now c.args.fields.now c.args.sources.now c.loop-cell.cell _ _ _ (at c.loop-cell.out) _ c.requires.apart c.loop-cell-test.true refl (to_z-of_z w64 _ f) (to_z-of_z w64 _ g)
          c.loop-cell.invariant.fits c.write_field.ensures.fits c.write_field.ensures.kept;
      kept = λ k n. c.write_field.ensures.kept k (n c.loop-cell.cell (let l : c.loop-cell.cell < c.loop-cell.cell + 1 = omega arith in l)) ∙ c.loop-cell.invariant.kept k (λ f l. n f (let m : f < c.loop-cell.cell + 1 = omega arith in m));
    }
