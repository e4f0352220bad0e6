use Rattle.std.proofs.Common.{◌<◌, length, rules, arith, w64, FitsSigned}
use Rattle.std.proofs.lemmas.Int.{to_z-of_z}
use Rattle.eq_solver.specs.Sums.{at}
use Rattle.eq_solver.proofs.Starting.{filled}
use Rattle.eq_solver.proofs.starts.fill.Goals as goal

pub loop-cell-preserved : goal.loop-cell-preserved
loop-cell-preserved c =
    let b : c.loop-cell.cell < length c.loop-cell.out = omega arith in
    let f : FitsSigned w64 c.start.result = search rules in
    let g : FitsSigned w64 (at c.args.halves.now c.loop-cell.cell) = search rules in
    filled c.args.halves.now c.args.operands.now c.args.sources.now c.loop-cell.out c.loop-cell.cell _ c.start.result _ c.loop-cell.invariant b (to_z-of_z w64 (at c.args.halves.now c.loop-cell.cell) g) c.start.ensures (to_z-of_z w64 c.start.result f)
