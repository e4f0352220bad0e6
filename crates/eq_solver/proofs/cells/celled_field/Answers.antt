use Rattle.std.proofs.Common.{rules, ◌<◌, ◌^◌, arith}
use Rattle.eq_solver.proofs.OfCells.{cell_below}
use Rattle.eq_solver.proofs.cells.celled_field.Goals as goal

pub overflow_cast-result : goal.overflow_cast-result
overflow_cast-result c =
    let l = cell_below c.args.fields.now c.args.field.0 c.requires.among in
    let b : c.cell_of.result < 2 ^ 32 = omega (arith, l, c.requires.few, c.cell_of.ensures) in
    search rules
