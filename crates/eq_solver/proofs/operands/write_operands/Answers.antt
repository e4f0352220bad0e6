use Rattle.std.proofs.Common.{length}
use Rattle.eq_solver.specs.Sums.{at}
use Rattle.eq_solver.proofs.FieldsWritten.{fields_stay, wholes_stay, slices_made, nothing_written}
use Rattle.eq_solver.proofs.operands.write_operands.Goals as goal

pub returns : goal.returns
returns c =
    let hs = c.args.halves.now in
    let ls = c.args.labels.now in
    let vs = c.args.fields.now in
    let ss = c.args.sources.now in
    let gs = c.args.values.now in
    let ns = c.args.slices.now in
    let a = at c.clear.new.out in
    let b = at c.write_fields.new.out in
    let d = at c.write_wholes.new.out in
    let e = at c.write_slices.new.out in
    record {
      fits = fields_stay hs ls vs ss gs ns _ c.requires.writable a b d e c.clear.ensures c.write_fields.ensures.fits c.write_fields.ensures.kept c.write_wholes.ensures.has c.write_wholes.ensures.kept c.write_slices.ensures;
      has = wholes_stay hs ls vs ss gs ns _ c.requires.writable a b d e c.clear.ensures c.write_fields.ensures.fits c.write_fields.ensures.kept c.write_wholes.ensures.has c.write_wholes.ensures.kept c.write_slices.ensures;
      made = slices_made hs ls vs ss gs ns _ c.requires.writable a b d e c.clear.ensures c.write_fields.ensures.fits c.write_fields.ensures.kept c.write_wholes.ensures.has c.write_wholes.ensures.kept c.write_slices.ensures;
      nothing = nothing_written hs ls vs ss gs ns _ c.requires.writable a b d e c.clear.ensures c.write_fields.ensures.fits c.write_fields.ensures.kept c.write_wholes.ensures.has c.write_wholes.ensures.kept c.write_slices.ensures;
    }
