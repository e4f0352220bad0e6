use Rattle.std.proofs.Common.{length, subst, sym, ℕ, ℤ, List}
use Rattle.eq_solver.specs.declared.plan.Source.{Source}
use Rattle.eq_solver.specs.declared.plan.Value.{Value}
use Rattle.eq_solver.specs.Operands.{AreWritable, AreWritten}
use Rattle.eq_solver.proofs.Starting.{subst4}
use Rattle.eq_solver.proofs.Writable.{writable}
use Rattle.eq_solver.proofs.OperandsOf.{only_operands}
use Rattle.eq_solver.proofs.plan.Plan.operands.Goals as goal

pub write_operands-requires : goal.write_operands-requires
write_operands-requires c =
    let p = c.requires.plan in
    record {
      writable = subst (AreWritable c.as_slice.result.now c.args.labels.now c.args.fields.now c.as_slice-2.result.now c.as_slice-3.result.now c.as_slice-4.result.now) p.4
          (subst4 (λ (halves : List ℤ) (sources : List Source) (values : List Value) (slices : List ℕ). AreWritable halves c.args.labels.now c.args.fields.now sources values slices (length p.1.operands))
          (sym c.as_slice.ensures) (sym c.as_slice-2.ensures) (sym c.as_slice-3.ensures) (sym c.as_slice-4.ensures)
          (writable p.0 p.1 c.args.self.now p.2 c.args.labels.now c.args.fields.now c.requires.fields c.requires.labels p.3));
    }

pub returns : goal.returns
returns c = λ tokens k is.
    only_operands tokens k c.args.self.now is c.args.labels.now c.args.fields.now c.requires.fields c.requires.labels c.write_operands.new.out
    (subst4 (λ (halves : List ℤ) (sources : List Source) (values : List Value) (slices : List ℕ). AreWritten halves c.args.labels.now c.args.fields.now sources values slices c.write_operands.new.out)
    c.as_slice.ensures c.as_slice-2.ensures c.as_slice-3.ensures c.as_slice-4.ensures c.write_operands.ensures)
