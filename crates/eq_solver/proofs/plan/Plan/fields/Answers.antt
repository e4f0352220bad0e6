use Rattle.std.proofs.Common.{ℕ, ◌<◌, ◌∙◌, length}
use Rattle.eq_solver.specs.Sums.{at, setting_from}
use Rattle.eq_solver.specs.Steps.{Solved, IsUnsolvable}
use Rattle.eq_solver.specs.Plans.{source_at}
use Rattle.eq_solver.specs.Starts.{IsStart}
use Rattle.eq_solver.proofs.Starting.{AreStarts, solution_of, no_solution_of, subst2, subst4}
use Rattle.eq_solver.proofs.SolutionsOf.{only_fields, first_unsolvable}
use Rattle.eq_solver.proofs.plan.Plan.fields.Goals as goal

pub returns-in-Ok-clause-solved : goal.returns-in-Ok-clause-solved
returns-in-Ok-clause-solved c =
    let w = setting_from c.args.self.now.halves c.args.operands.now c.args.labels.now in
    let starts : AreStarts w c.args.self.now.sources (at c.fill.new.out) = record {
      each = subst2 (λ h s. (f : ℕ) → f < length s → IsStart (at h f) (at c.args.operands.now) (source_at s f) (at c.fill.new.out f)) c.as_slice.ensures c.as_slice-2.ensures c.fill.ensures;
    } in
    let solved = subst4 (λ hidden ss es halves. Solved (setting_from halves c.args.operands.now c.args.labels.now) (length c.fill.new.out) hidden es ss (at c.fill.new.out) (at c.run.new.out))
    c.as_slice-3.ensures c.as_slice-4.ensures c.as_slice-5.ensures c.as_slice-6.ensures c.in-Ok.ensures.solved in
    solution_of w (length c.fill.new.out) c.args.self.now.sources c.args.self.now.hidden c.args.self.now.equations c.args.self.now.steps (at c.fill.new.out) (at c.run.new.out)
    (c.fill.auto.out ∙ c.requires.out) c.requires.sound.hidden c.requires.sound.closed_all starts solved

pub returns-in-Err-clause-unsolvable : goal.returns-in-Err-clause-unsolvable
returns-in-Err-clause-unsolvable c =
    let w = setting_from c.args.self.now.halves c.args.operands.now c.args.labels.now in
    let starts : AreStarts w c.args.self.now.sources (at c.fill.new.out) = record {
      each = subst2 (λ h s. (f : ℕ) → f < length s → IsStart (at h f) (at c.args.operands.now) (source_at s f) (at c.fill.new.out f)) c.as_slice.ensures c.as_slice-2.ensures c.fill.ensures;
    } in
    let stuck = subst4 (λ hidden ss es halves. IsUnsolvable (setting_from halves c.args.operands.now c.args.labels.now) (length c.fill.new.out) hidden es ss (at c.fill.new.out) c.in-Err.equation)
    c.as_slice-3.ensures c.as_slice-4.ensures c.as_slice-5.ensures c.as_slice-6.ensures c.in-Err.ensures.unsolvable in
    no_solution_of w (length c.fill.new.out) c.args.self.now.sources c.args.self.now.hidden c.args.self.now.equations c.args.self.now.steps (at c.fill.new.out) c.in-Err.equation
    (c.fill.auto.out ∙ c.requires.out) c.requires.sound.hidden starts stuck

pub returns-in-Ok-clause-only_fields : goal.returns-in-Ok-clause-only_fields
returns-in-Ok-clause-only_fields c tokens k is =
    only_fields tokens k c.args.self.now is c.args.operands.now c.args.labels.now c.run.new.out (c.run.auto.out ∙ c.fill.auto.out ∙ c.requires.out) (returns-in-Ok-clause-solved c)

pub returns-in-Err-clause-first_unsolvable : goal.returns-in-Err-clause-first_unsolvable
returns-in-Err-clause-first_unsolvable c tokens k is = first_unsolvable tokens k c.args.self.now is c.args.operands.now c.args.labels.now c.in-Err.equation (returns-in-Err-clause-unsolvable c)
