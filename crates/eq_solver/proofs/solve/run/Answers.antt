use Rattle.std.proofs.Common.{◌<◌, refl, rules, length, get_or}
use Rattle.std.proofs.lemmas.Option.{slice_get_read}
use Rattle.eq_solver.specs.declared.plan.SolvingStep.{SolvingStep}
use Rattle.eq_solver.specs.declared.plan.Work.TheVariants.{Check}
use Rattle.eq_solver.proofs.Runs.{running_more, running_stuck}
use Rattle.eq_solver.proofs.solve.run.Goals as goal

pub returns-then-not-step-clause-unsolvable : goal.returns-then-not-step-clause-unsolvable
returns-then-not-step-clause-unsolvable c = let none : SolvingStep = record { equation = 0; work = Check } in
    let b : (get_or c.args.steps.now c.loop-made.made-index none).equation < length c.args.equations.now = search rules in
    running_stuck _ _ _ _ _ _ c.args.out.now c.loop-made.made-index _ c.loop-made.out c.step.new.out none c.index-equations-made.result c.step.result c.loop-made.invariant c.loop-made-test.true
    (slice_get_read _ _ _ _ refl b c.index-equations-made.is) c.loop-made.auto.out c.step.ensures c.if-not-step.true

pub loop-made-preserved : goal.loop-made-preserved
loop-made-preserved c = let none : SolvingStep = record { equation = 0; work = Check } in
    let b : (get_or c.args.steps.now c.loop-made.made-index none).equation < length c.args.equations.now = search rules in
    running_more _ _ _ _ _ _ c.args.out.now c.loop-made.made-index c.loop-made.out c.step.new.out none c.index-equations-made.result c.step.result c.loop-made.invariant c.loop-made-test.true
    (slice_get_read _ _ _ _ refl b c.index-equations-made.is) c.step.auto.out c.step.ensures c.if-not-step.false
