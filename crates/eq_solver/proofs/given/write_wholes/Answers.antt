use Rattle.std.proofs.Common.{refl, [], ◌∙◌, arith, ◌<◌}
use Rattle.std.proofs.lemmas.Option.{slice_get_read, slice_get_within}
use Rattle.eq_solver.specs.Sums.{at, setting_from}
use Rattle.eq_solver.proofs.Written.{written}
use Rattle.eq_solver.proofs.given.write_wholes.Goals as goal

pub loop-number-preserved : goal.loop-number-preserved
loop-number-preserved c =
    let there = slice_get_read _ _ _ _ refl c.loop-number-test.true c.index-values-number.is in
    record {
      has = written (setting_from c.args.halves.now [] c.args.labels.now) (at c.args.fields.now) c.args.values.now c.loop-number.number c.index-values-number.result (at c.loop-number.out) _ c.loop-number.invariant.has c.requires.distinct
          there c.write_whole.ensures.has c.write_whole.ensures.kept;
      kept = λ k n. c.write_whole.ensures.kept k (λ e. n c.loop-number.number c.index-values-number.result there e) ∙ c.loop-number.invariant.kept k n;
    }

pub returns-clause-has : goal.returns-clause-has
returns-clause-has c = λ j g s. let l : j < c.loop-number.number = (let w = slice_get_within c.args.values.now j g s in omega arith) in c.loop-number.invariant.has j g l s
