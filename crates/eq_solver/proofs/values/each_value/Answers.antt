use Rattle.std.proofs.Common.{refl, subst, sym, ap, ◌≡◌, ◌+◌, ◌∙◌, MatchOption, arith, length, length-append, [], ◌∷◌}
use Rattle.std.proofs.lemmas.Option.{slice_get_read}
use Rattle.std.proofs.lemmas.List.Elements.{All-get_or}
use Rattle.sled_model.specs.Solved.{GivesOperand}
use Rattle.eq_solver.specs.Ranges.{IsValueOf}
use Rattle.eq_solver.proofs.Held.{values_more}
use Rattle.eq_solver.proofs.values.each_value.Goals as goal

pub returns-in-None-clause-partial : goal.returns-in-None-clause-partial
returns-in-None-clause-partial c = λ partial all.
    (subst (λ o. MatchOption o (GivesOperand c.args.tokens.now c.index-equations-number.result → ⊥) (IsValueOf c.args.tokens.now c.index-equations-number.result)) c.in-None.is c.in_ok-given_value.ensures)
    (subst (GivesOperand c.args.tokens.now) (sym c.index-equations-number.is) (All-get_or (GivesOperand c.args.tokens.now) c.args.equations.now c.loop-number.number c.index-equations-number.result c.loop-number-test.true all))

pub loop-number-preserved : goal.loop-number-preserved
loop-number-preserved c =
    let pushed = c.in_ok-push-in-Some.ensures.ok in
    let v = subst (λ o. MatchOption o (GivesOperand c.args.tokens.now c.index-equations-number.result → ⊥) (IsValueOf c.args.tokens.now c.index-equations-number.result)) c.in-Some.is c.in_ok-given_value.ensures in
    record {
      size = ap length pushed ∙ length-append c.loop-number.values (c.in-Some.value ∷ []) ∙ ap (λ n. n + 1) c.loop-number.invariant.size;
      each = values_more c.args.tokens.now c.args.equations.now c.loop-number.values c.push.new.self c.loop-number.number c.index-equations-number.result c.in-Some.value c.loop-number.invariant.size c.loop-number.invariant.each
          pushed (slice_get_read _ _ _ _ refl c.loop-number-test.true c.index-equations-number.is) v;
    }
