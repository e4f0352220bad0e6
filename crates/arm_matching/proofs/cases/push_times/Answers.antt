use Rattle.std.proofs.Common.{ℕ, List, [], ◌∷◌, ◌++◌, replicate, ap, ◌∙◌}
use Rattle.std.proofs.lemmas.List.{append_assoc, replicate-append-replicate}
use Rattle.arm_matching.proofs.cases.push_times.Goals as goal

pub loop-time-preserved : goal.loop-time-preserved
loop-time-preserved c =
    let old = c.args.numbers.now in let n = c.args.number in let t = c.loop-time._time in
    c.in_ok-push.ensures.ok ∙ ap (λ (xs : List ℕ). xs ++ n ∷ []) c.loop-time.invariant ∙ append_assoc old (replicate t n) (n ∷ []) ∙ ap (λ (r : List ℕ). old ++ r) (replicate-append-replicate t 1 n)
