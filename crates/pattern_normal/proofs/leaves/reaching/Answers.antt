use Rattle.std.proofs.Common.{◌∷◌, ◌++◌, [], ap, ◌∙◌, false}
use Rattle.pattern_normal.specs.declared.alternative.Alternative.{Alternative}
use Rattle.pattern_normal.specs.Alternatives.{shown}
use Rattle.pattern_normal.proofs.Reaching.{shown-reaching}
use Rattle.pattern_normal.proofs.leaves.reaching.Goals as goal

pub returns-clause-shown : goal.returns-clause-shown
returns-clause-shown c = λ fits tokens w.
    let made : Alternative = record { bits = c.any.result; loose = false; spots = c.args.spots } in
    ap (shown tokens w) (c.in_ok-push.ensures.ok ∙ ap (λ z. z ++ made ∷ []) c.new-alternatives.ensures)
    ∙ shown-reaching tokens w c.any.result c.args.spots c.args.end c.any.ensures.len (c.any.ensures.meets w)
