use Rattle.std.proofs.Common.{◌<◌, [], ◌∷◌, ◌++◌, length, sym, ap, ◌∙◌, arith}
use Rattle.pattern_normal.specs.Skeletons.{read_spot}
use Rattle.instance_reading.specs.Entries.{values_read}
use Rattle.instance_reading.proofs.Spots.{values_more}
use Rattle.instance_reading.proofs.entry_values.read_values.Goals as goal

pub loop-spot-preserved : goal.loop-spot-preserved
loop-spot-preserved c =
    let tokens = c.args.tokens.now in let window = c.args.window.now in
    let xs = c.args.spots.now in let i = c.loop-spot.spot-index in let x = c.spot-item.result in
    let l : i < length xs = omega arith in
    c.in_ok-push_value.ensures ∙ ap (λ ys. ys ++ values_read (read_spot tokens window x ∷ [])) c.loop-spot.invariant ∙ sym (values_more tokens window xs i x l c.spot-item.is)
