use Rattle.std.proofs.Common.{◌≡◌, drop, false, arith}
use Rattle.std.proofs.lemmas.Grind.{common_steps}
use Rattle.sled_lexer.specs.Cut.{gap_len}
use Rattle.sled_lexer.proofs.Gaps.{gap_from_stops}
use Rattle.sled_lexer.proofs.gap_from.Goals as goal

pub returns-clause-stops : goal.returns-clause-stops
returns-clause-stops c =
    let value : c.gap.result ≡ gap_len false (drop c.args.at c.args.text.now) = grind (arith, common_steps) in
    gap_from_stops c.args.text.now c.args.at c.gap.result value
