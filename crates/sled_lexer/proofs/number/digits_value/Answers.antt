use Rattle.std.proofs.Common.{arith}
use Rattle.sled_lexer.proofs.Values.{too_big}
use Rattle.sled_lexer.proofs.number.digits_value.Goals as goal

pub returns-then-value-from : goal.returns-then-value-from
returns-then-value-from c =
    too_big c.args.base c.loop-d.value c.loop-d.d-index _ c.args.digits.now c.requires.low (omega arith) c.loop-d.invariant.so_far (omega (arith, c.digit.ensures.value, c.if-value-from.true))
