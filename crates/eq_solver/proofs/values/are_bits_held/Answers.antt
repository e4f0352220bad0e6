use Rattle.std.proofs.Common.{below_more, sym, ◌∙◌, arith, ◌<◌}
use Rattle.eq_solver.proofs.values.are_bits_held.Goals as goal

pub returns-then-count_bits-ne1 : goal.returns-then-count_bits-ne1
returns-then-count_bits-ne1 c = λ h. c.if-count_bits-ne1.true (c.count_bits.ensures ∙ h c.loop-bit.bit c.loop-bit-test.true)

pub loop-bit-preserved : goal.loop-bit-preserved
loop-bit-preserved c = below_more _ _ c.loop-bit.invariant (sym c.count_bits.ensures ∙ c.if-count_bits-ne1.false)

pub returns : goal.returns
returns c = λ bit b. let l : bit < c.loop-bit.bit = omega arith in c.loop-bit.invariant bit l
