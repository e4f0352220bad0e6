use Rattle.std.proofs.Common.{arith, refl}
use Rattle.bit_cases.proofs.Bytes.{all_zeros}
use Rattle.bit_cases.proofs.byte_case.moved.Goals as goal

pub loop-k-init : goal.loop-k-init
loop-k-init c = record { all_len = refl; before = λ j h. all_zeros j; there = λ j h. absurd (omega arith); behind = λ j h. all_zeros j }
