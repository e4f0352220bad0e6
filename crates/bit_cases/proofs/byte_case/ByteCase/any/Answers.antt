use Rattle.std.proofs.Common.{refl}
use Rattle.std.specs.Int.Bits.{and_zero_r}
use Rattle.bit_cases.proofs.Bytes.{zeros}
use Rattle.bit_cases.proofs.byte_case.ByteCase.any.Goals as goal

pub invariant_of-result : goal.invariant_of-result
invariant_of-result c = record { at_most_32 = c.requires; under_mask = λ k h. rw (zeros k h) refl; short = λ k h l. zeros k h }

pub returns-clause-meets : goal.returns-clause-meets
returns-clause-meets c = λ window. (λ m. m.0, λ l. (l, λ k h. rw (zeros k h) (and_zero_r _)))
