use Rattle.std.proofs.Common.{ℕ, ◌<◌}
use Rattle.bit_cases.specs.Bits.{AgreesAt}
use Rattle.bit_cases.proofs.byte_case.ByteCase.meets.Given as goal

abbrev pub invariant-loop-k : goal.invariant-loop-k
invariant-loop-k l = (j : ℕ) → j < l.k → AgreesAt l.self.mask l.self.value l.window j
