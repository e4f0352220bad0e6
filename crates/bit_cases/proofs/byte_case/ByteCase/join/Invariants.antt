use Rattle.std.proofs.Common.{ℕ, ◌≡◌, ◌<◌, ◌≤◌, get_or, length, bit_or}
use Rattle.bit_cases.specs.Bits.{SameUnderBoth}
use Rattle.bit_cases.proofs.byte_case.ByteCase.join.Given as goal

abbrev pub invariant-loop-k : goal.invariant-loop-k
invariant-loop-k l = record {
  mask_len : length l.mask ≡ 32;
  value_len : length l.value ≡ 32;
  same : (j : ℕ) → j < l.k → SameUnderBoth l.self.mask l.self.value l.other.mask l.other.value j;
  mask : (j : ℕ) → j < l.k → get_or l.mask j 0 ≡ bit_or (get_or l.self.mask j 0) (get_or l.other.mask j 0);
  value : (j : ℕ) → j < l.k → get_or l.value j 0 ≡ bit_or (get_or l.self.value j 0) (get_or l.other.value j 0);
  mask_rest : (j : ℕ) → l.k ≤ j → get_or l.mask j 0 ≡ get_or l.self.mask j 0;
  value_rest : (j : ℕ) → l.k ≤ j → get_or l.value j 0 ≡ get_or l.self.value j 0;
}
