use Rattle.std.proofs.Common.{◌≡◌, ◌+◌, ◌<◌, ◌≤◌, ℕ, length, get_or}
use Rattle.bit_cases.proofs.byte_case.moved.Given as goal

abbrev pub invariant-loop-k : goal.invariant-loop-k
invariant-loop-k l = record {
  all_len : length l.all ≡ 32;
  before : (j : ℕ) → j < l.offset → get_or l.all j 0 ≡ 0;
  there : (j : ℕ) → j < l.k → get_or l.all (l.offset + j) 0 ≡ get_or l.bytes j 0;
  behind : (j : ℕ) → l.offset + l.k ≤ j → get_or l.all j 0 ≡ 0;
}
