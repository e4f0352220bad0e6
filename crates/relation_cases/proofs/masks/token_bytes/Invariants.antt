use Rattle.std.proofs.Common.{◌≡◌, ℕ, ◌<◌, length, get_or}
use Rattle.relation_cases.specs.Cases.{byte_at}
use Rattle.relation_cases.proofs.masks.token_bytes.Given as goal

abbrev pub invariant-loop-k : goal.invariant-loop-k
invariant-loop-k l = record {
  len : length l.bytes ≡ 4;
  there : (k : ℕ) → k < l.k → get_or l.bytes k 0 ≡ byte_at l.class.order l.count l.number k;
}
