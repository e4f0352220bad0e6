use Rattle.std.proofs.Common.{◌≡◌, ◌+◌, ◌≤◌, ◌++◌, ℕ, List, take, length}
use Rattle.token_bits.specs.declared.tokens.Tokens.{Tokens}
use Rattle.pattern_normal.specs.Alternatives.{shown, both_row, IsBetween, AreBetween}
use Rattle.pattern_normal.proofs.alternative.push_met.Given as goal

abbrev pub invariant-loop-other : goal.invariant-loop-other
invariant-loop-other l = record {
  shown : (tokens : Tokens) (w : List ℕ) → shown tokens w l.pairs ≡ shown tokens w l.initial.pairs ++ both_row tokens w l.first (take l.other-index l.others);
  ends : (least most : ℕ) → IsBetween least most l.first → AreBetween least most l.others → AreBetween least most l.initial.pairs → AreBetween least most l.pairs;
  count : length l.pairs ≤ length l.initial.pairs + l.other-index;
}
