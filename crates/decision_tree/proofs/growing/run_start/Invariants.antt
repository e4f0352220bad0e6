use Rattle.std.proofs.Common.{◌≡◌, ℕ, ◌≤◌, ◌+◌}
use Rattle.std.specs.Int.{bit_at}
use Rattle.decision_tree.proofs.growing.run_start.Given as goal

abbrev pub invariant-loop-start : goal.invariant-loop-start
invariant-loop-start l = record { within : l.start ≤ l.highest; room : l.highest + 1 ≤ l.start + l.room; ones : (k : ℕ) → l.start ≤ k → k ≤ l.highest → bit_at l.free k ≡ 1 }

abbrev pub decreases-loop-start : goal.decreases-loop-start
decreases-loop-start l = l.start
