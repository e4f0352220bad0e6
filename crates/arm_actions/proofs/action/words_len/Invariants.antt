use Rattle.std.proofs.Common.{◌≡◌, ◌+◌, ◌-◌, ◌≤◌, length, drop}
use Rattle.arm_actions.specs.Actions.{run_len, is_no_brace}
use Rattle.arm_actions.proofs.action.words_len.Given as goal

abbrev pub decreases-loop-len : goal.decreases-loop-len
decreases-loop-len l = length l.text - l.len

abbrev pub invariant-loop-len : goal.invariant-loop-len
invariant-loop-len l = (l.len + run_len is_no_brace (drop l.len l.text) ≡ run_len is_no_brace l.text) × (l.len ≤ length l.text)
