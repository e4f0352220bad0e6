use Rattle.std.proofs.Common.{◌≡◌, ◌+◌, ◌-◌, ◌≤◌, length, drop}
use Rattle.arm_actions.specs.Actions.{run_len, is_no_close}
use Rattle.arm_actions.proofs.action.name_len.Given as goal

abbrev pub decreases-loop-len : goal.decreases-loop-len
decreases-loop-len l = length l.text - l.len

abbrev pub invariant-loop-len : goal.invariant-loop-len
invariant-loop-len l = (l.len + run_len is_no_close (drop l.len l.text) ≡ run_len is_no_close l.text) × (l.len ≤ length l.text)
