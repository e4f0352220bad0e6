use Rattle.std.proofs.Common.{◌≡◌, ◌++◌, replicate}
use Rattle.arm_matching.proofs.cases.push_times.Given as goal

abbrev pub invariant-loop-time : goal.invariant-loop-time
invariant-loop-time l = l.numbers ≡ l.fn.numbers ++ replicate l._time l.number
