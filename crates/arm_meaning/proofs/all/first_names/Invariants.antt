use Rattle.std.proofs.Common.{◌≡◌}
use Rattle.arm_meaning.specs.All.{first_names}
use Rattle.arm_meaning.proofs.all.first_names.Given as goal

abbrev pub invariant-loop-number : goal.invariant-loop-number
invariant-loop-number l = l.names ≡ first_names l.number
