use Rattle.std.proofs.Common.{◌≡◌, map, take}
use Rattle.arm_matching.specs.Matcher.{bits_of}
use Rattle.arm_matching.proofs.cases.bits_of.Given as goal

abbrev pub invariant-loop-case : goal.invariant-loop-case
invariant-loop-case l = l.bits.items ≡ map bits_of (take l.case-index l.cases)
