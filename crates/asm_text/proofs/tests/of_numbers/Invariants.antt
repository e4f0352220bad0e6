use Rattle.std.proofs.Common.{All}
use Rattle.asm_text.specs.Writable.{HasNoPlace}
use Rattle.asm_text.proofs.tests.of_numbers.Given as goal

-- those so far are numbers
abbrev pub invariant-loop-value : goal.invariant-loop-value
invariant-loop-value l = All HasNoPlace l.operands
