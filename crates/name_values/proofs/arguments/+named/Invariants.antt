use Rattle.std.proofs.Common.{◌≡◌, drop}
use Rattle.name_values.specs.Arguments.{named_from}
use Rattle.name_values.proofs.arguments.+named.Given as goal

abbrev pub invariant-argument_value-loop-j : goal.invariant-argument_value-loop-j
invariant-argument_value-loop-j l = named_from l.k l.operands 0 l.arguments ≡ named_from l.k l.operands l.j (drop l.j l.arguments)
