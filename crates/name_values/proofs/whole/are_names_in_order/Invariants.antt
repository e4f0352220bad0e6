use Rattle.std.proofs.Common.{◌≡◌, drop}
use Rattle.name_values.specs.Arguments.{are_names_from}
use Rattle.name_values.proofs.whole.are_names_in_order.Given as goal

abbrev pub invariant-loop-k : goal.invariant-loop-k
invariant-loop-k l = are_names_from 0 l.arguments ≡ are_names_from l.k (drop l.k l.arguments)
