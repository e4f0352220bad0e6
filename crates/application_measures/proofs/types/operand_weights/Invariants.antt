use Rattle.std.proofs.Common.{◌≡◌, map, take}
use Rattle.type_tables.specs.Types.{weight_in}
use Rattle.application_measures.proofs.types.operand_weights.Given as goal

abbrev pub invariant-loop-kind : goal.invariant-loop-kind
invariant-loop-kind l = l.weights ≡ map (weight_in l.types) (take l.kind-index l.kinds)
