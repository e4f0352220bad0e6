use Rattle.std.proofs.Common.{◌≡◌, map, take}
use Rattle.type_tables.specs.Types.{size_in}
use Rattle.type_tables.proofs.types.operand_sizes.Given as goal

abbrev pub invariant-loop-kind : goal.invariant-loop-kind
invariant-loop-kind l = l.sizes ≡ map (size_in l.types) (take l.kind-index l.kinds)
