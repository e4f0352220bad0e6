use Rattle.std.proofs.Common.{◌≡◌, sum_by, take}
use Rattle.sled_model.specs.Measures.{capped, number_size}
use Rattle.type_tables.proofs.measures.number_sizes.Given as goal

abbrev pub invariant-loop-kind : goal.invariant-loop-kind
invariant-loop-kind l = l.all ≡ capped (sum_by number_size (take l.kind-index l.kinds))
