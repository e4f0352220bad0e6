use Rattle.std.proofs.Common.{◌≡◌, map, take}
use Rattle.application_measures.specs.Tables.{len_in}
use Rattle.application_measures.proofs.types.operand_lens.Given as goal

abbrev pub invariant-loop-kind : goal.invariant-loop-kind
invariant-loop-kind l = l.found ≡ map (len_in l.lens) (take l.kind-index l.kinds)
