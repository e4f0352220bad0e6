use Rattle.std.proofs.Common.{◌≡◌, ◌+◌, [], map, sum, sum_by, take}
use Rattle.sled_model.specs.Measures.{capped, greatest, size, sized, each_from, type_size}
use Rattle.pattern_normal.specs.Operands.{operand_sizes}
use Rattle.pattern_normal.proofs.Nodes.{nodes, body_nodes}
use Rattle.pattern_normal.proofs.sizes.+size.Given as goal

abbrev pub decreases-size_at : goal.decreases-size_at
decreases-size_at l = body_nodes l.before.now + nodes l.pattern.now

abbrev pub decreases-size_sum : goal.decreases-size_sum
decreases-size_sum l = body_nodes l.before.now + 1 + sum_by nodes l.parts.now

abbrev pub decreases-greatest_size : goal.decreases-greatest_size
decreases-greatest_size l = body_nodes l.before.now + 1 + sum_by nodes l.parts.now

abbrev pub decreases-operand_size : goal.decreases-operand_size
decreases-operand_size l = body_nodes l.before.now + 4

abbrev pub decreases-kind_size : goal.decreases-kind_size
decreases-kind_size l = body_nodes l.before.now + 3

abbrev pub decreases-type_size : goal.decreases-type_size
decreases-type_size l = body_nodes l.before.now + 2

abbrev pub decreases-constructor_size : goal.decreases-constructor_size
decreases-constructor_size l = body_nodes l.before.now + 1 + nodes l.constructor.now.body

abbrev pub invariant-size_sum-loop-part : goal.invariant-size_sum-loop-part
invariant-size_sum-loop-part l = l.all ≡ capped (sum (map (size [] (operand_sizes l.given l.before l.kinds)) (take l.part-index l.parts)))

abbrev pub invariant-greatest_size-loop-part : goal.invariant-greatest_size-loop-part
invariant-greatest_size-loop-part l = l.all ≡ capped (greatest (map (size [] (operand_sizes l.given l.before l.kinds)) (take l.part-index l.parts)))

abbrev pub invariant-type_size-loop-k : goal.invariant-type_size-loop-k
invariant-type_size-loop-k l = l.all ≡ capped (type_size (each_from sized [] (take l.k l.before)) l.made)
