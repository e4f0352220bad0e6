use Rattle.std.proofs.Common.{◌≡◌, ◌+◌, [], map, sum, sum_by, take}
use Rattle.sled_model.specs.Measures.{capped, product, weight, weighed, each_from, type_weight}
use Rattle.pattern_normal.specs.Operands.{operand_weights}
use Rattle.pattern_normal.proofs.Nodes.{nodes, body_nodes}
use Rattle.pattern_normal.proofs.weights.+weight.Given as goal

abbrev pub decreases-weight_at : goal.decreases-weight_at
decreases-weight_at l = body_nodes l.before.now + nodes l.pattern.now

abbrev pub decreases-weight_product : goal.decreases-weight_product
decreases-weight_product l = body_nodes l.before.now + 1 + sum_by nodes l.parts.now

abbrev pub decreases-weight_sum : goal.decreases-weight_sum
decreases-weight_sum l = body_nodes l.before.now + 1 + sum_by nodes l.parts.now

abbrev pub decreases-operand_weight : goal.decreases-operand_weight
decreases-operand_weight l = body_nodes l.before.now + 4

abbrev pub decreases-kind_weight : goal.decreases-kind_weight
decreases-kind_weight l = body_nodes l.before.now + 3

abbrev pub decreases-type_weight : goal.decreases-type_weight
decreases-type_weight l = body_nodes l.before.now + 2

abbrev pub decreases-constructor_weight : goal.decreases-constructor_weight
decreases-constructor_weight l = body_nodes l.before.now + 1 + nodes l.constructor.now.body

abbrev pub invariant-weight_product-loop-part : goal.invariant-weight_product-loop-part
invariant-weight_product-loop-part l = l.all ≡ capped (product (map (weight l.tokens [] (operand_weights l.tokens l.given l.before l.kinds)) (take l.part-index l.parts)))

abbrev pub invariant-weight_sum-loop-part : goal.invariant-weight_sum-loop-part
invariant-weight_sum-loop-part l = l.all ≡ capped (sum (map (weight l.tokens [] (operand_weights l.tokens l.given l.before l.kinds)) (take l.part-index l.parts)))

abbrev pub invariant-type_weight-loop-k : goal.invariant-type_weight-loop-k
invariant-type_weight-loop-k l = l.all ≡ capped (type_weight (each_from (weighed l.tokens) [] (take l.k l.before)) l.made)
