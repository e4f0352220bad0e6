use Rattle.std.proofs.Common.{◌+◌, [], map, take, sum_by}
use Rattle.sled_model.specs.Results.{results, choices_from, known_from}
use Rattle.pattern_normal.specs.Surroundings.{around, context_of}
use Rattle.pattern_normal.specs.Barren.{HasNoResults, AllHaveNone}
use Rattle.pattern_normal.proofs.Nodes.{nodes, body_nodes}
use Rattle.pattern_normal.proofs.barren.+barren.Given as goal

abbrev pub decreases-is_barren : goal.decreases-is_barren
decreases-is_barren l = body_nodes l.near.now.constructors.now + nodes l.pattern.now

abbrev pub decreases-any_barren : goal.decreases-any_barren
decreases-any_barren l = body_nodes l.near.now.constructors.now + 1 + sum_by nodes l.parts.now

abbrev pub decreases-all_barren : goal.decreases-all_barren
decreases-all_barren l = body_nodes l.near.now.constructors.now + 1 + sum_by nodes l.parts.now

abbrev pub decreases-is_barren_operand : goal.decreases-is_barren_operand
decreases-is_barren_operand l = body_nodes l.near.now.constructors.now + 4

abbrev pub decreases-is_barren_kind : goal.decreases-is_barren_kind
decreases-is_barren_kind l = body_nodes l.near.now.constructors.now + 3

abbrev pub decreases-is_barren_type : goal.decreases-is_barren_type
decreases-is_barren_type l = body_nodes l.near.now.constructors.now + 2

abbrev pub decreases-is_barren_number : goal.decreases-is_barren_number
decreases-is_barren_number l = body_nodes l.near.now.constructors.now + 4

abbrev pub decreases-is_barren_body : goal.decreases-is_barren_body
decreases-is_barren_body l = body_nodes l.before.now + 1 + nodes l.constructor.now.body

abbrev pub invariant-all_barren-loop-part : goal.invariant-all_barren-loop-part
invariant-all_barren-loop-part l = AllHaveNone (map (results (context_of (around l.near))) (take l.part-index l.parts))

abbrev pub invariant-is_barren_type-loop-k : goal.invariant-is_barren_type-loop-k
invariant-is_barren_type-loop-k l = HasNoResults (choices_from 0 (known_from l.near.tokens.now [] (take l.k l.near.constructors.now)) l.made)
