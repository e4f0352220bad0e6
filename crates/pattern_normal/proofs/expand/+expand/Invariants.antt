use Rattle.std.proofs.Common.{◌+◌, ◌*◌, max, take, sum_by}
use Rattle.sled_model.specs.Results.{both, either, chain}
use Rattle.pattern_normal.specs.Surroundings.{around}
use Rattle.pattern_normal.specs.Alternatives.{AreFollowed}
use Rattle.pattern_normal.proofs.Nodes.{nodes, body_nodes}
use Rattle.pattern_normal.proofs.Standing.{StandsAfter}
use Rattle.pattern_normal.proofs.Choosing.{StandForType}
use Rattle.pattern_normal.proofs.expand.+expand.Given as goal

abbrev pub decreases-expand : goal.decreases-expand
decreases-expand l = body_nodes l.near.now.constructors.now + nodes l.pattern.now

abbrev pub decreases-expand_either : goal.decreases-expand_either
decreases-expand_either l = body_nodes l.near.now.constructors.now + 2 + sum_by nodes l.parts.now

abbrev pub decreases-expand_both : goal.decreases-expand_both
decreases-expand_both l = body_nodes l.near.now.constructors.now + 2 + sum_by nodes l.parts.now

abbrev pub decreases-expand_chain : goal.decreases-expand_chain
decreases-expand_chain l = body_nodes l.near.now.constructors.now + 2 + sum_by nodes l.parts.now

abbrev pub decreases-follow_all : goal.decreases-follow_all
decreases-follow_all l = body_nodes l.near.now.constructors.now + 1 + nodes l.part.now

abbrev pub decreases-expand_operand : goal.decreases-expand_operand
decreases-expand_operand l = body_nodes l.near.now.constructors.now + 4

abbrev pub decreases-expand_type : goal.decreases-expand_type
decreases-expand_type l = body_nodes l.near.now.constructors.now + 3

abbrev pub decreases-expand_application : goal.decreases-expand_application
decreases-expand_application l = body_nodes l.near.now.constructors.now + 4

abbrev pub decreases-expand_body : goal.decreases-expand_body
decreases-expand_body l = body_nodes l.before.now + 1 + nodes l.constructor.now.body

abbrev pub invariant-expand_either-loop-part : goal.invariant-expand_either-loop-part
invariant-expand_either-loop-part l = StandsAfter (around l.near) either (λ a b. a + b) max l.at l.parts l.rest l.part-index l.alternatives

abbrev pub invariant-expand_both-loop-part : goal.invariant-expand_both-loop-part
invariant-expand_both-loop-part l = StandsAfter (around l.near) both (λ a b. a * b) max l.at l.parts l.rest l.part-index l.alternatives

abbrev pub invariant-expand_chain-loop-part : goal.invariant-expand_chain-loop-part
invariant-expand_chain-loop-part l = StandsAfter (around l.near) chain (λ a b. a * b) (λ a b. a + b) l.at l.parts l.rest l.part-index l.alternatives

abbrev pub invariant-follow_all-loop-first : goal.invariant-follow_all-loop-first
invariant-follow_all-loop-first l = AreFollowed (around l.near) l.part (take l.first-index l.firsts) l.pairs

abbrev pub invariant-expand_type-loop-k : goal.invariant-expand_type-loop-k
invariant-expand_type-loop-k l = StandForType l.near.tokens.now l.near.constructors.now l.made l.at l.k l.alternatives
