use Rattle.std.proofs.Common.{◌≡◌, ◌∷◌, map, take}
use Rattle.std.specs.List.{list_all}
use Rattle.sled_model.specs.declared.pattern.Pattern.{Pattern}
use Rattle.sled_model.specs.Shapes.{shapes, are_closed}
use Rattle.pattern_shapes.specs.Forms.{operand_context, IsFormOfBoth, IsFormOfAny, IsFormOfChain}
use Rattle.pattern_shapes.proofs.pattern_form.+form.Given as goal

abbrev pub invariant-both_form-loop-part : goal.invariant-both_form-loop-part
invariant-both_form-loop-part l = (first : Pattern) × (l.parts ≡ first ∷ l.rest) × IsFormOfBoth (operand_context l.tokens l.operands) (first ∷ take l.part-index l.rest) l.form

abbrev pub invariant-either_form-loop-part : goal.invariant-either_form-loop-part
invariant-either_form-loop-part l = IsFormOfAny (operand_context l.tokens l.operands) (take l.part-index l.parts) l.form

abbrev pub invariant-chain_form-loop-part : goal.invariant-chain_form-loop-part
invariant-chain_form-loop-part l = (first : Pattern) × (l.parts ≡ first ∷ l.rest) × IsFormOfChain (operand_context l.tokens l.operands) (first ∷ take l.part-index l.rest) l.form
    × (l.before ≡ list_all are_closed (map (shapes (operand_context l.tokens l.operands)) (first ∷ take l.part-index l.rest)))
