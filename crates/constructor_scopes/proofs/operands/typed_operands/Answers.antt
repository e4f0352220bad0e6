use Rattle.std.proofs.Common.{◌∙◌, ◌++◌, ap, sym}
use Rattle.tree_meaning.specs.Scopes.{declared_in}
use Rattle.constructor_scopes.specs.Bodies.{if_typed, operand_type}
use Rattle.constructor_scopes.proofs.TypedLemmas.{typed_more}
use Rattle.constructor_scopes.proofs.operands.typed_operands.Goals as goal

pub loop-number-preserved : goal.loop-number-preserved
loop-number-preserved c =
    let i = c.loop-number.number in let o = c.index-operands-number.result in let d = declared_in c.args.scope.now in
    c.in_ok-push_typed.ensures ∙ ap (λ ns. ns ++ if_typed o i (operand_type d o)) c.loop-number.invariant
    ∙ sym (typed_more d c.args.operands.now i o c.loop-number-test.true c.index-operands-number.is)
