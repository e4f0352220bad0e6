use Rattle.std.proofs.Common.{◌≡◌, drop, [], length, ap, sym, ◌∙◌, arith}
use Rattle.std.proofs.lemmas.List.{drop_all}
use Rattle.sled_model.specs.Kinds.{are_of_kinds}
use Rattle.sled_model.proofs.KindLaws.{no_operand_left}
use Rattle.sled_model.proofs.+admits.Goals as goal

pub admits::are_of_kinds-returns : goal.admits::are_of_kinds-returns
admits::are_of_kinds-returns t c =
    let a = c.args in let left = c.loop-operand.left.now in
    let none : drop c.loop-operand.operand-index a.operands.now ≡ [] = drop_all c.loop-operand.operand-index a.operands.now (omega arith) in
    c.is_empty.ensures ∙ sym (c.loop-operand.invariant ∙ ap (are_of_kinds a.spec.now left) none ∙ no_operand_left a.spec.now left)
