use Rattle.std.proofs.Common.{◌++◌, take, sym, ap, ◌∙◌}
use Rattle.std.specs.List.{filter_map}
use Rattle.std.specs.Option.{option_copied, option_to_list}
use Rattle.operand_meaning.specs.Operands as of
use Rattle.operand_meaning.proofs.ListFacts.{picked_more}
use Rattle.operand_meaning.proofs.operands.lone_words.Goals as goal

pub loop-operand-preserved : goal.loop-operand-preserved
loop-operand-preserved c =
    let os = c.args.operands.now in let i = c.loop-operand.operand-index in
    c.in_ok-push_name.ensures ∙ ap (λ names. names ++ option_to_list (option_copied c.lone_word.result)) c.loop-operand.invariant
    ∙ ap (λ o. filter_map of.lone_word (take i os) ++ option_to_list o) c.lone_word.ensures
    ∙ sym (picked_more of.lone_word os i c.operand-item.result c.loop-operand-test.true c.operand-item.is)
