use Rattle.std.proofs.Common.{◌++◌, map, take, sym, ap, ◌∙◌}
use Rattle.std.specs.List.{filter_map}
use Rattle.std.specs.Option.{option_copied, option_to_list}
use Rattle.operand_meaning.specs.Terms as of
use Rattle.operand_meaning.proofs.ListFacts.{picked_behind}
use Rattle.operand_meaning.proofs.terms.sliced_names_of.Goals as goal

pub loop-term-preserved : goal.loop-term-preserved
loop-term-preserved c =
    let ts = c.args.terms.now in let i = c.loop-term.term-index in
    c.in_ok-push_name.ensures ∙ ap (λ names. names ++ option_to_list (option_copied c.sliced_name.result)) c.loop-term.invariant
    ∙ ap (λ o. filter_map of.sliced_name (map (λ x. x.now) (take i ts)) ++ option_to_list o) c.sliced_name.ensures
    ∙ sym (picked_behind of.sliced_name (λ x. x.now) ts i c.term-item.result c.loop-term-test.true c.term-item.is)
