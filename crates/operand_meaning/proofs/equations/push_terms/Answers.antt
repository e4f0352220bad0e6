use Rattle.std.proofs.Common.{◌++◌, take, sym, ap, ◌∙◌}
use Rattle.std.specs.List.{filter_map}
use Rattle.std.specs.Option.{option_to_list}
use Rattle.std.proofs.lemmas.List.{append_assoc}
use Rattle.tree_meaning.specs.NameTables.{table_names}
use Rattle.tree_meaning.specs.Scopes.{declared_in}
use Rattle.operand_meaning.specs.Equations as of
use Rattle.operand_meaning.proofs.ListFacts.{picked_more}
use Rattle.operand_meaning.proofs.equations.push_terms.Goals as goal

pub loop-tree-preserved : goal.loop-tree-preserved
loop-tree-preserved c =
    let term = of.term_of (declared_in c.args.scope.now) (table_names c.args.labels.now) c.args.operands.now c.args.turned in
    let ts = c.args.trees.now in let i = c.loop-tree.tree-index in let before = filter_map term (take i ts) in
    c.in_ok-push_term.ensures ∙ ap (λ z. z ++ option_to_list c.term_of.result) c.loop-tree.invariant
    ∙ append_assoc c.args.terms.now before (option_to_list c.term_of.result)
    ∙ ap (λ o. c.args.terms.now ++ (before ++ option_to_list o)) c.term_of.ensures
    ∙ ap (λ z. c.args.terms.now ++ z) (sym (picked_more term ts i c.tree-item.result c.loop-tree-test.true c.tree-item.is))
