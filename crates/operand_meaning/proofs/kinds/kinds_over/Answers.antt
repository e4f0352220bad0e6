use Rattle.std.proofs.Common.{◌≡◌, [], ◌∷◌, ◌++◌, take, Some, sym, ap, ◌∙◌}
use Rattle.std.specs.Prelude.{is_some}
use Rattle.std.specs.List.{filter_map}
use Rattle.std.specs.Option.{option_to_list}
use Rattle.tree_meaning.specs.Names.{is_among}
use Rattle.tree_meaning.specs.NameTables.{table_names}
use Rattle.tree_meaning.specs.Scopes.{declared_in}
use Rattle.operand_meaning.specs.Operands as of
use Rattle.operand_meaning.proofs.ListFacts.{picked_more, all_more}
use Rattle.operand_meaning.proofs.kinds.kinds_over.Goals as goal

pub loop-operand-preserved : goal.loop-operand-preserved
loop-operand-preserved c =
    let kind = of.kind_over (declared_in c.args.scope.now) (is_among (table_names c.args.sliced.now)) in
    let os = c.args.operands.now in let i = c.loop-operand.operand-index in let o = c.operand-item.result in
    let is : Some c.in-Some.kind ≡ kind o = c.in-Some.ensures in
    record {
      kinds = c.in_ok-push.ensures.ok ∙ ap (λ ks. ks ++ c.in-Some.kind ∷ []) c.loop-operand.invariant.kinds
          ∙ ap (λ k. filter_map kind (take i os) ++ option_to_list k) is ∙ sym (picked_more kind os i o c.loop-operand-test.true c.operand-item.is);
      known = all_more (λ p. is_some (kind p)) os i o c.loop-operand-test.true c.operand-item.is c.loop-operand.invariant.known (ap is_some (sym is));
    }
