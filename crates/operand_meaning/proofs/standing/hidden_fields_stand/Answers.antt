use Rattle.std.proofs.Common.{ℕ, List, Bool, ap, ◌∙◌}
use Rattle.std.specs.List.{list_all}
use Rattle.tree_meaning.specs.Names.{is_among}
use Rattle.tree_meaning.specs.NameTables.{table_names}
use Rattle.tree_meaning.specs.Scopes.{declared_in}
use Rattle.operand_meaning.specs.Operands.{operand_names}
use Rattle.operand_meaning.specs.Standing as of
use Rattle.operand_meaning.proofs.ListFacts.{all_behind}
use Rattle.operand_meaning.proofs.standing.hidden_fields_stand.Goals as goal

pub returns : goal.returns
returns c =
    let d = declared_in c.args.scope.now in let bound = table_names c.args.bound.now in
    c.all_hidden_stand.ensures
    ∙ all_behind (of.hidden_stands d (is_among (table_names c.in_ok-names.names)) (is_among (table_names c.in_ok-named.named))) (λ x. x.now) c.as_slice.result.now bound c.as_slice.ensures
    ∙ ap (λ (t : List ℕ → Bool). list_all (of.hidden_stands d t (is_among (table_names c.in_ok-named.named))) bound) c.in_ok-names.ensures
    ∙ ap (λ (t : List ℕ → Bool). list_all (of.hidden_stands d (is_among (operand_names c.args.operands.now)) t) bound) c.in_ok-named.ensures
