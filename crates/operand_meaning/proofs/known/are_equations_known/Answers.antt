use Rattle.std.proofs.Common.{ℕ, List, Bool, map, ap, ◌∙◌}
use Rattle.std.specs.List.{list_all}
use Rattle.tree_meaning.specs.Names.{is_among}
use Rattle.tree_meaning.specs.NameTables.{table_names}
use Rattle.tree_meaning.specs.Scopes.{declared_in}
use Rattle.operand_meaning.specs.Operands as of
use Rattle.operand_meaning.specs.Terms.{terms_in}
use Rattle.operand_meaning.proofs.ListFacts.{all_behind}
use Rattle.operand_meaning.proofs.known.are_equations_known.Goals as goal

pub returns : goal.returns
returns c =
    let d = declared_in c.args.scope.now in let labels = is_among (table_names c.args.labels.now) in
    let terms = ap (map (λ x. x.now)) c.as_slice.ensures.value ∙ c.in_ok-terms.ensures in
    c.are_known.ensures
    ∙ all_behind (of.is_known_term d (is_among (table_names c.in_ok-names.names)) labels) (λ x. x.now) c.as_slice.result.now (terms_in c.args.equations.now) terms
    ∙ ap (λ (t : List ℕ → Bool). list_all (of.is_known_term d t labels) (terms_in c.args.equations.now)) c.in_ok-names.ensures
