use Rattle.std.proofs.Common.{ℕ, List, Bool, map, ap, ◌∙◌}
use Rattle.std.specs.List.{list_all}
use Rattle.tree_meaning.specs.Names.{is_among}
use Rattle.tree_meaning.specs.NameTables.{table_names}
use Rattle.tree_meaning.specs.Scopes.{declared_in}
use Rattle.operand_meaning.specs.Standing as of
use Rattle.operand_meaning.specs.Terms.{terms_in}
use Rattle.operand_meaning.proofs.ListFacts.{all_behind}
use Rattle.operand_meaning.proofs.standing.terms_stand.Goals as goal

pub returns : goal.returns
returns c =
    let d = declared_in c.args.scope.now in let labels = is_among (table_names c.args.labels.now) in let bound = is_among (table_names c.args.bound.now) in
    let terms = ap (map (λ x. x.now)) c.as_slice.ensures.value ∙ c.in_ok-terms.ensures in
    c.all_terms_stand.ensures
    ∙ all_behind (of.term_stands d (is_among (table_names c.in_ok-lone.lone)) labels bound) (λ x. x.now) c.as_slice.result.now (terms_in c.args.equations.now) terms
    ∙ ap (λ (t : List ℕ → Bool). list_all (of.term_stands d t labels bound) (terms_in c.args.equations.now)) c.in_ok-lone.ensures
