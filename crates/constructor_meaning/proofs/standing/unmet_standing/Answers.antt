use Rattle.std.proofs.Common.{◌≡◌, ◌∙◌, ◌∷◌, [], ℕ, List, subst, sym, ap}
use Rattle.std.specs.Prelude.{Bool}
use Rattle.tree_meaning.specs.Bindings.{bound}
use Rattle.tree_meaning.specs.NameTables.{table_names}
use Rattle.tree_meaning.specs.Parts.{labels}
use Rattle.tree_meaning.specs.Scopes.{declared_in}
use Rattle.operand_meaning.specs.Standing.{names_stand}
use Rattle.operand_meaning.specs.Limits.{are_within_limits}
use Rattle.constructor_meaning.specs.Conditions.{body_scope}
use Rattle.constructor_meaning.specs.Constructing.{constructing}
use Rattle.constructor_meaning.specs.Unmet.{first_unmet}
use Rattle.constructor_meaning.proofs.standing.unmet_standing.Goals as goal

pub returns : goal.returns
returns c =
    let d = declared_in c.args.scope.now in let t = constructing c.args.tree.now in
    let os = c.as_slice-operands.result.now in let es = c.as_slice-equations.result.now in
    let names = table_names c.args.reading.now.body.bindings.names in let ls = table_names c.args.reading.now.labels in
    let stand : c.in_ok-stand.stand ≡ names_stand d (bound (body_scope d t) t.body) (labels t.body) t.operands t.equations =
    c.in_ok-stand.ensures ∙ ap (λ ns. names_stand d ns ls os es) c.requires.reading.body.bindings.names
    ∙ ap (λ ms. names_stand d (bound (body_scope d t) t.body) ms os es) c.requires.reading.labels
    ∙ ap (λ xs. names_stand d (bound (body_scope d t) t.body) (labels t.body) xs es) c.as_slice-operands.ensures
    ∙ ap (names_stand d (bound (body_scope d t) t.body) (labels t.body) t.operands) c.as_slice-equations.ensures in
    let within : c.in_ok-within.within ≡ are_within_limits d t.operands t.equations =
    c.in_ok-within.ensures ∙ ap (λ xs. are_within_limits d xs es) c.as_slice-operands.ensures ∙ ap (are_within_limits d t.operands) c.as_slice-equations.ensures in
    c.first_unmet_standing.ensures
    ∙ ap (λ b. first_unmet ((10, b) ∷ (11, c.in_ok-within.within) ∷ [])) stand
    ∙ ap (λ b. first_unmet ((10, names_stand d (bound (body_scope d t) t.body) (labels t.body) t.operands t.equations) ∷ (11, b) ∷ [])) within
