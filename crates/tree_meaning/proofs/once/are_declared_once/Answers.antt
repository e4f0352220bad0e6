use Rattle.std.proofs.Common.{◌≡◌, true, false, map, sym, ap, ◌∙◌}
use Rattle.std.specs.Prelude.{◌&&◌}
use Rattle.tree_meaning.specs.Names.{are_new, are_distinct}
use Rattle.tree_meaning.specs.NameTables.{table_names}
use Rattle.tree_meaning.proofs.NamesLemmas.{new_of_map}
use Rattle.tree_meaning.proofs.once.are_declared_once.Goals as goal

pub returns-then-not-are_undeclared : goal.returns-then-not-are_undeclared
returns-then-not-are_undeclared c =
    let names = map (λ x. x.now) c.args.names.now in
    let known : are_new (table_names c.args.declared.now) names ≡ false =
    new_of_map (table_names c.args.declared.now) (λ x. x.now) c.args.names.now ∙ sym c.are_undeclared.ensures ∙ c.if-not-are_undeclared.true in
    sym (ap (λ t. t && are_distinct names) known)

pub returns : goal.returns
returns c =
    let names = map (λ x. x.now) c.args.names.now in
    let new : are_new (table_names c.args.declared.now) names ≡ true =
    new_of_map (table_names c.args.declared.now) (λ x. x.now) c.args.names.now ∙ sym c.are_undeclared.ensures ∙ c.if-not-are_undeclared.false in
    rw new c.are_distinct.ensures
