use Rattle.std.proofs.Common.{◌≡◌, ◌∙◌, ◌++◌, List, ℕ, Bor, true, false, ap, map, sym}
use Rattle.std.specs.Prelude.{◌&&◌}
use Rattle.tree_meaning.specs.Names.{are_new, are_distinct}
use Rattle.tree_meaning.specs.NameTables.{table_names}
use Rattle.tree_meaning.specs.Parts.{labels}
use Rattle.tree_meaning.proofs.NamesLemmas.{new_of_map}
use Rattle.operand_meaning.specs.Operands.{operand_names, explicit_names}
use Rattle.constructor_scopes.proofs.names.have_local_names.Goals as goal

pub returns-then-not-branch : goal.returns-then-not-branch
returns-then-not-branch c =
    let now = λ (x : Bor (List ℕ)). x.now in
    let all = operand_names c.args.operands.now ++ labels c.args.body.now in
    let fresh = explicit_names c.args.operands.now ++ labels c.args.body.now in
    let are : map now c.as_slice.result.now ≡ all = ap (map now) c.as_slice.ensures.value ∙ c.in_ok-names.ensures in
    let same : are_distinct all ≡ false = ap are_distinct (sym are) ∙ sym c.in_ok-differ.ensures ∙ c.if-not-branch.true in
    sym (ap (λ t. t && are_new (table_names c.args.scope.now.names) fresh) same)

pub returns : goal.returns
returns c =
    let now = λ (x : Bor (List ℕ)). x.now in
    let declared = table_names c.args.scope.now.names in
    let all = operand_names c.args.operands.now ++ labels c.args.body.now in
    let fresh = explicit_names c.args.operands.now ++ labels c.args.body.now in
    let are : map now c.as_slice.result.now ≡ all = ap (map now) c.as_slice.ensures.value ∙ c.in_ok-names.ensures in
    let are_fresh : map now c.as_slice-2.result.now ≡ fresh = ap (map now) c.as_slice-2.ensures.value ∙ c.in_ok-fresh.ensures in
    let same : are_distinct all ≡ true = ap are_distinct (sym are) ∙ sym c.in_ok-differ.ensures ∙ c.if-not-branch.false in
    let new : c.are_undeclared.result ≡ are_new declared fresh = c.are_undeclared.ensures ∙ sym (new_of_map declared now c.as_slice-2.result.now) ∙ ap (are_new declared) are_fresh in
    new ∙ sym (ap (λ t. t && are_new declared fresh) same)
