use Rattle.std.proofs.Common.{List, [], ◌∷◌, ◌++◌, ℕ, take, sym, ap, ◌∙◌, Bor}
use Rattle.tree_meaning.specs.NameTables.{table_names}
use Rattle.statement_building.proofs.ArmLemmas.{names_more}
use Rattle.statement_building.proofs.arm.name_list.Goals as goal

pub loop-name-preserved : goal.loop-name-preserved
loop-name-preserved c =
    let names : List (List ℕ) = table_names c.args.names.now in
    let i = c.loop-name.name-index in
    let none : Bor (List ℕ) = record { ref_ptr = (0, 0); now = [] } in
    c.in_ok-push.ensures.ok
    ∙ ap (λ (ns : List (List ℕ)). ns ++ c.in_ok-from_slice.field-0 ∷ []) c.loop-name.invariant
    ∙ ap (λ (n : List ℕ). take i names ++ n ∷ []) c.in_ok-from_slice.ensures
    ∙ sym (names_more (λ (x : Bor (List ℕ)). x.now) c.as_slice-name-items.result.now names i none c.as_slice-name-items.ensures c.loop-name-test.true)
