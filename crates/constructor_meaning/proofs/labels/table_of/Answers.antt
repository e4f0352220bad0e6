use Rattle.std.proofs.Common.{◌≡◌, ℕ, Bool, true, false, cond, List, [], ◌∷◌, ◌++◌, get_or, take, map, Bor, sym, ap, ◌∙◌}
use Rattle.std.specs.Prelude.{not}
use Rattle.tree_meaning.specs.Names.{is_among}
use Rattle.tree_meaning.specs.NameTables.{table_names}
use Rattle.tree_meaning.proofs.Merging.{taken}
use Rattle.constructor_scopes.proofs.TypedLemmas.{fresh_at}
use Rattle.constructor_meaning.proofs.labels.table_of.Goals as goal

pub loop-name-preserved : goal.loop-name-preserved
loop-name-preserved c =
    let xs = c.args.names.now in let i = c.loop-name.name-index in let d : Bor (List ℕ) = record { ref_ptr = (0, 0); now = [] } in
    let now = λ (x : Bor (List ℕ)). x.now in
    let name : List ℕ = (get_or xs i d).now in let before = table_names c.loop-name.table in
    let new : is_among before name ≡ false = ap (λ names. is_among names name) c.loop-name.invariant ∙ fresh_at now xs i d c.requires c.loop-name-test.true in
    let yes : c.in_ok-add.field-0 ≡ true = c.in_ok-add.ensures.new ∙ ap not new in
    let added : table_names c.add.new.self ≡ before ++ name ∷ [] = c.in_ok-add.ensures.names ∙ ap (λ t. cond t (before ++ name ∷ []) before) yes in
    added ∙ ap (λ names. names ++ name ∷ []) c.loop-name.invariant ∙ sym (taken now xs i d c.loop-name-test.true)
