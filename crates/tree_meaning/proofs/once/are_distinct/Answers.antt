use Rattle.std.proofs.Common.{◌≡◌, ℕ, Bool, true, false, cond, List, [], ◌∷◌, ◌++◌, get_or, Bor, sym, ap, ◌∙◌}
use Rattle.std.specs.Prelude.{not}
use Rattle.tree_meaning.specs.Names.{is_among, are_distinct}
use Rattle.tree_meaning.specs.NameTables.{table_names}
use Rattle.tree_meaning.proofs.NamesLemmas.{distinct_push}
use Rattle.tree_meaning.proofs.Merging.{taken, distinct_not}
use Rattle.tree_meaning.proofs.once.are_distinct.Goals as goal

not_false : (t : Bool) → false ≡ not t → t ≡ true
not_false true h = cc
not_false false h = cc

not_true : (t : Bool) → true ≡ not t → t ≡ false
not_true true h = cc
not_true false h = cc

pub returns-then-not-new : goal.returns-then-not-new
returns-then-not-new c =
    let xs = c.args.names.now in let i = c.loop-name.name-index in let d : Bor (List ℕ) = record { ref_ptr = (0, 0); now = [] } in
    let name : List ℕ = (get_or xs i d).now in
    let there : is_among (table_names c.loop-name.table) name ≡ true = not_false _ (sym c.if-not-new.true ∙ c.in_ok-new.ensures.new) in
    sym (distinct_not (λ x. x.now) xs i d c.loop-name-test.true (ap (λ names. is_among names name) (sym c.loop-name.invariant.names) ∙ there))

pub loop-name-preserved : goal.loop-name-preserved
loop-name-preserved c =
    let xs = c.args.names.now in let i = c.loop-name.name-index in let d : Bor (List ℕ) = record { ref_ptr = (0, 0); now = [] } in
    let name : List ℕ = (get_or xs i d).now in let before = table_names c.loop-name.table in
    let new : is_among before name ≡ false = not_true _ (sym c.if-not-new.false ∙ c.in_ok-new.ensures.new) in
    let added : table_names c.add.new.self ≡ before ++ name ∷ [] = c.in_ok-new.ensures.names ∙ ap (λ t. cond t (before ++ name ∷ []) before) c.if-not-new.false in
    record {
      names = added ∙ ap (λ names. names ++ name ∷ []) c.loop-name.invariant.names ∙ sym (taken (λ x. x.now) xs i d c.loop-name-test.true);
      distinct = ap are_distinct added ∙ distinct_push before name c.loop-name.invariant.distinct new;
    }
