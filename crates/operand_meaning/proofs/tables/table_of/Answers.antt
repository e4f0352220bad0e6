use Rattle.std.proofs.Common.{◌≡◌, ℕ, List, [], ◌∷◌, ◌++◌, cond, map, take, get_or, Bor, sym, ap, ◌∙◌}
use Rattle.std.specs.Prelude.{not}
use Rattle.std.proofs.lemmas.List.{take_all}
use Rattle.tree_meaning.specs.Names.{is_among, merged}
use Rattle.tree_meaning.proofs.Merging.{merged_taken}
use Rattle.operand_meaning.proofs.ListFacts.{same_among, with_added}
use Rattle.operand_meaning.proofs.tables.table_of.Goals as goal

pub loop-name-preserved : goal.loop-name-preserved
loop-name-preserved c =
    let xs = c.args.names.now in let i = c.loop-name.name-index in let d : Bor (List ℕ) = record { ref_ptr = (0, 0); now = [] } in
    let name : List ℕ = (get_or xs i d).now in
    let before = merged [] (map (λ x. x.now) (take i xs)) in
    let known : c.in_ok-add.field-0 ≡ not (is_among before name) = c.in_ok-add.ensures.new ∙ ap (λ names. not (is_among names name)) c.loop-name.invariant in
    c.in_ok-add.ensures.names ∙ ap (λ names. cond c.in_ok-add.field-0 (names ++ name ∷ []) names) c.loop-name.invariant
    ∙ with_added before name c.in_ok-add.field-0 known ∙ sym (merged_taken (λ x. x.now) xs i d c.loop-name-test.true [])

pub returns : goal.returns
returns c =
    let xs = c.args.names.now in
    same_among _ (map (λ x. x.now) xs) (c.loop-name.invariant ∙ ap (λ ys. merged [] (map (λ x. x.now) ys)) (take_all c.loop-name.name-index xs c.loop-name-test.false))
