use Rattle.std.proofs.Common.{◌≡◌, Bool, true, false, cond, List, ℕ, [], ◌∷◌, ◌++◌, map, take, get_or, Bor, refl, sym, ap, ◌∙◌}
use Rattle.std.specs.Prelude.{not, ◌&&◌}
use Rattle.tree_meaning.specs.Names.{is_among, are_distinct, merged, are_new}
use Rattle.tree_meaning.specs.NameTables.{table_names}
use Rattle.tree_meaning.proofs.Merging.{with_name, distinct_names, merged_taken, new_taken}
use Rattle.tree_meaning.proofs.names.NameTable.merge.Goals.{then-all_new, else-all_new}
use Rattle.tree_meaning.proofs.names.NameTable.merge.Goals as goal

-- what is there after a name was added
with_added : (names : List (List ℕ)) (n : List ℕ) (new : Bool) → new ≡ not (is_among names n) → cond new (names ++ n ∷ []) names ≡ with_name names n
with_added names n new e = ap (λ t. cond t (names ++ n ∷ []) names) e ∙ by_test (is_among names n) where
  by_test : (t : Bool) → cond (not t) (names ++ n ∷ []) names ≡ cond t names (names ++ n ∷ [])
  by_test true = refl
  by_test false = refl

pub loop-name-preserved : goal.loop-name-preserved
loop-name-preserved c =
    let xs = c.as_slice-name-items.result.now in let i = c.loop-name.name-index in let d : Bor (List ℕ) = record { ref_ptr = (0, 0); now = [] } in
    let name : List ℕ = (get_or xs i d).now in
    let old = table_names c.args.self.now in let before = merged old (map (λ x. x.now) (take i xs)) in
    let known : c.in_ok-new.new ≡ not (is_among before name) = c.in_ok-new.ensures.new ∙ ap (λ names. not (is_among names name)) c.loop-name.invariant.names in
    let both : c.if-all_new.all_new ≡ (c.loop-name.all_new && c.in_ok-new.new) = elim c.if-all_new.branch [
      | then-all_new w ↦ w.all_new-is ∙ ap (λ t. t && c.in_ok-new.new) (sym w.if-all_new.true)
      | else-all_new w ↦ w.all_new-is ∙ w.if-all_new.false ∙ ap (λ t. t && c.in_ok-new.new) (sym w.if-all_new.false)
    ] in
    let distinct : are_distinct (map (λ x. x.now) xs) ≡ true =
    ap (λ ks. are_distinct (map (λ x. x.now) ks)) c.as_slice-name-items.ensures.keys ∙ distinct_names (λ x. x.now) c.args.other.now.names.keys c.as_slice-name-items.ensures.unique in
    record {
      names = c.in_ok-new.ensures.names ∙ ap (λ names. cond c.in_ok-new.new (names ++ name ∷ []) names) c.loop-name.invariant.names
          ∙ with_added before name c.in_ok-new.new known ∙ sym (merged_taken (λ x. x.now) xs i d c.loop-name-test.true old);
      new = both ∙ ap (λ t. t && c.in_ok-new.new) c.loop-name.invariant.new ∙ ap (λ t. are_new old (map (λ x. x.now) (take i xs)) && t) known
          ∙ sym (new_taken (λ x. x.now) xs i d c.loop-name-test.true old distinct);
    }
