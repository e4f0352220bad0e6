use Rattle.std.proofs.Common.{◌≡◌, ◌+◌, Bool, List, ℕ, ◌++◌, take, subst, sym, ap, ◌∙◌}
use Rattle.std.specs.Prelude.{◌&&◌, IfOk, OnOk}
use Rattle.std.proofs.lemmas.List.{take_all}
use Rattle.sled_model.proofs.Lists.{flat_map_take}
use Rattle.tree_meaning.specs.Names.{merged, are_new, are_distinct}
use Rattle.tree_meaning.specs.NameTables.{table_names}
use Rattle.arm_meaning.specs.Bound.{argument_names, names_in}
use Rattle.arm_meaning.proofs.ApplicationLaws.{argument_names-Inner}
use Rattle.arm_meaning.proofs.NameLemmas.{are_fresh, fresh_is, fresh_append, merged_append}
use Rattle.arm_meaning.proofs.bindings.+arguments.Goals.{add_names-then-all_new, add_names-else-all_new}
use Rattle.arm_meaning.proofs.bindings.+arguments.Goals as goal

pub add_argument-returns-in-Inner-clause-names : goal.add_argument-returns-in-Inner-clause-names
add_argument-returns-in-Inner-clause-names t c =
    let e : names_in c.as_slice-in-Inner.result.now ≡ argument_names c.args.argument.now =
    ap names_in c.as_slice-in-Inner.ensures ∙ sym (ap argument_names c.in-Inner.is ∙ argument_names-Inner c.in-Inner.constructor c.in-Inner.arguments) in
    subst (λ (ns : List (List ℕ)). OnOk c.add_names.result (table_names c.add_names.new.names ≡ merged (table_names c.args.names.now) ns)) e c.add_names.ensures.names

pub add_argument-returns-in-Inner-clause-new : goal.add_argument-returns-in-Inner-clause-new
add_argument-returns-in-Inner-clause-new t c =
    let e : names_in c.as_slice-in-Inner.result.now ≡ argument_names c.args.argument.now =
    ap names_in c.as_slice-in-Inner.ensures ∙ sym (ap argument_names c.in-Inner.is ∙ argument_names-Inner c.in-Inner.constructor c.in-Inner.arguments) in
    subst (λ (ns : List (List ℕ)). IfOk c.add_names.result (λ (new : Bool). new ≡ (are_new (table_names c.args.names.now) ns && are_distinct ns))) e c.add_names.ensures.new

pub add_names-loop-argument-preserved : goal.add_names-loop-argument-preserved
add_names-loop-argument-preserved t c =
    let xs = c.args.arguments.now in let i = c.loop-argument.argument-index in let x = c.argument-item.result in
    let old = table_names c.args.names.now in let front = names_in (take i xs) in let ns = argument_names x in
    let more : names_in (take (i + 1) xs) ≡ front ++ ns = flat_map_take argument_names xs i x c.loop-argument-test.true c.argument-item.is in
    let both : c.if-all_new.all_new ≡ (c.loop-argument.all_new && c.in_ok-new.new) = elim c.if-all_new.branch [
      | add_names-then-all_new w ↦ w.all_new-is ∙ ap (λ t. t && c.in_ok-new.new) (sym w.if-all_new.true)
      | add_names-else-all_new w ↦ w.all_new-is ∙ w.if-all_new.false ∙ ap (λ t. t && c.in_ok-new.new) (sym w.if-all_new.false)
    ] in
    record {
      names = c.in_ok-new.ensures.names ∙ ap (λ names. merged names ns) c.loop-argument.invariant.names ∙ sym (merged_append old front ns) ∙ ap (merged old) (sym more);
      new = both ∙ ap (λ t. t && c.in_ok-new.new) c.loop-argument.invariant.new
          ∙ ap (λ t. are_fresh old front && t) (c.in_ok-new.ensures.new ∙ sym (fresh_is (table_names c.loop-argument.names) ns) ∙ ap (λ names. are_fresh names ns) c.loop-argument.invariant.names)
          ∙ sym (fresh_append old front ns) ∙ ap (are_fresh old) (sym more);
    }

pub add_names-returns-clause-new : goal.add_names-returns-clause-new
add_names-returns-clause-new t c =
    let xs = c.args.arguments.now in let i = c.loop-argument.argument-index in let old = table_names c.args.names.now in
    let all : take i xs ≡ xs = take_all i xs c.loop-argument-test.false in
    c.loop-argument.invariant.new ∙ ap (λ ys. are_fresh old (names_in ys)) all ∙ fresh_is old (names_in xs)
