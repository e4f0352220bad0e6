use Rattle.std.proofs.Common.{◌≡◌, ℕ, List, [], Some, take, ◌+◌, ◌++◌, length, sym, ap, ◌∙◌, arith}
use Rattle.std.proofs.lemmas.Result.{IfOk-weaker}
use Rattle.std.proofs.lemmas.List.{length-drop}
use Rattle.tree_meaning.specs.NameTables.{table_names}
use Rattle.arm_actions.specs.Actions.{outside, inside, behind, words_piece}
use Rattle.arm_actions.proofs.ActionLemmas.{outside_end, outside_wrong, outside_open, Steps-open}
use Rattle.arm_actions.proofs.action.take_step.Goals as goal

pub returns-then-len-rest : goal.returns-then-len-rest
returns-then-len-rest c =
    let names : List (List ℕ) = table_names c.args.names.now in
    ap (behind c.args.found.now) (outside_end names c.args.rest.now c.words_len-len.result c.words_len-len.ensures.value (omega arith))
    ∙ ap Some (ap (λ (ws : List ℕ). c.args.found.now ++ words_piece ws) (sym c.front.ensures) ∙ sym c.in_ok-push_words.ensures)

pub returns-then-rest-len-eq125 : goal.returns-then-rest-len-eq125
returns-then-rest-len-eq125 c =
    outside_wrong (table_names c.args.names.now) c.args.rest.now c.words_len-len.result c.words_len-len.ensures.value (omega arith) c.if-rest-len-eq125.true

pub returns : goal.returns
returns c =
    let names : List (List ℕ) = table_names c.args.names.now in
    let xs : List ℕ = c.args.rest.now in
    let n : ℕ = c.words_len-len.result in
    let opened = outside_open names xs n c.words_len-len.ensures.value (omega arith) c.if-rest-len-eq125.false in
    let is : outside names [] xs ≡ behind (words_piece (take n xs)) (inside names [] c.tail.result.now) =
    opened ∙ ap (λ (r : List ℕ). behind (words_piece (take n xs)) (inside names [] r)) (sym c.tail.ensures) in
    let added : c.push_words.new.found ≡ c.args.found.now ++ words_piece (take n xs) =
    c.in_ok-push_words.ensures ∙ ap (λ (ws : List ℕ). c.args.found.now ++ words_piece ws) c.front.ensures in
    IfOk-weaker c.named.result _ _ (λ s h. Steps-open names xs c.tail.result.now c.args.found.now c.push_words.new.found _ (words_piece (take n xs)) s is added
    (omega (arith, ap length c.tail.ensures, length-drop (n + 1) xs)) h) c.named.ensures
