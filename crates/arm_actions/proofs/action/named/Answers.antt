use Rattle.std.proofs.Common.{◌≡◌, ℕ, List, [], Some, take, drop, ◌+◌, length, sym, ap, ◌∙◌, arith}
use Rattle.tree_meaning.specs.NameTables.{table_names}
use Rattle.tree_meaning.specs.Names.{position_of}
use Rattle.arm_actions.specs.Actions.{outside, bound_piece}
use Rattle.std.specs.Prelude.{Option}
use Rattle.arm_actions.proofs.ActionLemmas.{inside_end, inside_close, named_step}
use Rattle.std.proofs.lemmas.List.{length-drop}
use Rattle.arm_actions.proofs.action.named.Goals as goal

pub returns-then-len-after : goal.returns-then-len-after
returns-then-len-after c = inside_end (table_names c.args.names.now) c.args.after.now c.name_len-len.result c.name_len-len.ensures.value (omega arith)

pub returns-in_default : goal.returns-in_default
returns-in_default c =
    let names : List (List ℕ) = table_names c.args.names.now in
    let xs : List ℕ = c.args.after.now in
    let n : ℕ = c.name_len-len.result in
    inside_close names xs n c.name_len-len.ensures.value (omega arith)
    ∙ ap (λ (o : Option ℕ). bound_piece o (outside names [] (drop (n + 1) xs))) (ap (position_of names) (sym c.front.ensures) ∙ sym c.in_default.ensures)

pub returns : goal.returns
returns c =
    let names : List (List ℕ) = table_names c.args.names.now in
    let xs : List ℕ = c.args.after.now in
    let n : ℕ = c.name_len-len.result in
    let at : position_of names (take n xs) ≡ Some c.in-Some.k = ap (position_of names) (sym c.front.ensures) ∙ sym c.in-Some.ensures in (
      named_step names c.args.found.now c.push.new.self _ (position_of names (take n xs)) c.in-Some.k (outside names [] c.tail.result.now)
          (inside_close names xs n c.name_len-len.ensures.value (omega arith) ∙ ap (λ (r : List ℕ). bound_piece (position_of names (take n xs)) (outside names [] r)) (sym c.tail.ensures))
          at c.in_ok-push.ensures.ok,
      omega (arith, ap length c.tail.ensures, length-drop (n + 1) xs),
    )
