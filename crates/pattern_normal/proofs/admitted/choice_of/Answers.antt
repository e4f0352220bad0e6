use Rattle.std.proofs.Common.{◌≡◌, ◌++◌, [], filter, slice_get, option_and_then, sym, ap, ◌∙◌}
use Rattle.std.specs.Prelude.{position, ◌==◌}
use Rattle.std.specs.Option.{option_map}
use Rattle.sled_model.specs.Results.{operands_in}
use Rattle.pattern_normal.specs.Skeletons.{is_choice_spot, read_spot}
use Rattle.pattern_normal.proofs.Admitting.{choice_read}
use Rattle.pattern_normal.proofs.admitted.choice_of.Goals as goal

pub returns-in-None : goal.returns-in-None
returns-in-None c =
    let a = c.args in let read = read_spot a.near.now.tokens.now [] in
    let operands : c.as_slice.result.now ≡ operands_in a.constructor.now.body =
    c.as_slice.ensures ∙ c.in_ok-push_operands.ensures ∙ ap (λ xs. xs ++ operands_in a.constructor.now.body) c.new-operands.ensures in
    ap (λ o. option_map read (option_and_then (slice_get (filter is_choice_spot a.inner.now)) o)) (c.in-None.ensures ∙ ap (position (λ j. j == a.operand)) operands)
    ∙ sym (choice_read a.near.now.tokens.now [] a.constructor.now a.inner.now a.operand)

pub returns : goal.returns
returns c =
    let a = c.args in let read = read_spot a.near.now.tokens.now [] in
    let operands : c.as_slice.result.now ≡ operands_in a.constructor.now.body =
    c.as_slice.ensures ∙ c.in_ok-push_operands.ensures ∙ ap (λ xs. xs ++ operands_in a.constructor.now.body) c.new-operands.ensures in
    ap (option_map read) (c.nth_choice.ensures ∙ ap (option_and_then (slice_get (filter is_choice_spot a.inner.now))) (c.in-Some.ensures ∙ ap (position (λ j. j == a.operand)) operands))
    ∙ sym (choice_read a.near.now.tokens.now [] a.constructor.now a.inner.now a.operand)
