use Rattle.std.proofs.Common.{◌≡◌, ◌++◌, filter, slice_get, option_and_then, ap, ◌∙◌}
use Rattle.std.specs.Prelude.{position, ◌==◌}
use Rattle.sled_model.specs.Results.{is_choice, operands_in}
use Rattle.sled_model.proofs.admitted.choice_of.Goals as goal

pub returns-in-None : goal.returns-in-None
returns-in-None c =
    let a = c.args in
    let operands : c.as_slice.result.now ≡ operands_in a.constructor.now.body =
    c.as_slice.ensures ∙ c.in_ok-push_operands.ensures ∙ ap (λ xs. xs ++ operands_in a.constructor.now.body) c.new-operands.ensures in
    ap (option_and_then (slice_get (filter is_choice a.inner.now))) (c.in-None.ensures ∙ ap (position (λ j. j == a.operand)) operands)

pub returns : goal.returns
returns c =
    let a = c.args in
    let operands : c.as_slice.result.now ≡ operands_in a.constructor.now.body =
    c.as_slice.ensures ∙ c.in_ok-push_operands.ensures ∙ ap (λ xs. xs ++ operands_in a.constructor.now.body) c.new-operands.ensures in
    c.nth_choice.ensures ∙ ap (option_and_then (slice_get (filter is_choice a.inner.now))) (c.in-Some.ensures ∙ ap (position (λ j. j == a.operand)) operands)
