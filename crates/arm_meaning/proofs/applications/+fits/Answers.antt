use Rattle.std.proofs.Common.{◌≡◌, drop, [], Some, sym, ap, ◌∙◌, arith}
use Rattle.std.proofs.lemmas.List.{drop_all}
use Rattle.arm_meaning.specs.Applications.{constructor_called, arguments_fit}
use Rattle.arm_meaning.proofs.ApplicationLaws.{inner_fits, no_argument_left}
use Rattle.arm_meaning.proofs.applications.+fits.Goals as goal

pub argument_fits-returns-then-makes : goal.argument_fits-returns-then-makes
argument_fits-returns-then-makes t c =
    let a = c.args in let inner = c.in-Some.inner.now in
    let called : Some inner ≡ constructor_called a.spec.now c.in-Inner.constructor = c.in-Some.ensures ∙ ap (constructor_called a.spec.now) c.as_slice.ensures in
    c.arguments_fit.ensures
    ∙ ap (λ kinds. arguments_fit a.spec.now kinds c.as_slice-then-makes-2.result.now) c.as_slice-then-makes.ensures
    ∙ ap (arguments_fit a.spec.now inner.operands) c.as_slice-then-makes-2.ensures
    ∙ inner_fits a.spec.now a.kind.now a.argument.now c.in-Inner.constructor c.in-Inner.arguments inner c.in-Inner.is called (sym c.makes.ensures ∙ c.if-makes.true)

pub arguments_fit-returns : goal.arguments_fit-returns
arguments_fit-returns t c =
    let a = c.args in let left = c.loop-argument.left.now in
    let none : drop c.loop-argument.argument-index a.arguments.now ≡ [] = drop_all c.loop-argument.argument-index a.arguments.now (omega arith) in
    c.is_empty.ensures ∙ sym (c.loop-argument.invariant ∙ ap (arguments_fit a.spec.now left) none ∙ no_argument_left a.spec.now left)
