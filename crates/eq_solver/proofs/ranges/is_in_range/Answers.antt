use Rattle.std.proofs.Common.{arith, subst, sym, ◌∙◌, ap, true}
use Rattle.std.proofs.lemmas.Int.{ints}
use Rattle.eq_solver.specs.Isolated.{others}
use Rattle.eq_solver.specs.Ranges.{AreGivenTerms}
use Rattle.eq_solver.proofs.Staying.{opposite_given, stays_read}
use Rattle.eq_solver.proofs.ranges.is_in_range.Goals as goal

pub greatest-requires-2-clause-given : goal.greatest-requires-2-clause-given
greatest-requires-2-clause-given c =
    subst AreGivenTerms (sym (c.as_slice-3.ensures ∙ c.in_ok-opposite.ensures ∙ ap (others true) c.as_slice.ensures)) (opposite_given c.args.value.now.terms c.requires.given)

pub returns : goal.returns
returns c =
    let most = c.in_ok-most.ensures.within in
    let least = c.in_ok-least.ensures.within in
    stays_read c.args.tokens.now c.args.value.now c.is_between.result c.in_ok-most.most c.in_ok-least.least _ _ c.as_slice-2.result.now c.as_slice-3.result.now c.requires.given c.in_ok-most.ensures.is c.in_ok-least.ensures.is
    c.as_slice-2.ensures (c.as_slice-3.ensures ∙ c.in_ok-opposite.ensures ∙ ap (others true) c.as_slice.ensures) c.is_between.ensures (omega (arith, ints)) (omega (arith, ints))
