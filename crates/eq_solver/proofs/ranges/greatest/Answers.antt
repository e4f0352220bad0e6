use Rattle.std.proofs.Common.{w64, FitsSigned, rules, arith, subst, sym, ap, ◌≡◌, ◌∙◌, ◌+ℤ◌, to_z, of_z}
use Rattle.std.proofs.lemmas.Int.{ints}
use Rattle.eq_solver.specs.Ranges.{AreGivenTerms, label_terms, halves_of, IsGreatest}
use Rattle.eq_solver.proofs.Greatest.{labels_given, greatest_read}
use Rattle.eq_solver.proofs.ranges.greatest.Goals as goal

pub most_of-of_labels-requires-clause-given : goal.most_of-of_labels-requires-clause-given
most_of-of_labels-requires-clause-given c = subst AreGivenTerms (sym (c.as_slice.ensures ∙ c.in_ok-labels.ensures)) (labels_given c.args.terms.now c.requires.given)

pub returns-clause-is : goal.returns-clause-is
returns-clause-is c =
    greatest_read c.args.tokens.now c.args.terms.now c.as_slice.result.now _ _ _ c.requires.given.each (c.as_slice.ensures ∙ c.in_ok-labels.ensures) c.most_of-of_fields.ensures.is c.most_of-of_labels.ensures.is (omega (arith, ints))
