use Rattle.std.proofs.Common.{List, Some, subst, ap, ◌∙◌}
use Rattle.sled_model.specs.declared.instance.Operand.{Operand}
use Rattle.name_values.specs.Arguments.{named_from}
use Rattle.name_values.specs.Values.{entry_at, IsReadAs}
use Rattle.name_values.proofs.Choices.{spot_gives}
use Rattle.name_values.proofs.entries.given.Goals as goal

pub returns-in_ok-copy_operand-in-Some-argument_value : goal.returns-in_ok-copy_operand-in-Some-argument_value
returns-in_ok-copy_operand-in-Some-argument_value c =
    let a = c.args in let s = c.in-Choice in let i = c.in-Some.instance in
    spot_gives a.place.now s.constructor s.inner s.arguments a.spot.now a.name.now a.k i _ s.is (subst (IsReadAs a.place.now.spec.now a.place.now.location (entry_at a.place.now a.spot.now)) c.in-Some.is c.requires.read)
    (ap Some c.in_ok-copy_operand-in-Some-argument_value.ensures ∙ c.in-Some-argument_value.ensures ∙ ap (λ (os : List Operand). named_from a.k os 0 c.as_slice.result.now) c.as_slice-in-Choice.ensures
    ∙ ap (named_from a.k i.operands 0) c.as_slice.ensures)

pub returns-in-None : goal.returns-in-None
returns-in-None c =
    let a = c.args in let s = c.in-Choice in let i = c.in-Some.instance in
    spot_gives a.place.now s.constructor s.inner s.arguments a.spot.now a.name.now a.k i _ s.is (subst (IsReadAs a.place.now.spec.now a.place.now.location (entry_at a.place.now a.spot.now)) c.in-Some.is c.requires.read)
    (c.in-None.ensures ∙ ap (λ (os : List Operand). named_from a.k os 0 c.as_slice.result.now) c.as_slice-in-Choice.ensures ∙ ap (named_from a.k i.operands 0) c.as_slice.ensures)
