use Rattle.std.proofs.Common.{List, sym, ap, ◌∙◌}
use Rattle.std.specs.Option.{option_copied}
use Rattle.sled_model.specs.declared.instance.Operand.{Operand}
use Rattle.match_meaning.specs.Names.{named_by, named_in, inner_operands}
use Rattle.name_values.specs.Arguments.{named_from}
use Rattle.name_values.proofs.NamedLaws.{named_by-Inner, named_in-Apply}
use Rattle.name_values.proofs.arguments.+named.Goals as goal

pub named_by-returns-in-Inner : goal.named_by-returns-in-Inner
named_by-returns-in-Inner t c =
    let k = c.args.k in let o = option_copied c.args.operand in
    c.named_in.ensures ∙ ap (λ (os : List Operand). named_in k os c.get.result.now) c.inner_operands.ensures ∙ ap (named_in k (inner_operands o)) c.get.ensures
    ∙ sym (named_by-Inner k o c.in-Inner.pattern) ∙ ap (named_by k o) (sym c.in-Inner.is)

pub named_in-returns-in-Apply : goal.named_in-returns-in-Apply
named_in-returns-in-Apply t c =
    let k = c.args.k in let os = c.args.operands.now in
    c.argument_value.ensures ∙ ap (named_from k os 0) c.as_slice.ensures ∙ sym (named_in-Apply k os c.in-Apply.constructor c.in-Apply.arguments) ∙ ap (named_in k os) (sym c.in-Apply.is)
