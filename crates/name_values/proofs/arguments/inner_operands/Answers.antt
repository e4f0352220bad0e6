use Rattle.std.proofs.Common.{◌≡◌, Some, sym, ap, ◌∙◌}
use Rattle.std.specs.Option.{option_copied}
use Rattle.sled_model.specs.declared.instance.Instance.{Instance}
use Rattle.sled_model.specs.declared.instance.Operand.TheVariants.{Sub}
use Rattle.match_meaning.specs.Names.{inner_operands}
use Rattle.name_values.proofs.NamedLaws.{inner_operands-Sub}
use Rattle.name_values.proofs.arguments.inner_operands.Goals as goal

pub returns-in-Sub : goal.returns-in-Sub
returns-in-Sub c =
    let is : option_copied c.args.operand ≡ Some (Sub c.in-Sub.inner) = ap option_copied c.in-Some.is ∙ ap Some c.in-Sub.is in
    c.as_slice.ensures ∙ ap (λ (i : Instance). i.operands) c.get.ensures ∙ sym (inner_operands-Sub c.in-Sub.inner) ∙ ap inner_operands (sym is)
