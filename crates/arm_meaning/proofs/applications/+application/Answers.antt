use Rattle.std.proofs.Common.{sym, ap, ◌∙◌}
use Rattle.sled_model.specs.declared.pattern.Argument.TheVariants as argument
use Rattle.tree_meaning.specs.NameTables.{table_names}
use Rattle.arm_meaning.specs.Applications.{argument_of, application_of}
use Rattle.arm_meaning.proofs.ApplicationLaws.{argument_of-Inner}
use Rattle.arm_meaning.proofs.applications.+application.Goals as goal

pub argument_of-returns-in_ok-new-in-Inner : goal.argument_of-returns-in_ok-new-in-Inner
argument_of-returns-in_ok-new-in-Inner t c =
    let spec = c.args.spec.now in let names = table_names c.args.names.now in
    ap argument.Inner
    (c.in_ok-new-in-Inner.ensures ∙ c.in_ok-inner-in-Inner.ensures
    ∙ ap (λ name. application_of spec names name c.as_slice-in-Inner.result.now) c.as_slice-name.ensures
    ∙ ap (application_of spec names c.in-Inner.constructor) c.as_slice-in-Inner.ensures)
    ∙ sym (ap (argument_of spec names) c.in-Inner.is ∙ argument_of-Inner spec names c.in-Inner.constructor c.in-Inner.arguments)
