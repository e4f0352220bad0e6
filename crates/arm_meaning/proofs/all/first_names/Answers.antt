use Rattle.std.proofs.Common.{[], ◌∷◌, ◌++◌, sym, ap, ◌∙◌}
use Rattle.sled_model.specs.declared.pattern.Argument.TheVariants.{Name}
use Rattle.arm_meaning.proofs.AllLaws.{names_more}
use Rattle.arm_meaning.proofs.all.first_names.Goals as goal

pub loop-number-preserved : goal.loop-number-preserved
loop-number-preserved c =
    let k = c.loop-number.number in
    c.in_ok-push.ensures.ok ∙ ap (λ names. names ++ Name k ∷ []) c.loop-number.invariant ∙ sym (names_more k)
