use Rattle.std.proofs.Common.{◌≡◌, [], ◌∷◌, ◌++◌, sym, ap, ◌∙◌, arith}
use Rattle.sled_model.specs.declared.pattern.Pattern.TheVariants.{Operand}
use Rattle.application_measures.specs.Parts.{numbered}
use Rattle.application_measures.proofs.Mirrors.{numbered_none, numbered_more}
use Rattle.application_measures.proofs.parts.numbered.Goals as goal

pub loop-k-init : goal.loop-k-init
loop-k-init c = c.new-operands.ensures ∙ sym numbered_none

pub loop-k-preserved : goal.loop-k-preserved
loop-k-preserved c =
    let same : c.in-Ok.number ≡ c.loop-k.k = omega (arith, c.in-Ok.ensures) in
    c.in_ok-push.ensures.ok ∙ ap (λ ps. ps ++ Operand c.in-Ok.number ∷ []) c.loop-k.invariant ∙ ap (λ n. numbered c.loop-k.k ++ Operand n ∷ []) same ∙ numbered_more c.loop-k.k
