use Rattle.std.proofs.Common.{[], ◌∷◌, ap, ◌∙◌}
use Rattle.sled_model.specs.declared.pattern.Pattern.TheVariants.{Operand, Chain}
use Rattle.pattern_normal.proofs.Worked.{body_plain}
use Rattle.pattern_normal.proofs.tests.instruction.Goals as goal

pub returns : goal.returns
returns c = body_plain c.constructor.result.body (c.constructor.ensures ∙ ap Chain (c.in_ok-two.ensures ∙ ap (λ p. p ∷ Operand 0 ∷ []) c.low.ensures))
