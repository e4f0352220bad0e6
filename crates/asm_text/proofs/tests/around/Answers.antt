use Rattle.std.proofs.Common.{[], ◌∷◌, ◌++◌, All, ap, sym, ◌∙◌, subst}
use Rattle.std.proofs.lemmas.List.Elements.{All-nil, All-cons, All-same}
use Rattle.sled_model.specs.declared.instance.Instance.{Instance}
use Rattle.sled_model.specs.declared.instance.Operand.TheVariants.{Sub}
use Rattle.asm_text.specs.Writable.{HasNoPlace}
use Rattle.asm_text.proofs.WritableLaws.{HasNoPlace-Sub}
use Rattle.asm_text.proofs.tests.around.Goals as goal

pub returns : goal.returns
returns c =
    let i = c.in_ok-new.field-0 in
    let here : HasNoPlace (Sub i) = HasNoPlace-Sub i (subst (λ (j : Instance). All HasNoPlace j.operands) (sym c.in_ok-new.ensures) c.requires) in
    All-same HasNoPlace c.push.new.self (Sub i ∷ []) (c.in_ok-push.ensures.ok ∙ ap (λ os. os ++ Sub i ∷ []) c.new-operands.ensures)
    (All-cons HasNoPlace (Sub i) [] here (All-nil HasNoPlace))
