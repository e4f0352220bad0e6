use Rattle.std.proofs.Common.{◌≡◌, ◌++◌, OnOk, subst, sym, ap, ◌∙◌}
use Rattle.sled_model.specs.Results.{operands_in}
use Rattle.sled_model.proofs.AdmittedLaws.{operands_in-Label}
use Rattle.instance_reading.proofs.body_parts.+operands.Goals as goal

pub push_operands-returns-in-Label : goal.push_operands-returns-in-Label
push_operands-returns-in-Label t c =
    let a = c.args in
    let e : operands_in c.get.result.now ≡ operands_in a.pattern.now =
    ap operands_in c.get.ensures ∙ sym (operands_in-Label c.in-Label.field-0 c.in-Label.inner) ∙ ap operands_in (sym c.in-Label.is) in
    subst (λ ks. OnOk c.push_operands.result (c.push_operands.new.found ≡ a.found.now ++ ks)) e c.push_operands.ensures
