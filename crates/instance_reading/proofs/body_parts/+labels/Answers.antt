use Rattle.std.proofs.Common.{◌≡◌, [], ◌∷◌, ◌++◌, OnOk, subst, sym, ap, ◌∙◌}
use Rattle.std.proofs.lemmas.List.{append_assoc}
use Rattle.sled_model.specs.Linear.{labels_in}
use Rattle.instance_reading.proofs.BodyLabels.{labels_in-Label}
use Rattle.instance_reading.proofs.body_parts.+labels.Goals as goal

pub push_labels-returns-in_ok-push-in-Label : goal.push_labels-returns-in_ok-push-in-Label
push_labels-returns-in_ok-push-in-Label t c =
    let a = c.args in let l = c.in-Label.label in
    let inner : (l ∷ labels_in c.get.result.now) ≡ labels_in a.pattern.now =
    ap (λ p. l ∷ labels_in p) c.get.ensures ∙ sym (labels_in-Label l c.in-Label.inner) ∙ ap labels_in (sym c.in-Label.is) in
    let all : (c.push.new.self ++ labels_in c.get.result.now) ≡ (a.found.now ++ labels_in a.pattern.now) =
    ap (λ xs. xs ++ labels_in c.get.result.now) c.in_ok-push-in-Label.ensures.ok ∙ append_assoc a.found.now (l ∷ []) (labels_in c.get.result.now) ∙ ap (λ ls. a.found.now ++ ls) inner in
    subst (λ ks. OnOk c.push_labels.result (c.push_labels.new.found ≡ ks)) all c.push_labels.ensures
