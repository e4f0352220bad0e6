use Rattle.std.proofs.Common.{◌≡◌, ℕ, ◌+◌, List, [], ◌∷◌, ◌++◌, take, sym, ap, subst, ◌∙◌, arith}
use Rattle.std.proofs.lemmas.List.{take_more, length-take-le}
use Rattle.sled_model.specs.declared.instance.Operand.{Operand}
use Rattle.match_meaning.specs.Names.{IsNameValue, AreNameValues}
use Rattle.name_values.specs.Values.{entries_at}
use Rattle.name_values.proofs.Zips.{values_pushed}
use Rattle.name_values.proofs.names.values_by.Goals as goal

pub loop-k-preserved : goal.loop-k-preserved
loop-k-preserved c =
    let a = c.args in let spec = a.place.now.spec.now in let location = a.place.now.location in let entries = entries_at a.place.now a.spots.now in let names = a.names.now in let k = c.loop-k.k in let name = c.index-names-k.result in
    let took : take k names ++ name ∷ [] ≡ take (k + 1) names = sym (take_more names k name (omega arith) ∙ ap (λ (x : List ℕ). take k names ++ x ∷ []) (sym c.index-names-k.is)) in
    let count = length-take-le k names (omega arith) in
    let value = subst (λ (xs : List ℕ). IsNameValue spec location xs k entries c.in_ok-name_value.field-0) c.as_slice-name.ensures c.in_ok-name_value.ensures in
    subst (λ (ns : List (List ℕ)). AreNameValues spec location entries 0 ns c.push.new.self) took
    (subst (λ (vs : List Operand). AreNameValues spec location entries 0 (take k names ++ name ∷ []) vs) (sym c.in_ok-push.ensures.ok)
    (values_pushed spec location entries 0 k (take k names) c.loop-k.values name c.in_ok-name_value.field-0 c.loop-k.invariant (omega (arith, count)) value))
