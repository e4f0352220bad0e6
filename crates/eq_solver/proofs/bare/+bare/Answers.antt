use Rattle.std.proofs.Common.{◌≡◌, ◌++◌, OnOk, ap, sym, ◌∙◌, subst}
use Rattle.std.specs.List.{flat_map}
use Rattle.sled_model.specs.SolvingOrder.{bare_fields}
use Rattle.eq_solver.proofs.BareFields.{fields-Label, fields-Loose, fields-Both, fields-Either, fields-Chain}
use Rattle.eq_solver.proofs.bare.+bare.Goals as goal

pub add_fields-returns-in-Label : goal.add_fields-returns-in-Label
add_fields-returns-in-Label t c =
    subst (λ fs. OnOk c.add_fields.result (c.add_fields.new.found ≡ c.args.found.now ++ fs))
    (ap bare_fields c.get.ensures ∙ sym (fields-Label c.in-Label.field-0 c.in-Label.inner) ∙ ap bare_fields (sym c.in-Label.is)) c.add_fields.ensures

pub add_fields-returns-in-Loose : goal.add_fields-returns-in-Loose
add_fields-returns-in-Loose t c =
    subst (λ fs. OnOk c.add_fields-in-Loose.result (c.add_fields-in-Loose.new.found ≡ c.args.found.now ++ fs))
    (ap bare_fields c.get-in-Loose.ensures ∙ sym (fields-Loose c.in-Loose.inner) ∙ ap bare_fields (sym c.in-Loose.is)) c.add_fields-in-Loose.ensures

pub add_fields-returns-in-Both : goal.add_fields-returns-in-Both
add_fields-returns-in-Both t c =
    subst (λ fs. OnOk c.add_fields_of.result (c.add_fields_of.new.found ≡ c.args.found.now ++ fs))
    (ap (flat_map bare_fields) c.as_slice.ensures ∙ sym (fields-Both c.in-Both.parts) ∙ ap bare_fields (sym c.in-Both.is)) c.add_fields_of.ensures

pub add_fields-returns-in-Either : goal.add_fields-returns-in-Either
add_fields-returns-in-Either t c =
    subst (λ fs. OnOk c.add_fields_of-in-Either.result (c.add_fields_of-in-Either.new.found ≡ c.args.found.now ++ fs))
    (ap (flat_map bare_fields) c.as_slice-in-Either.ensures ∙ sym (fields-Either c.in-Either.parts) ∙ ap bare_fields (sym c.in-Either.is)) c.add_fields_of-in-Either.ensures

pub add_fields-returns-in-Chain : goal.add_fields-returns-in-Chain
add_fields-returns-in-Chain t c =
    subst (λ fs. OnOk c.add_fields_of-in-Chain.result (c.add_fields_of-in-Chain.new.found ≡ c.args.found.now ++ fs))
    (ap (flat_map bare_fields) c.as_slice-in-Chain.ensures ∙ sym (fields-Chain c.in-Chain.parts) ∙ ap bare_fields (sym c.in-Chain.is)) c.add_fields_of-in-Chain.ensures
