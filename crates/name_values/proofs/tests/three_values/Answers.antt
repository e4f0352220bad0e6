use Rattle.std.proofs.Common.{[], ◌∷◌, sym, subst, ◌∙◌}
use Rattle.match_meaning.specs.Readable.{IsReadableSpec}
use Rattle.instance_reading.specs.declared.place.Place.{Place}
use Rattle.name_values.proofs.Worked.{no_choices}
use Rattle.name_values.proofs.tests.three_values.Goals as goal

pub plans_of-requires : goal.plans_of-requires
plans_of-requires c = subst IsReadableSpec (sym c.in_ok-spec.ensures) c.example_row.ensures.0

pub values-requires-clause-readable : goal.values-requires-clause-readable
values-requires-clause-readable c = subst IsReadableSpec (sym c.in_ok-spec.ensures) c.example_row.ensures.0

pub values-requires-clause-results : goal.values-requires-clause-results
values-requires-clause-results c =
    let held = c.as_slice-4.result.ref_ptr in
    let place : Place = record { spec = record { ref_ptr = held; now = c.in_ok-spec.spec }; window = record { ref_ptr = held; now = 53 ∷ 0 ∷ 87 ∷ [] }; location = 16 } in
    no_choices place c.as_slice-4.result.now (c.as_slice-4.ensures ∙ c.in_ok-bound.ensures)
