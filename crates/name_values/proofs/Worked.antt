-- The spots of the test have no choice.
use Rattle.std.proofs.Common.{◌≡◌, List, [], ◌∷◌, All, sym, subst}
use Rattle.std.proofs.lemmas.List.Elements.{All-nil, All-cons}
use Rattle.pattern_normal.specs.declared.skeleton.Spot.{Spot}
use Rattle.pattern_normal.specs.declared.skeleton.Spot.TheVariants.{Value, Mark}
use Rattle.instance_reading.specs.declared.place.Place.{Place}
use Rattle.instance_reading.specs.Example.{y}
use Rattle.name_values.specs.Values.{entry_at, entries_at, IsBodyChoice}

pub no_choices : (place : Place) (spots : List Spot) → spots ≡ Value y 0 ∷ Mark 1 2 ∷ Value y 2 ∷ [] → All (IsBodyChoice place.spec.now) (entries_at place spots)
no_choices place spots e =
    let one = entry_at place (Value y 0) in let two = entry_at place (Mark 1 2) in let three = entry_at place (Value y 2) in
    subst (λ (ss : List Spot). All (IsBodyChoice place.spec.now) (entries_at place ss)) (sym e)
    (All-cons (IsBodyChoice place.spec.now) one (two ∷ three ∷ []) tt
    (All-cons (IsBodyChoice place.spec.now) two (three ∷ []) tt (All-cons (IsBodyChoice place.spec.now) three [] tt (All-nil (IsBodyChoice place.spec.now)))))
