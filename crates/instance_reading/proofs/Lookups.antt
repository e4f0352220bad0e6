-- What a program finds for a constructor: the declaration, the plan, and the choice for an operand that is an instance.
use Rattle.std.proofs.Common.{ℕ, ◌+◌, ◌≡◌, ◌<◌, List, [], ◌∷◌, ◌++◌, length, take, get_or, slice_get, Option, Some, None, refl, sym, ap, ◌∙◌, subst, Bor}
use Rattle.std.specs.List.{AllZip}
use Rattle.std.specs.Option.{option_map}
use Rattle.std.proofs.lemmas.List.{take_more}
use Rattle.std.proofs.lemmas.Option.{slice_get_within, slice_get_read}
use Rattle.std.proofs.lemmas.Slice.Zip.{AllZip-long}
use Rattle.sled_model.specs.declared.constructor.ConstructorId.{ConstructorId}
use Rattle.sled_model.specs.declared.constructor.TypeId.{TypeId}
use Rattle.sled_model.specs.declared.constructor.OperandKind.TheVariants.{Typed}
use Rattle.sled_model.specs.declared.constructor.Constructor.{Constructor}
use Rattle.sled_model.specs.declared.pattern.Argument.{Argument}
use Rattle.sled_model.specs.declared.raw.RawEntry.{RawEntry}
use Rattle.sled_model.specs.declared.raw.RawEntry.TheVariants.{Choice}
use Rattle.token_bits.specs.declared.tokens.FieldId.{FieldId}
use Rattle.sled_model.specs.Results.{choice_of}
use Rattle.pattern_normal.specs.declared.skeleton.Skeleton.{Skeleton}
use Rattle.pattern_normal.specs.declared.skeleton.Spot.{Spot}
use Rattle.pattern_normal.specs.declared.skeleton.Spot.TheVariants as spot
use Rattle.pattern_normal.specs.Skeletons.{read_spot, read_entries}
use Rattle.pattern_normal.proofs.SkeletonLaws.{read_choice}
use Rattle.instance_reading.specs.declared.bound.Bound.{Bound}
use Rattle.instance_reading.specs.declared.plans.BodyPlan.{BodyPlan}
use Rattle.instance_reading.specs.Bound.{entries_of, IsBound, IsKindAt, IsChosen}
use Rattle.instance_reading.specs.Entries.{chosen_by, chosen_spot}
use Rattle.instance_reading.specs.Plans.{IsBodyPlan}
use Rattle.instance_reading.specs.Reading.{IsBodyResult}
use Rattle.instance_reading.proofs.BodyReads.{zip_append}
use Rattle.instance_reading.proofs.Entries.{zip_at, choice_at}
use Rattle.instance_reading.proofs.Choices.{choice_like, never_value, never_mark}
use Rattle.instance_reading.proofs.Spots.{chosen_read}
use Rattle.instance_reading.proofs.Bodies.{some_same, none_some, is_c, can_read, within, stop, what_is_read, inner_result}

-- an item more on each side
pub zip_more : {X Y : Type 0} (R : X → Y → Type 0) (xs : List X) (i : ℕ) (x : X) (ys zs : List Y) (y : Y) → i < length xs → x ≡ get_or xs i x → AllZip R (take i xs) ys → R x y → zs ≡ ys ++ y ∷ [] → AllZip R (take (i + 1) xs) zs
zip_more R xs i x ys zs y l e h r d =
    subst (λ zs. AllZip R (take (i + 1) xs) zs) (sym d)
    (subst (λ us. AllZip R us (ys ++ y ∷ [])) (sym (take_more xs i x l ∙ ap (λ z. take i xs ++ z ∷ []) (sym e))) (zip_append R (take i xs) (x ∷ []) ys (y ∷ []) h (r, tt)))

-- what an index reads
pub read_is : {X : Type 0} (xs held : List X) (i : ℕ) (x : X) → held ≡ xs → i < length held → x ≡ get_or held i x → slice_get xs i ≡ Some x
read_is xs held i x e l d = subst (λ ys. slice_get ys i ≡ Some x) e (slice_get_read held (length held) i x refl l d)

module _ (b : Bound) (w : IsBound b) where
  abbrev known : Constructor
  known = w.result.known.constructor

  known_is : slice_get b.place.spec.now.constructors b.constructor.0 ≡ Some known
  known_is = is_c b.place.spec.now w.readable b.constructor (entries_of b) w.result

  pub declared_within : (held : List Constructor) → held ≡ b.place.spec.now.constructors → b.constructor.0 < length held
  declared_within held e = subst (λ cs. b.constructor.0 < length cs) (sym e) (slice_get_within b.place.spec.now.constructors b.constructor.0 known known_is)

  pub plan_within : (held : List BodyPlan) → held ≡ b.plans.now.each → b.constructor.0 < length held
  plan_within held e =
      let many = AllZip-long (IsBodyPlan b.place.spec.now.tokens) b.place.spec.now.constructors b.plans.now.each w.plans in
      subst (λ n. b.constructor.0 < n) (sym (ap length e ∙ many)) (slice_get_within b.place.spec.now.constructors b.constructor.0 known known_is)

  pub plan_at : (plan : BodyPlan) → slice_get b.plans.now.each b.constructor.0 ≡ Some plan → (c : Constructor) → slice_get b.place.spec.now.constructors b.constructor.0 ≡ Some c → IsBodyPlan b.place.spec.now.tokens c plan
  plan_at plan e c s =
      let found = zip_at (IsBodyPlan b.place.spec.now.tokens) b.place.spec.now.constructors b.plans.now.each b.constructor.0 c w.plans s in
      subst (IsBodyPlan b.place.spec.now.tokens c) (some_same (slice_get b.plans.now.each b.constructor.0) found.0 plan found.1 e) found.2

  -- ---- choices

  -- the choice for an operand: of a constructor declared before, whose body bound these entries
  pub record IsTaken (operand : ℕ) (entry : RawEntry) : Type 0 where
    pub chosen : choice_of known (entries_of b) operand ≡ Some entry
    pub number : ConstructorId
    pub inner : List RawEntry
    pub is : entry ≡ Choice number (record { entries = inner }) []
    pub earlier : number.0 < b.constructor.0
    pub result : IsBodyResult b.place.spec.now number inner

  module _ (operand : ℕ) (t : TypeId) (kind : IsKindAt b operand (Typed t)) (plan : BodyPlan) (planned : (c : Constructor) → slice_get b.place.spec.now.constructors b.constructor.0 ≡ Some c → IsBodyPlan b.place.spec.now.tokens c plan)
      (standing : List ℕ) (stands : standing ≡ plan.standing) where
    pub taken : (entry : RawEntry) × IsTaken operand entry
    taken =
        let r = w.result in
        let inside = within b.place.spec.now w.readable b.constructor (entries_of b) r in
        let place = stop b.place.spec.now w.readable b.constructor (entries_of b) r in
        let reads = what_is_read b.place.spec.now w.readable b.constructor (entries_of b) r in
        let able = can_read b.place.spec.now w.readable b.constructor (entries_of b) r in
        let found = choice_at inside r.bytes place known (entries_of b) operand reads.choices (able.typed operand t (kind known known_is)) in
        let inner = inner_result b.place.spec.now w.readable b.constructor (entries_of b) r operand found.0 found.2 in
        (found.0, record { chosen = found.1; number = record { 0 = found.2.number }; inner = found.2.found.binds; is = found.2.is; earlier = inner.0; result = inner.1 })

    is_there : chosen_by standing (entries_of b) operand ≡ Some taken.0
    is_there = ap (λ ks. chosen_by ks (entries_of b) operand) (stands ∙ (planned known known_is).standing) ∙ taken.1.chosen

    read_there : (o : Option Spot) → chosen_spot standing b.spots.now operand ≡ o → option_map (read_spot b.place.spec.now.tokens b.place.window.now) o ≡ Some taken.0
    read_there o e = ap (option_map (read_spot b.place.spec.now.tokens b.place.window.now)) (sym e) ∙ sym (chosen_read b.place.spec.now.tokens b.place.window.now standing b.spots.now operand) ∙ is_there

    pub never_none : chosen_spot standing b.spots.now operand ≡ None → ⊥
    never_none e = none_some None taken.0 refl (read_there None e)

    module _ (found : Spot) (chosen : chosen_spot standing b.spots.now operand ≡ Some found) where
      same_entry : taken.0 ≡ read_spot b.place.spec.now.tokens b.place.window.now found
      same_entry = some_same (Some taken.0) taken.0 (read_spot b.place.spec.now.tokens b.place.window.now found) refl (sym (read_there (Some found) chosen))

      is_choice : read_spot b.place.spec.now.tokens b.place.window.now found ≡ Choice taken.1.number (record { entries = taken.1.inner }) []
      is_choice = sym same_entry ∙ taken.1.is

      pub not_value : (f : FieldId) (at' : ℕ) → found ≡ spot.Value f at' → ⊥
      not_value f at' e = never_value _ _ _ _ _ _ (ap (read_spot b.place.spec.now.tokens b.place.window.now) (sym e) ∙ is_choice)

      pub not_mark : (label at' : ℕ) → found ≡ spot.Mark label at' → ⊥
      not_mark label at' e = never_mark _ _ _ _ _ (ap (read_spot b.place.spec.now.tokens b.place.window.now) (sym e) ∙ is_choice)

      module _ (k : ConstructorId) (inner : Skeleton) (arguments : List Argument) (is : found ≡ spot.Choice k inner arguments) (held : Bor (List Spot)) (holds : held.now ≡ inner.entries) where
        abbrev bound_there : List RawEntry
        bound_there = read_entries b.place.spec.now.tokens b.place.window.now held.now

        is_read : read_spot b.place.spec.now.tokens b.place.window.now found ≡ Choice k (record { entries = bound_there }) arguments
        is_read =
            ap (read_spot b.place.spec.now.tokens b.place.window.now) (is ∙ ap (λ spots. spot.Choice k (record { entries = spots }) arguments) (sym holds))
            ∙ read_choice b.place.spec.now.tokens b.place.window.now k held.now arguments

        same : (taken.1.number ≡ k) × (taken.1.inner ≡ bound_there)
        same = choice_like taken.1.number k (record { entries = taken.1.inner }) (record { entries = bound_there }) [] arguments (sym is_choice ∙ is_read)

        result_is : IsBodyResult b.place.spec.now k bound_there
        result_is = subst (λ k. IsBodyResult b.place.spec.now k bound_there) same.0 (subst (IsBodyResult b.place.spec.now taken.1.number) same.1 taken.1.result)

        choice_is : (c : Constructor) → slice_get b.place.spec.now.constructors b.constructor.0 ≡ Some c → choice_of c (entries_of b) operand ≡ Some (Choice k (record { entries = bound_there }) [])
        choice_is c s =
            ap (λ (c : Constructor). choice_of c (entries_of b) operand) (sym (some_same (slice_get b.place.spec.now.constructors b.constructor.0) known c known_is s)) ∙ taken.1.chosen ∙ ap Some taken.1.is
            ∙ ap (λ (k : ConstructorId). Some (Choice k (record { entries = taken.1.inner }) [])) same.0 ∙ ap (λ es. Some (Choice k (record { entries = es }) [])) same.1

        pub is_chosen : IsChosen b operand (record { place = b.place; plans = b.plans; constructor = k; spots = held })
        is_chosen = record {
          bound = record { readable = w.readable; plans = w.plans; low = w.low; result = result_is };
          place = refl;
          earlier = subst (λ (k : ConstructorId). k.0 < b.constructor.0) same.0 taken.1.earlier;
          is = choice_is;
        }
