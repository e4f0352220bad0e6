-- An entry that is a choice: what it is of, and what it gives a name.
use Rattle.std.proofs.Common.{◌≡◌, ℕ, List, Option, Some, refl, sym, ap, subst, ◌∙◌}
use Rattle.sled_model.specs.declared.constructor.ConstructorId.{ConstructorId}
use Rattle.sled_model.specs.declared.instance.Instance.{Instance}
use Rattle.sled_model.specs.declared.instance.Operand.{Operand}
use Rattle.sled_model.specs.declared.pattern.Argument.{Argument}
use Rattle.sled_model.specs.declared.raw.Raw.{Raw}
use Rattle.sled_model.specs.declared.raw.RawEntry.{RawEntry, items_hidden-the_row-RawEntry-0}
use Rattle.sled_model.specs.declared.raw.RawEntry.TheVariants.{Choice}
use Rattle.sled_model.specs.declared.spec.Spec.{Spec}
use Rattle.pattern_normal.specs.declared.skeleton.Skeleton.{Skeleton}
use Rattle.pattern_normal.specs.declared.skeleton.Spot.{Spot}
use Rattle.pattern_normal.specs.declared.skeleton.Spot.TheVariants as spot
use Rattle.pattern_normal.proofs.SkeletonLaws.{read_choice}
use Rattle.match_meaning.specs.Names.{Gives}
use Rattle.instance_reading.specs.Reading.{IsBodyResult, IsMeant}
use Rattle.name_values.specs.Arguments.{named_from}
use Rattle.instance_reading.specs.declared.place.Place.{Place}
use Rattle.name_values.specs.Values.{entry_at, entries_at, IsBodyChoice, IsReadAs}
use Rattle.name_values.proofs.NamedLaws.{named_in-Apply}

module _ (spec : Spec) (c : ConstructorId) (inner : Raw) (arguments : List Argument) where
  body_of_choice : IsBodyChoice spec (Choice c inner arguments) → IsBodyResult spec c inner.entries
  body_of_choice h = subst (IsBodyResult spec c) (items_hidden-the_row-RawEntry-0 inner.entries) h

  choice_read : (location : ℕ) (i : Instance) → IsMeant spec location c inner.entries i → IsReadAs spec location (Choice c inner arguments) (Some i)
  choice_read location i h = subst (λ entries. IsMeant spec location c entries i) (sym (items_hidden-the_row-RawEntry-0 inner.entries)) h

  choice_gives : (location : ℕ) (name : List ℕ) (k : ℕ) (entry : RawEntry) (i : Instance) (given : Option Operand) → entry ≡ Choice c inner arguments → IsReadAs spec location entry (Some i)
      → given ≡ named_from k i.operands 0 arguments → Gives spec location name k entry given
  choice_gives location name k entry i given is read same =
      subst (λ e. Gives spec location name k e given) (sym is)
      (let h = subst (λ e. IsReadAs spec location e (Some i)) is read in (i, h.of, h.meaning, same ∙ sym (named_in-Apply k i.operands (record { 0 = 0 }) arguments)))

-- ---- spots

module _ (place : Place) (c : ConstructorId) (inner : Skeleton) (arguments : List Argument) where
  read_is : (held : List Spot) (s : Spot) → s ≡ spot.Choice c inner arguments → held ≡ inner.entries → entry_at place s ≡ Choice c (record { entries = entries_at place held }) arguments
  read_is held s is holds =
      ap (entry_at place) (is ∙ ap (λ spots. spot.Choice c (record { entries = spots }) arguments) (sym holds)) ∙ read_choice place.spec.now.tokens place.window.now c held arguments

  pub body_of_spot : (held : List Spot) (s : Spot) → s ≡ spot.Choice c inner arguments → held ≡ inner.entries → IsBodyChoice place.spec.now (entry_at place s) → IsBodyResult place.spec.now c (entries_at place held)
  body_of_spot held s is holds h =
      body_of_choice place.spec.now c (record { entries = entries_at place held }) arguments (subst (IsBodyChoice place.spec.now) (read_is held s is holds) h)

  pub spot_read : (held : List Spot) (s : Spot) (i : Instance) → s ≡ spot.Choice c inner arguments → held ≡ inner.entries → IsMeant place.spec.now place.location c (entries_at place held) i
      → IsReadAs place.spec.now place.location (entry_at place s) (Some i)
  spot_read held s i is holds h =
      subst (λ e. IsReadAs place.spec.now place.location e (Some i)) (sym (read_is held s is holds)) (choice_read place.spec.now c (record { entries = entries_at place held }) arguments place.location i h)

  pub spot_gives : (s : Spot) (name : List ℕ) (k : ℕ) (i : Instance) (given : Option Operand) → s ≡ spot.Choice c inner arguments → IsReadAs place.spec.now place.location (entry_at place s) (Some i)
      → given ≡ named_from k i.operands 0 arguments → Gives place.spec.now place.location name k (entry_at place s) given
  spot_gives s name k i given is read same =
      choice_gives place.spec.now c (record { entries = entries_at place inner.entries }) arguments place.location name k (entry_at place s) i given (read_is inner.entries s is refl) read same
