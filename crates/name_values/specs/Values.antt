-- The values of an arm's names, and what they are read from.
use Rattle.std.specs.Prelude.{ℕ, ◌≡◌, List, length, All, Option, Some, None}
use Rattle.sled_model.specs.declared.instance.Instance.{Instance}
use Rattle.sled_model.specs.declared.instance.Operand.{Operand}
use Rattle.sled_model.specs.declared.raw.RawEntry.{RawEntry, items-the_row-RawEntry}
use Rattle.sled_model.specs.declared.raw.RawEntry.TheVariants.{Choice'}
use Rattle.sled_model.specs.declared.spec.Spec.{Spec}
use Rattle.pattern_normal.specs.declared.skeleton.Spot.{Spot}
use Rattle.pattern_normal.specs.Skeletons.{read_spot, read_entries}
use Rattle.asm_text.specs.Writable.{HasNoPlace, IsAdmitted}
use Rattle.match_meaning.specs.Names.{AreNameValues}
use Rattle.instance_reading.specs.Reading.{IsBodyResult, IsMeant}
use Rattle.instance_reading.specs.declared.place.Place.{Place}

-- what a spot binds there, with its value
abbrev pub entry_at : Place → Spot → RawEntry
entry_at place spot = read_spot place.spec.now.tokens place.window.now spot

abbrev pub entries_at : Place → List Spot → List RawEntry
entries_at place spots = read_entries place.spec.now.tokens place.window.now spots

-- where the entry is a choice, its entries are those of a result of its constructor's body
abbrev pub IsBodyChoice : Spec → RawEntry → Type 0
IsBodyChoice spec (Choice' c s inner arguments) = IsBodyResult spec c (items-the_row-RawEntry _ inner)
IsBodyChoice spec _ = Unit {0}

-- where the entry is a choice, it means this instance at the location
abbrev pub IsReadAs : Spec → ℕ → RawEntry → Option Instance → Type 0
IsReadAs spec location (Choice' c s inner arguments) (Some i) = IsMeant spec location c (items-the_row-RawEntry _ inner) i
IsReadAs spec location (Choice' c s inner arguments) None = ⊥
IsReadAs spec location _ o = Unit {0}

-- The values of the names in a result at the location that binds these entries, and no others are. Each is a number, or an instance
-- that the description admits, and none is the address of a label, at any level.
pub record AreOnlyNameValues (spec : Spec) (location : ℕ) (entries : List RawEntry) (names : List (List ℕ)) (values : List Operand) : Type 0 where
  pub are : AreNameValues spec location entries 0 names values
  pub only : (others : List Operand) → AreNameValues spec location entries 0 names others → others ≡ values
  pub whole : length values ≡ length names
  pub admitted : All (IsAdmitted spec) values
  pub placeless : All HasNoPlace values
