-- What the entries of a body hold.
use Rattle.std.specs.Prelude.{ℕ, ◌≡◌, ◌==◌, ◌<◌, ◌+◌, if◌then◌else◌, List, length, filter, slice_get, position, Option, Some, None, option_and_then, ℤ, pos}
use Rattle.std.specs.List.{filter_map}
use Rattle.sled_model.specs.declared.raw.RawEntry.{RawEntry}
use Rattle.sled_model.specs.declared.raw.RawEntry.TheVariants.{Value}
use Rattle.sled_model.specs.Instances.{labels_at, first_or_zero}
use Rattle.sled_model.specs.Results.{is_choice}
use Rattle.pattern_normal.specs.declared.skeleton.Spot.{Spot}
use Rattle.pattern_normal.specs.declared.skeleton.Spot.TheVariants.{Mark}
use Rattle.pattern_normal.specs.Skeletons.{is_choice_spot}
use Rattle.eq_solver.specs.Sums.{at}

-- the value of a field, where the entry is one
abbrev pub value_read : RawEntry → Option ℤ
value_read (Value f value at) = Some (pos value)
value_read _ = None

-- the values of fields, in order
abbrev pub values_read : List RawEntry → List ℤ
values_read entries = filter_map value_read entries

-- the addresses of the first n labels, in order
pub record AreAddresses (location : ℕ) (entries : List RawEntry) (n : ℕ) (addresses : List ℤ) : Type 0 where
  pub one_each : length addresses ≡ n
  pub each : (l : ℕ) → l < n → at addresses l ≡ labels_at location entries l

-- where the operand stands first
abbrev pub place_among : List ℕ → ℕ → Option ℕ
place_among standing operand = position (λ j. j == operand) standing

-- the choice for the operand, where these stand in the body
abbrev pub chosen_by : List ℕ → List RawEntry → ℕ → Option RawEntry
chosen_by standing entries operand = option_and_then (slice_get (filter is_choice entries)) (place_among standing operand)

-- the offset of this label, where the spot is one of it
abbrev pub spot_label : ℕ → Spot → Option ℕ
spot_label l (Mark m at) = if m == l then Some at else None
spot_label l _ = None

-- the addresses of the first n labels that stand among the spots, in order
pub record AreSpotAddresses (location : ℕ) (spots : List Spot) (n : ℕ) (addresses : List ℤ) : Type 0 where
  pub one_each : length addresses ≡ n
  pub each : (l : ℕ) → l < n → at addresses l ≡ pos (location + first_or_zero (filter_map (spot_label l) spots))

-- the spot of the choice for the operand, where these stand in the body
abbrev pub chosen_spot : List ℕ → List Spot → ℕ → Option Spot
chosen_spot standing spots operand = option_and_then (slice_get (filter is_choice_spot spots)) (place_among standing operand)
