-- The first arm of a statement that has a result, and the values of its names.
use Rattle.std.specs.Prelude.{ℕ, ◌+◌, ◌==◌, List, [], ◌∷◌, slice_get, Option, Some, None, if◌then◌else◌}
use Rattle.std.specs.List.{filter_map}
use Rattle.std.specs.Option.{option_map_or}
use Rattle.std.specs.Str.{bytes_eq}
use Rattle.std.specs.Prelude.{Bool, false}
use Rattle.token_bits.specs.declared.tokens.FieldId.{FieldId}
use Rattle.sled_model.specs.declared.raw.Match.{Match}
use Rattle.sled_model.specs.declared.raw.RawEntry.{RawEntry}
use Rattle.sled_model.specs.declared.raw.RawEntry.TheVariants.{Value, Mark}
use Rattle.sled_model.specs.declared.spec.Spec.{Spec}
use Rattle.sled_model.specs.declared.statement.Arm.{Arm}
use Rattle.sled_model.specs.declared.statement.Statement.{Statement}
use Rattle.sled_model.specs.Results.{arm_results}

-- arm number k with the first of its results, where there is one, or else what a later arm gives
abbrev pub first_or : ℕ → List Match → Option (ℕ × Match) → Option (ℕ × Match)
first_or k [] later = later
first_or k (a ∷ more) later = Some (k, a)

-- the number of the first arm that has a result on the bytes, and its first result; the first of the list has number k
abbrev pub first_from : ℕ → Spec → List Arm → List ℕ → Option (ℕ × Match)
first_from k spec [] bytes = None
first_from k spec (arm ∷ arms) bytes = first_or k (arm_results spec arm bytes 0) (first_from (k + 1) spec arms bytes)

abbrev pub first : Spec → Statement → List ℕ → Option (ℕ × Match)
first spec statement bytes = first_from 0 spec statement.arms bytes

-- whether the field's name is spelled as this
abbrev pub is_named : Spec → FieldId → List ℕ → Bool
is_named spec f name = option_map_or (bytes_eq name) (slice_get spec.field_names f.0) false

-- the value that an entry gives to the arm's name number k, which is spelled so: that of the field of this name, or the address
-- of the label of this number in a match at the location. The names of an application's arguments come with instances.
abbrev pub entry_value : Spec → List ℕ → ℕ → ℕ → RawEntry → Option ℕ
entry_value spec name location k (Value f value at) = if is_named spec f name then Some value else None
entry_value spec name location k (Mark label at) = if label == k then Some (location + at) else None
entry_value spec name location k _ = None

-- the value of the arm's name number k in a result at the location
abbrev pub name_value : Spec → Arm → ℕ → List RawEntry → ℕ → Option ℕ
name_value spec arm location binds k = option_map_or (λ name. slice_get (filter_map (entry_value spec name location k) binds) 0) (slice_get arm.names k) None
