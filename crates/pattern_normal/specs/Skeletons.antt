-- What a skeleton binds in a window.
use Rattle.std.specs.Prelude.{ℕ, Bool, true, false, List, [], ◌∷◌, map, unwrap_or}
use Rattle.token_bits.specs.declared.tokens.Tokens.{Tokens}
use Rattle.sled_model.specs.declared.raw.Raw.{Raw}
use Rattle.sled_model.specs.declared.raw.RawEntry.{RawEntry}
use Rattle.sled_model.specs.declared.raw.RawEntry.TheVariants as raw
use Rattle.token_bits.specs.Tokens.{value_at}
use Rattle.pattern_normal.specs.declared.skeleton.Skeleton.{Skeleton}
use Rattle.pattern_normal.specs.declared.skeleton.Spot.{Spot, Row_of-Spot, end_of-Spot, more_of-Spot}
use Rattle.pattern_normal.specs.declared.skeleton.Spot.TheVariants.{Value, Mark, Choice'}

abbrev mutual
  -- the entry with its value in the window, which is 0 where the field is not known or its token is not there
  pub read_spot : Tokens → List ℕ → Spot → RawEntry
  read_spot tokens window (Value f at) = raw.Value f (unwrap_or (value_at tokens f window at) 0) at
  read_spot tokens window (Mark l at) = raw.Mark l at
  read_spot tokens window (Choice' k s inner arguments) = raw.Choice k (record { entries = read_row tokens window inner }) arguments

  pub read_row : {n : _} → Tokens → List ℕ → Row_of-Spot n → List RawEntry
  read_row tokens window end_of-Spot = []
  read_row tokens window (more_of-Spot spot spots) = read_spot tokens window spot ∷ read_row tokens window spots

abbrev pub read_entries : Tokens → List ℕ → List Spot → List RawEntry
read_entries tokens window spots = map (read_spot tokens window) spots

abbrev pub read_skeleton : Tokens → List ℕ → Skeleton → Raw
read_skeleton tokens window skeleton = record { entries = read_entries tokens window skeleton.entries }

-- whether a spot is a choice
abbrev pub is_choice_spot : Spot → Bool
is_choice_spot (Choice' k s inner arguments) = true
is_choice_spot _ = false
