-- What stands at a place by a statement: how many bytes it takes, and its text.
use Rattle.std.specs.Prelude.{ℕ, ◌^◌, ◌≡◌, ◌<◌, min, List, ◌++◌, length, slice_get, codes, decimal, Option, None, Some, option_map}
use Rattle.sled_model.specs.declared.spec.Spec.{Spec}
use Rattle.sled_model.specs.declared.statement.Arm.{Arm}
use Rattle.sled_model.specs.declared.statement.Statement.{Statement}
use Rattle.asm_text.specs.Actions.{action_text}
use Rattle.match_meaning.specs.Taken.{ArmMatch, IsMatchAt}
use Rattle.image_listing.specs.Listing.{Taking}

-- a skip takes so many bytes, or those that are left
abbrev pub skip_taken : List ℕ → ℕ → ℕ × List ℕ
skip_taken bytes n = (min n (length bytes), codes ".skip " ++ decimal (min n (length bytes)))

-- a result of the arm takes its bytes, and its text is the arm's action with the values of the names
abbrev pub arm_taken : Spec → ArmMatch → Arm → ℕ × List ℕ
arm_taken spec m arm = (m.len, action_text spec arm m.values)

-- what the first arm with a result takes, or else the skip, where there is one
abbrev pub taken_by : Spec → Statement → List ℕ → Option ArmMatch → Option (ℕ × List ℕ)
taken_by spec statement bytes None = option_map (skip_taken bytes) statement.skip
taken_by spec statement bytes (Some m) = option_map (arm_taken spec m) (slice_get statement.arms m.arm)

-- what stands at the place, where these bytes are left, or that nothing does
abbrev pub IsTakenAt : Spec → Statement → ℕ → List ℕ → Option (ℕ × List ℕ) → Type 0
IsTakenAt spec statement place bytes taken = (m : Option ArmMatch) × IsMatchAt spec statement place bytes m × (taken ≡ taken_by spec statement bytes m)

-- what the taking says of each place that has an address is what stands there by the statement
abbrev pub IsTakingOf : Spec → Statement → Taking → Type 0
IsTakingOf spec statement taking = (place : ℕ) (bytes : List ℕ) → place < 2 ^ 32 → IsTakenAt spec statement place bytes (taking place bytes)
