-- What the first arm with a result takes at a place.
use Rattle.std.specs.Prelude.{ℕ, ◌≡◌, List, Option, Some, None, slice_get}
use Rattle.sled_model.specs.declared.instance.Operand.{Operand}
use Rattle.sled_model.specs.declared.raw.Match.{Match}
use Rattle.sled_model.specs.declared.spec.Spec.{Spec}
use Rattle.sled_model.specs.declared.statement.Arm.{Arm}
use Rattle.sled_model.specs.declared.statement.Statement.{Statement}
use Rattle.sled_model.specs.First.{first}
use Rattle.match_meaning.specs.Names.{AreNameValues}

-- the number of an arm, how many bytes it takes, and the values of its names, in order
pub record ArmMatch : Type 0 where
  pub arm : ℕ
  pub len : ℕ
  pub values : List Operand

-- by the first arm that has a result, and its first result
abbrev pub IsMatchBy : Spec → Statement → ℕ → Option (ℕ × Match) → Option ArmMatch → Type 0
IsMatchBy spec statement location None taken = taken ≡ None
IsMatchBy spec statement location (Some (k, m)) taken =
    (arm : Arm) × (slice_get statement.arms k ≡ Some arm)
    × (values : List Operand) × AreNameValues spec location m.binds 0 arm.names values
    × (taken ≡ Some (record { arm = k; len = m.len; values = values }))

-- what the first arm with a result on the bytes takes at the location, or that there is none
abbrev pub IsMatchAt : Spec → Statement → ℕ → List ℕ → Option ArmMatch → Type 0
IsMatchAt spec statement location bytes taken = IsMatchBy spec statement location (first spec statement bytes) taken
