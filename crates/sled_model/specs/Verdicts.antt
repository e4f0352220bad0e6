-- What may be wrong with an arm among the arms of its statement.
use Rattle.std.specs.Prelude.{ℕ, ◌≡◌, ◌<◌, ◌⊎◌, List, length, Contains, Some, slice_get}
use Rattle.sled_model.specs.declared.raw.Match.{Match}
use Rattle.sled_model.specs.declared.spec.Spec.{Spec}
use Rattle.sled_model.specs.declared.statement.Arm.{Arm}
use Rattle.sled_model.specs.Results.{arm_results}
use Rattle.sled_model.specs.Encoding.{IsBytes, IsAtOrBefore}

-- arm k is clear; or an earlier arm has a result on these bytes, too; or arm k has two different results on these bytes
pub data Verdict : Type 0 where
  Clear : Verdict
  Shadowed : ℕ → List ℕ → Verdict
  Twofold : List ℕ → Verdict

-- arm k has the result on the bytes
pub record HasResult (spec : Spec) (arms : List Arm) (k : ℕ) (bytes : List ℕ) (a : Match) : Type 0 where
  pub are_bytes : IsBytes bytes
  pub arm : Arm
  pub there : slice_get arms k ≡ Some arm
  pub has : Contains (arm_results spec arm bytes 0) a

-- arms j and k both have a result on the bytes
pub record AreShared (spec : Spec) (arms : List Arm) (j k : ℕ) (bytes : List ℕ) : Type 0 where
  pub one : Match
  pub other : Match
  pub has_one : HasResult spec arms j bytes one
  pub has_other : HasResult spec arms k bytes other

-- two results are the same where they bind the same and are of one length
pub record AreSame (a b : Match) : Type 0 where
  pub binds : a.binds ≡ b.binds
  pub len : a.len ≡ b.len

-- arm k has two results on the bytes that are not the same
pub record AreTwofold (spec : Spec) (arms : List Arm) (k : ℕ) (bytes : List ℕ) : Type 0 where
  pub one : Match
  pub other : Match
  pub has_one : HasResult spec arms k bytes one
  pub has_other : HasResult spec arms k bytes other
  pub differ : AreSame one other → ⊥

-- the least bytes with the property: shorter ones first, and then in the order of bytes
pub record IsLeastWith (P : List ℕ → Type 0) (bytes : List ℕ) : Type 0 where
  pub has : P bytes
  pub least : (others : List ℕ) → P others → (length bytes < length others) ⊎ ((length bytes ≡ length others) × IsAtOrBefore bytes others)

-- no arm before arm j shares bytes with arm k
abbrev pub SharesNoneBefore : Spec → List Arm → ℕ → ℕ → Type 0
SharesNoneBefore spec arms j k = (i : ℕ) (bytes : List ℕ) → i < j → AreShared spec arms i k bytes → ⊥

-- the verdict on arm k
abbrev pub IsVerdict : Spec → List Arm → ℕ → Verdict → Type 0
IsVerdict spec arms k Clear = SharesNoneBefore spec arms k k × ((bytes : List ℕ) → AreTwofold spec arms k bytes → ⊥)
IsVerdict spec arms k (Shadowed j bytes) = (j < k) × (SharesNoneBefore spec arms j k × IsLeastWith (AreShared spec arms j k) bytes)
IsVerdict spec arms k (Twofold bytes) = SharesNoneBefore spec arms k k × IsLeastWith (AreTwofold spec arms k) bytes
