-- The instance that a result of a constructor's body means.
use Rattle.std.specs.Prelude.{ℕ, ◌+◌, ◌≡◌, ◌≤◌, true, List, [], All, Contains, slice_get, Some}
use Rattle.sled_model.specs.declared.constructor.ConstructorId.{ConstructorId}
use Rattle.sled_model.specs.declared.instance.Instance.{Instance}
use Rattle.sled_model.specs.declared.raw.Match.{Match}
use Rattle.sled_model.specs.declared.raw.RawEntry.{RawEntry}
use Rattle.sled_model.specs.declared.spec.Spec.{Spec}
use Rattle.sled_model.specs.Instances.{Means}
use Rattle.sled_model.specs.Kinds.{admits}
use Rattle.sled_model.specs.Results.{Known, known_from}
use Rattle.asm_text.specs.Writable.{HasNoPlace}

-- the entries are what a result of the body of constructor number k binds, at an offset of some bytes, within the first 32
pub record IsBodyResult (spec : Spec) (k : ConstructorId) (entries : List RawEntry) : Type 0 where
  pub known : Known
  pub declared : slice_get (known_from spec.tokens [] spec.constructors) k.0 ≡ Some known
  pub bytes : List ℕ
  pub offset : ℕ
  pub found : Match
  pub among : Contains (known.body bytes offset) found
  pub ends : offset + found.len ≤ 32
  pub binds : found.binds ≡ entries

-- at the location, the entries of the body of constructor number k mean the instance
pub record IsMeant (spec : Spec) (location : ℕ) (k : ConstructorId) (entries : List RawEntry) (i : Instance) : Type 0 where
  pub of : i.constructor ≡ k
  pub meaning : Means spec location entries i

-- so they do, and mean no other; the description admits it, and no operand, at any level, is the address of a label
pub record IsOnlyMeant (spec : Spec) (location : ℕ) (k : ConstructorId) (entries : List RawEntry) (i : Instance) : Type 0 where
  pub meant : IsMeant spec location k entries i
  pub only : (other : Instance) → IsMeant spec location k entries other → other ≡ i
  pub admitted : admits spec i ≡ true
  pub placeless : All HasNoPlace i.operands
