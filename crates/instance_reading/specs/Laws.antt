-- The law of what results of bodies mean.
use Rattle.std.specs.Prelude.{ℕ, ◌^◌, ◌<◌, List}
use Rattle.sled_model.specs.declared.constructor.ConstructorId.{ConstructorId}
use Rattle.sled_model.specs.declared.instance.Instance.{Instance}
use Rattle.sled_model.specs.declared.raw.RawEntry.{RawEntry}
use Rattle.sled_model.specs.declared.spec.Spec.{Spec}
use Rattle.match_meaning.specs.Readable.{IsReadableSpec}
use Rattle.instance_reading.specs.Reading.{IsBodyResult, IsOnlyMeant}

-- in a description whose instances can be read, each result of a constructor's body means one instance at each location
abbrev pub OneInstance : Type 0
OneInstance = (spec : Spec) (location : ℕ) (k : ConstructorId) (entries : List RawEntry) → IsReadableSpec spec → location < 2 ^ 32 → IsBodyResult spec k entries
    → (i : Instance) × IsOnlyMeant spec location k entries i
