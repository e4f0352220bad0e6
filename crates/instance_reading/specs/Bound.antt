-- What the body of a constructor bound, as a program holds it.
use Rattle.std.specs.Prelude.{ℕ, ◌^◌, ◌≡◌, ◌<◌, List, [], slice_get, Some}
use Rattle.sled_model.specs.declared.constructor.OperandKind.{OperandKind}
use Rattle.sled_model.specs.declared.constructor.Constructor.{Constructor}
use Rattle.sled_model.specs.declared.raw.RawEntry.{RawEntry}
use Rattle.sled_model.specs.declared.raw.RawEntry.TheVariants.{Choice}
use Rattle.sled_model.specs.Results.{choice_of}
use Rattle.pattern_normal.specs.Skeletons.{read_entries}
use Rattle.match_meaning.specs.Readable.{IsReadableSpec}
use Rattle.instance_reading.specs.declared.bound.Bound.{Bound}
use Rattle.instance_reading.specs.Plans.{ArePlansOf}
use Rattle.instance_reading.specs.Reading.{IsBodyResult}

-- what was bound, with the values in the window
abbrev pub entries_of : Bound → List RawEntry
entries_of b = read_entries b.place.spec.now.tokens b.place.window.now b.spots.now

-- the entries are a result of the constructor's body, in a description that can be read, and the plans are those of the description
pub record IsBound (b : Bound) : Type 0 where
  pub readable : IsReadableSpec b.place.spec.now
  pub plans : ArePlansOf b.place.spec.now b.plans.now
  pub low : b.place.location < 2 ^ 32
  pub result : IsBodyResult b.place.spec.now b.constructor (entries_of b)

-- so it is of the constructor
abbrev pub IfDeclared : Bound → (Constructor → Type 0) → Type 0
IfDeclared b P = (c : Constructor) → slice_get b.place.spec.now.constructors b.constructor.0 ≡ Some c → P c

-- the operand of this number is of the kind
abbrev pub IsKindAt : Bound → ℕ → OperandKind → Type 0
IsKindAt b operand kind = IfDeclared b (λ c. slice_get c.operands operand ≡ Some kind)

-- what the body bound that was chosen for the operand: that of a constructor declared before
pub record IsChosen (b : Bound) (operand : ℕ) (inner : Bound) : Type 0 where
  pub bound : IsBound inner
  pub place : inner.place ≡ b.place
  pub earlier : inner.constructor.0 < b.constructor.0
  pub is : IfDeclared b (λ c. choice_of c (entries_of b) operand ≡ Some (Choice inner.constructor (record { entries = entries_of inner }) []))
