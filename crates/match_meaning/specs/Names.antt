-- What the names of an arm stand for in a result.
use Rattle.std.specs.Prelude.{ℕ, ◌+◌, ◌≡◌, ◌==◌, List, [], ◌∷◌, Option, Some, None, slice_get, if◌then◌else◌, pos}
use Rattle.std.specs.Option.{option_or}
use Rattle.sled_model.specs.declared.instance.Instance.{Instance}
use Rattle.sled_model.specs.declared.instance.Operand.{Operand, Row_of-Instance, end_of-Instance, more_of-Instance, items-the_row-Operand}
use Rattle.sled_model.specs.declared.instance.Operand.TheVariants.{Num, Sub'}
use Rattle.sled_model.specs.declared.pattern.Argument.{Argument}
use Rattle.sled_model.specs.declared.pattern.Argument.TheVariants.{Name, Inner'}
use Rattle.sled_model.specs.declared.pattern.Pattern.{Pattern, Row_of-Pattern, end_of-Pattern, more_of-Pattern, Row_of-Argument, end_of-Argument, more_of-Argument}
use Rattle.sled_model.specs.declared.pattern.Pattern.TheVariants.{Apply, Apply'}
use Rattle.sled_model.specs.declared.raw.RawEntry.{RawEntry, items-the_row-RawEntry}
use Rattle.sled_model.specs.declared.raw.RawEntry.TheVariants.{Value, Mark, Choice'}
use Rattle.sled_model.specs.declared.spec.Spec.{Spec}
use Rattle.sled_model.specs.First.{is_named}
use Rattle.sled_model.specs.Instances.{Means}

-- ---- arguments

-- the operands of the instance in a box
abbrev pub row_operands : {n : _} → Row_of-Instance n → List Operand
row_operands end_of-Instance = []
row_operands (more_of-Instance k s operands none) = items-the_row-Operand _ operands

-- the operands of the operand, where it is an instance
abbrev pub inner_operands : Option Operand → List Operand
inner_operands (Some (Sub' s i)) = row_operands i
inner_operands _ = []

abbrev mutual
  -- the operand that arguments give the name of this number, here or inside an inner application: the first, where there is one. The
  -- first of the arguments stands for operand number j.
  pub named_among : {n : _} → ℕ → List Operand → ℕ → Row_of-Argument n → Option Operand
  named_among k operands j end_of-Argument = None
  named_among k operands j (more_of-Argument a arguments) = option_or (named_by k (slice_get operands j) a) (named_among k operands (j + 1) arguments)

  -- what one argument gives the name, where it stands for this operand
  pub named_by : ℕ → Option Operand → Argument → Option Operand
  named_by k o (Name j) = if j == k then o else None
  named_by k o (Inner' s p) = named_in_box k (inner_operands o) p
  named_by k o _ = None

  pub named_in_box : {n : _} → ℕ → List Operand → Row_of-Pattern n → Option Operand
  named_in_box k operands end_of-Pattern = None
  named_in_box k operands (more_of-Pattern p ps) = named_in k operands p

  -- what an inner application gives the name, where its instance has these operands
  pub named_in : ℕ → List Operand → Pattern → Option Operand
  named_in k operands (Apply' c s arguments) = named_among k operands 0 arguments
  named_in k operands _ = None

-- the operand that the arguments of an application give the name of this number
abbrev pub argument_value : ℕ → List Argument → List Operand → Option Operand
argument_value k arguments operands = named_in k operands (Apply (record { 0 = 0 }) arguments)

-- ---- entries

-- What an entry gives the arm's name number k, which is spelled so: the value of the field of this name, the address of the label of this
-- number in a match at the location, or the operand that an argument names, of the instance that the application means.
abbrev pub Gives : Spec → ℕ → List ℕ → ℕ → RawEntry → Option Operand → Type 0
Gives spec location name k (Value f value at) given = given ≡ (if is_named spec f name then Some (Num (pos value)) else None)
Gives spec location name k (Mark label at) given = given ≡ (if label == k then Some (Num (pos (location + at))) else None)
Gives spec location name k (Choice' c s inner arguments) given =
    (i : Instance) × (i.constructor ≡ c) × Means spec location (items-the_row-RawEntry _ inner) i × (given ≡ argument_value k arguments i.operands)

-- the value that was given, or else one that a later entry gives
abbrev pub IsGivenOr : Option Operand → (Operand → Type 0) → Operand → Type 0
IsGivenOr None later value = later value
IsGivenOr (Some o) later value = value ≡ o

-- The value of the arm's name number k, which is spelled so, in a result at the location that binds these entries: the first that an
-- entry gives. A name that no entry gives a value, of which an accepted arm has none, is 0.
abbrev pub IsNameValue : Spec → ℕ → List ℕ → ℕ → List RawEntry → Operand → Type 0
IsNameValue spec location name k [] value = value ≡ Num (pos 0)
IsNameValue spec location name k (entry ∷ entries) value =
    (given : Option Operand) × Gives spec location name k entry given × IsGivenOr given (IsNameValue spec location name k entries) value

-- the values of the names, the first of which has number k
abbrev pub AreNameValues : Spec → ℕ → List RawEntry → ℕ → List (List ℕ) → List Operand → Type 0
AreNameValues spec location entries k [] [] = Unit {0}
AreNameValues spec location entries k (name ∷ names) (value ∷ values) =
    IsNameValue spec location name k entries value × AreNameValues spec location entries (k + 1) names values
AreNameValues spec location entries k _ _ = ⊥
