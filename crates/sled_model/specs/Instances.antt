-- What a result of a constructor's body means: the instance, with the value of each operand.
use Rattle.std.specs.Prelude.{ℕ, ◌+◌, ◌^◌, ◌≡◌, ◌==◌, true, List, [], ◌∷◌, Option, Some, None, slice_get, Contains, if◌then◌else◌, ℤ, pos, ◌-ℤ◌, ◌+ℤ◌}
use Rattle.std.specs.List.{filter_map}
use Rattle.std.specs.Option.{option_map_or}
use Rattle.token_bits.specs.declared.tokens.FieldId.{FieldId}
use Rattle.sled_model.specs.declared.constructor.ConstructorId.{ConstructorId}
use Rattle.sled_model.specs.declared.constructor.TypeId.{TypeId}
use Rattle.sled_model.specs.declared.constructor.OperandKind.{OperandKind}
use Rattle.sled_model.specs.declared.constructor.OperandKind.TheVariants.{Plain, Extended, Typed, Whole, Sliced}
use Rattle.sled_model.specs.declared.constructor.Constructor.{Constructor}
use Rattle.sled_model.specs.declared.instance.Instance.{Instance}
use Rattle.sled_model.specs.declared.instance.Operand.{Operand}
use Rattle.sled_model.specs.declared.instance.Operand.TheVariants.{Num, Place, Sub, Sub'}
use Rattle.sled_model.specs.declared.pattern.Argument.{Argument}
use Rattle.sled_model.specs.declared.pattern.Argument.TheVariants.{Name, Inner}
use Rattle.sled_model.specs.declared.pattern.Pattern.TheVariants.{Apply}
use Rattle.sled_model.specs.declared.raw.RawEntry.{RawEntry}
use Rattle.sled_model.specs.declared.raw.RawEntry.TheVariants.{Value, Mark, Choice}
use Rattle.sled_model.specs.declared.spec.Spec.{Spec}
use Rattle.sled_model.specs.declared.statement.Arm.{Arm}
use Rattle.sled_model.specs.Equations.{Setting, half_of, sign_extended, IsBetween, EachSatisfied}
use Rattle.sled_model.specs.Solutions.{setting_of}
use Rattle.sled_model.specs.Results.{choice_of}
use Rattle.sled_model.specs.First.{is_named}

-- ---- what a result read

-- the value that was read of the field of this number, where it was
abbrev pub field_read : ℕ → RawEntry → Option ℕ
field_read f (Value g value at) = if g.0 == f then Some value else None
field_read f _ = None

-- the offset at which the label of this number stands, where it does
abbrev pub label_read : ℕ → RawEntry → Option ℕ
label_read l (Mark label at) = if label == l then Some at else None
label_read l _ = None

abbrev pub first_or_zero : List ℕ → ℕ
first_or_zero [] = 0
first_or_zero (n ∷ ns) = n

-- the values of the fields that a body's entries hold, by their numbers
abbrev pub fields_in : List RawEntry → ℕ → ℤ
fields_in entries f = pos (first_or_zero (filter_map (field_read f) entries))

-- the addresses of the labels of a body, in a match at this location
abbrev pub labels_at : ℕ → List RawEntry → ℕ → ℤ
labels_at location entries l = pos (location + first_or_zero (filter_map (label_read l) entries))

-- ---- numbers

abbrev pub operand_number : Operand → ℤ
operand_number (Num n) = n
operand_number _ = pos 0

-- the numbers of the operands, by theirs; 0 where an operand is none
abbrev pub numbers_of : List Operand → ℕ → ℤ
numbers_of operands k = option_map_or operand_number (slice_get operands k) (pos 0)

-- a whole operand is from -2 ^ 34 to 2 ^ 34 - 1, a sliced one from 0 to 2 ^ 32 - 1
abbrev pub IsWholeNumber : ℤ → Type 0
IsWholeNumber n = IsBetween (pos 0 -ℤ pos (2 ^ 34)) (pos (2 ^ 34)) n

abbrev pub IsSlicedNumber : ℤ → Type 0
IsSlicedNumber n = IsBetween (pos 0) (pos (2 ^ 32)) n

-- ---- meaning

mutual
  -- at the location, the entries of a constructor's body mean the instance
  pub data Means : Spec → ℕ → List RawEntry → Instance → Type 0 where
    means : {spec : Spec} {location : ℕ} {entries : List RawEntry} {i : Instance} (c : Constructor)
        → slice_get spec.constructors i.constructor.0 ≡ Some c
        → OperandsMean spec location c entries 0 c.operands i.operands
        → EachSatisfied (setting_of spec.tokens (numbers_of i.operands) (labels_at location entries)) (fields_in entries) c.equations
        → Means spec location entries i

  -- the same of its operands from number j on: a plain one is its field's value, an extended one that value with its sign extended, a typed
  -- one is what the choice for it means, and a whole or sliced one is a number in its range
  pub data OperandsMean : Spec → ℕ → Constructor → List RawEntry → ℕ → List OperandKind → List Operand → Type 0 where
    no_more : {spec : Spec} {location : ℕ} {c : Constructor} {entries : List RawEntry} {j : ℕ} → OperandsMean spec location c entries j [] []
    plain : {spec : Spec} {location : ℕ} {c : Constructor} {entries : List RawEntry} {j : ℕ} {f : FieldId} {kinds : List OperandKind} {operands : List Operand} (value at : ℕ)
        → Contains entries (Value f value at)
        → OperandsMean spec location c entries (j + 1) kinds operands
        → OperandsMean spec location c entries j (Plain f ∷ kinds) (Num (pos value) ∷ operands)
    extended : {spec : Spec} {location : ℕ} {c : Constructor} {entries : List RawEntry} {j : ℕ} {f : FieldId} {kinds : List OperandKind} {operands : List Operand} (value at : ℕ)
        → Contains entries (Value f value at)
        → OperandsMean spec location c entries (j + 1) kinds operands
        → OperandsMean spec location c entries j (Extended f ∷ kinds) (Num (sign_extended (half_of spec.tokens f.0) (pos value)) ∷ operands)
    typed : {spec : Spec} {location : ℕ} {c : Constructor} {entries : List RawEntry} {j : ℕ} {t : TypeId} {kinds : List OperandKind} {operands : List Operand} (i : Instance) (inner : List RawEntry)
        → choice_of c entries j ≡ Some (Choice i.constructor (record { entries = inner }) [])
        → Means spec location inner i
        → OperandsMean spec location c entries (j + 1) kinds operands
        → OperandsMean spec location c entries j (Typed t ∷ kinds) (Sub i ∷ operands)
    whole : {spec : Spec} {location : ℕ} {c : Constructor} {entries : List RawEntry} {j : ℕ} {n : ℤ} {kinds : List OperandKind} {operands : List Operand}
        → IsWholeNumber n
        → OperandsMean spec location c entries (j + 1) kinds operands
        → OperandsMean spec location c entries j (Whole ∷ kinds) (Num n ∷ operands)
    sliced : {spec : Spec} {location : ℕ} {c : Constructor} {entries : List RawEntry} {j : ℕ} {n : ℤ} {kinds : List OperandKind} {operands : List Operand}
        → IsSlicedNumber n
        → OperandsMean spec location c entries (j + 1) kinds operands
        → OperandsMean spec location c entries j (Sliced ∷ kinds) (Num n ∷ operands)

-- ---- the names of an arm

-- the argument that is the name of this number stands for the operand, here or inside an inner application
pub data ArgumentNames : ℕ → List Argument → List Operand → Operand → Type 0 where
  here : {k : ℕ} {arguments : List Argument} {o : Operand} {operands : List Operand} → ArgumentNames k (Name k ∷ arguments) (o ∷ operands) o
  later : {k : ℕ} {a : Argument} {arguments : List Argument} {o p : Operand} {operands : List Operand}
      → ArgumentNames k arguments operands o → ArgumentNames k (a ∷ arguments) (p ∷ operands) o
  inside : {k : ℕ} {inner arguments : List Argument} {o : Operand} {operands : List Operand} (c : ConstructorId) (i : Instance)
      → ArgumentNames k inner i.operands o → ArgumentNames k (Inner (Apply c inner) ∷ arguments) (Sub i ∷ operands) o

-- what the arm's name of this number stands for in a result at a location: the value of the field that is spelled so, the address of the
-- label, or the operand that an argument names, of the instance that the application means
pub data NameMeans : Spec → Arm → ℕ → List RawEntry → ℕ → Operand → Type 0 where
  field : {spec : Spec} {arm : Arm} {location k : ℕ} {entries : List RawEntry} {f : FieldId} (value at : ℕ) (name : List ℕ)
      → Contains entries (Value f value at) → slice_get arm.names k ≡ Some name → is_named spec f name ≡ true → NameMeans spec arm location entries k (Num (pos value))
  label : {spec : Spec} {arm : Arm} {location k : ℕ} {entries : List RawEntry} (at : ℕ)
      → Contains entries (Mark k at) → NameMeans spec arm location entries k (Num (pos (location + at)))
  argument : {spec : Spec} {arm : Arm} {location k : ℕ} {entries : List RawEntry} {o : Operand} (i : Instance) (inner : List RawEntry) (arguments : List Argument)
      → Contains entries (Choice i.constructor (record { entries = inner }) arguments) → Means spec location inner i
      → ArgumentNames k arguments i.operands o → NameMeans spec arm location entries k o
