-- What is kept of one type, and of types that follow one another.
use Rattle.std.specs.Prelude.{ℕ, ◌≡◌, ◌+◌, ◌++◌, ◌==◌, max, Bool, true, false, ◌||◌, List, [], length, slice_get, Option, Some, None}
use Rattle.std.specs.List.{list_any}
use Rattle.std.specs.Option.{option_map_or}
use Rattle.sled_model.specs.declared.shape.Shape.{Shape}
use Rattle.sled_model.specs.declared.constructor.TypeId.{TypeId}
use Rattle.sled_model.specs.declared.constructor.OperandKind.{OperandKind}
use Rattle.sled_model.specs.declared.constructor.OperandKind.TheVariants.{Typed}
use Rattle.sled_model.specs.Measures.{capped}
use Rattle.sled_model.specs.Results.{makes}
use Rattle.pattern_shapes.specs.Forms.{SameMembers, IsOnce}
use Rattle.type_tables.specs.declared.measures.Measures.{Measures}
use Rattle.type_tables.specs.declared.types.TypeEntry.{TypeEntry}

-- ---- what is kept of the type of an operand

-- the entry of its type, where it is of one that is there
abbrev pub entry_in : List TypeEntry → OperandKind → Option TypeEntry
entry_in types (Typed t) = slice_get types t.0
entry_in types _ = None

abbrev pub weight_in : List TypeEntry → OperandKind → ℕ
weight_in types kind = option_map_or (λ (entry : TypeEntry). entry.weight) (entry_in types kind) 0

abbrev pub size_in : List TypeEntry → OperandKind → ℕ
size_in types kind = option_map_or (λ (entry : TypeEntry). entry.size) (entry_in types kind) 0

abbrev pub shapes_in : List TypeEntry → OperandKind → List Shape
shapes_in types kind = option_map_or (λ (entry : TypeEntry). entry.shapes) (entry_in types kind) []

-- ---- one constructor more

-- whether the operand is of type number t
abbrev pub is_of_type : ℕ → OperandKind → Bool
is_of_type t (Typed id) = id.0 == t
is_of_type t _ = false

-- the entry of type number t, where there are these operands too
abbrev pub with_uses : ℕ → List OperandKind → TypeEntry → TypeEntry
with_uses t kinds entry = record { weight = entry.weight; size = entry.size; shapes = entry.shapes; used = entry.used || list_any (is_of_type t) kinds }

-- the entry of a type, before and after one of its constructors is added
pub record GainsConstructor (measures : Measures) (old new : TypeEntry) : Type 0 where
  pub weight : new.weight ≡ capped (old.weight + measures.weight)
  pub size : new.size ≡ max old.size measures.size
  pub shapes : SameMembers new.shapes (old.shapes ++ measures.form.shapes)
  pub once : IsOnce old.shapes → IsOnce new.shapes
  pub used : new.used ≡ old.used

-- the entry of a type, before and after a constructor with this result is added
pub record GainsMade (made : Option TypeId) (measures : Measures) (t : TypeId) (old new : TypeEntry) : Type 0 where
  pub its : makes t made ≡ true → GainsConstructor measures old new
  pub other : makes t made ≡ false → new ≡ old

-- each type, before and after a constructor with this result is added
pub record GainMade (made : Option TypeId) (measures : Measures) (olds news : List TypeEntry) : Type 0 where
  pub count : length news ≡ length olds
  pub each : (t : TypeId) (old new : TypeEntry) → slice_get olds t.0 ≡ Some old → slice_get news t.0 ≡ Some new → GainsMade made measures t old new
