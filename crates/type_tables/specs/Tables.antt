-- What a table says of the types of a description.
use Rattle.std.specs.Prelude.{ℕ, ◌≡◌, ◌+◌, Bool, List, [], length, slice_get, sum_by, Some}
use Rattle.std.specs.List.{list_any}
use Rattle.sled_model.specs.declared.constructor.TypeId.{TypeId}
use Rattle.sled_model.specs.declared.constructor.OperandKind.{OperandKind}
use Rattle.sled_model.specs.declared.constructor.Constructor.{Constructor}
use Rattle.sled_model.specs.declared.pattern.Pattern.{Pattern}
use Rattle.sled_model.specs.declared.spec.Spec.{Spec}
use Rattle.sled_model.specs.Measures.{capped, each_from, weighed, weight, type_weight, operand_weight, sized, size, type_size, operand_size, number_size}
use Rattle.sled_model.specs.Shapes.{type_shapes, known_shapes, body_shapes}
use Rattle.pattern_shapes.specs.Forms.{SameMembers, IsOnce, IsFormOf}
use Rattle.type_tables.specs.declared.measures.Measures.{Measures}
use Rattle.type_tables.specs.declared.types.TypeEntry.{TypeEntry}
use Rattle.type_tables.specs.declared.table.TypeTable.{TypeTable}
use Rattle.type_tables.specs.Types.{is_of_type}

-- ---- types

-- whether a constructor of the description has an operand of type number t
abbrev pub is_used_type : Spec → ℕ → Bool
is_used_type spec t = list_any (λ (c : Constructor). list_any (is_of_type t) c.operands) spec.constructors

-- what the entry says of the type is so
pub record IsEntryOf (spec : Spec) (t : TypeId) (entry : TypeEntry) : Type 0 where
  pub weight : entry.weight ≡ capped (type_weight (each_from (weighed spec.tokens) [] spec.constructors) t)
  pub size : entry.size ≡ capped (type_size (each_from sized [] spec.constructors) t)
  pub shapes : SameMembers entry.shapes (type_shapes (known_shapes spec) t)
  pub once : IsOnce entry.shapes
  pub used : entry.used ≡ is_used_type spec t.0

-- the table has one entry for each type of the description, and what it says is so
pub record IsTableOf (spec : Spec) (table : TypeTable) : Type 0 where
  pub count : length table.types.items ≡ length spec.type_names
  pub entries : (t : TypeId) (entry : TypeEntry) → slice_get table.types.items t.0 ≡ Some entry → IsEntryOf spec t entry

-- ---- constructors

-- the weight of a body whose operands are of these kinds: `constructor_weight` of a constructor with them
abbrev pub body_weight : Spec → List OperandKind → Pattern → ℕ
body_weight spec kinds body =
    let known = each_from (weighed spec.tokens) [] spec.constructors in weight spec.tokens known (operand_weight known kinds) body

-- the size of a constructor with operands of these kinds, and this body: its `constructor_size`
abbrev pub body_size : Spec → List OperandKind → Pattern → ℕ
body_size spec kinds body =
    let known = each_from sized [] spec.constructors in 1 + sum_by number_size kinds + size known (operand_size known kinds) body

-- the measures are those of a constructor with operands of these kinds, and this body
pub record AreMeasures (spec : Spec) (kinds : List OperandKind) (body : Pattern) (measures : Measures) : Type 0 where
  pub form : IsFormOf (body_shapes spec.tokens (known_shapes spec) kinds) body measures.form
  pub weight : measures.weight ≡ capped (body_weight spec kinds body)
  pub size : measures.size ≡ capped (body_size spec kinds body)

-- the measures are the constructor's
abbrev pub AreMeasuresOf : Spec → Constructor → Measures → Type 0
AreMeasuresOf spec c measures = AreMeasures spec c.operands c.body measures
