-- What a table says of the constructors of a description.
use Rattle.std.specs.Prelude.{ℕ, ◌≡◌, List, [], ◌∷◌, ◌++◌, length, map, get_or}
use Rattle.sled_model.specs.declared.constructor.TypeId.{TypeId}
use Rattle.sled_model.specs.declared.constructor.OperandKind.{OperandKind}
use Rattle.sled_model.specs.declared.constructor.OperandKind.TheVariants.{Typed}
use Rattle.sled_model.specs.declared.constructor.Constructor.{Constructor}
use Rattle.sled_model.specs.declared.spec.Spec.{Spec}
use Rattle.sled_model.specs.Measures.{Sized, Measured, capped, each_from, sized, measured, type_len}
use Rattle.type_tables.specs.Tables.{IsTableOf}
use Rattle.application_measures.specs.declared.table.ApplicationTable.{ApplicationTable}

-- the length of the operand's type, where these are the lengths of the types
abbrev pub len_in : List ℕ → OperandKind → ℕ
len_in lens (Typed t) = get_or lens t.0 0
len_in lens _ = 0

-- each constructor of the description with its size, and with its length
abbrev pub sizes_of : Spec → List Sized
sizes_of spec = each_from sized [] spec.constructors

abbrev pub lens_of : Spec → List Measured
lens_of spec = each_from (measured spec.tokens) [] spec.constructors

-- the table has the types of the description, and the size and the length of each constructor
pub record IsApplicationTableOf (spec : Spec) (table : ApplicationTable) : Type 0 where
  pub types : IsTableOf spec table.types
  pub sizes : table.sizes ≡ map (λ (c : Sized). capped c.size) (sizes_of spec)
  pub lens : table.lens ≡ map (λ (c : Measured). capped c.len) (lens_of spec)
  pub count : length table.type_lens ≡ length spec.type_names
  pub type_lens : (t : TypeId) → get_or table.type_lens t.0 0 ≡ capped (type_len (lens_of spec) t)

-- the description without its constructors
abbrev pub with_types : Spec → Spec
with_types spec = record spec { constructors = []; constructor_names = [] }

-- the description with one constructor more
abbrev pub with_constructor : Spec → Constructor → Spec
with_constructor spec c = record spec { constructors = spec.constructors ++ c ∷ []; constructor_names = spec.constructor_names ++ c.name ∷ [] }
