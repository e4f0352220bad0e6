-- The constructors of a declaration, and the description that has them.
use Rattle.std.specs.Prelude.{ℕ, List, [], ◌∷◌, ◌++◌, map, length, Option, Some, None, unwrap_or, is_some, if◌then◌else◌}
use Rattle.sled_model.specs.declared.constructor.Constructor.{Constructor}
use Rattle.sled_model.specs.declared.constructor.TypeId.{TypeId}
use Rattle.sled_model.specs.declared.pattern.Pattern.{Pattern}
use Rattle.sled_model.specs.declared.spec.Spec.{Spec}
use Rattle.tree_meaning.specs.declared.scope.Meaning.TheVariants as meaning
use Rattle.tree_meaning.specs.Parts.{labels}
use Rattle.tree_meaning.specs.Scopes.{Declared, type_named}
use Rattle.operand_meaning.specs.Equations.{equations_of}
use Rattle.operand_meaning.specs.Operands.{operand_names}
use Rattle.constructor_scopes.specs.Bodies.{body_of}
use Rattle.constructor_scopes.specs.Makings.{Made, makings}
use Rattle.constructor_meaning.specs.Conditions.{body_scope, kinds}
use Rattle.constructor_meaning.specs.Constructing.{Constructing}

-- ---- types

-- the number of the next type
abbrev pub next_type : Spec → TypeId
next_type spec = record { 0 = length spec.type_names }

-- the type that the constructors make, where one is written: the declared type of that name, or else the next one
abbrev pub result_type : Spec → Declared → Option (List ℕ) → Option TypeId
result_type spec declared None = None
result_type spec declared (Some t) = Some (unwrap_or (type_named declared t) (next_type spec))

-- the name of the type that is declared by the way: of the one that is written, where its name stands for no type yet
abbrev pub new_type : Declared → Option (List ℕ) → Option (List ℕ)
new_type declared None = None
new_type declared (Some t) = if is_some (type_named declared t) then None else Some t

-- with that type
abbrev pub with_new_type : Spec → Option (List ℕ) → Spec
with_new_type spec None = spec
with_new_type spec (Some t) = record spec { type_names = spec.type_names ++ t ∷ [] }

-- and with its name
abbrev pub naming_new_type : Spec → Declared → Option (List ℕ) → Declared
naming_new_type spec declared None = declared
naming_new_type spec declared (Some t) = record declared { names = declared.names ++ t ∷ []; meanings = declared.meanings ++ meaning.Type (next_type spec) ∷ [] }

-- the description with the type that is written
abbrev pub with_type : Spec → Declared → Option (List ℕ) → Spec
with_type spec declared result = with_new_type spec (new_type declared result)

-- the names with its name
abbrev pub naming_type : Spec → Declared → Option (List ℕ) → Declared
naming_type spec declared result = naming_new_type spec declared (new_type declared result)

-- ---- constructors

-- the constructor of this name and this body, which makes this type, or none
abbrev pub constructor_with : Declared → Constructing → Option TypeId → List ℕ → Pattern → Constructor
constructor_with declared c result name body = record {
  name = name;
  result = result;
  operands = kinds declared c;
  names = operand_names c.operands;
  equations = equations_of declared (labels c.body) c.operands c.equations;
  body = body;
}

-- a constructor that the declaration makes
abbrev pub constructor_of : Spec → Declared → Constructing → Made → Constructor
constructor_of spec declared c m =
    constructor_with declared c (result_type spec declared c.result) m.name (body_of (body_scope declared c) c.opcode (labels c.body) c.body m)

-- those that it makes, in order
abbrev pub constructors_of : Spec → Declared → Constructing → List Constructor
constructors_of spec declared c = map (constructor_of spec declared c) (makings declared c.opcode)

-- one for each name, with the body beside it
abbrev pub each_with : Declared → Constructing → Option TypeId → List (List ℕ) → List Pattern → List Constructor
each_with declared c result (n ∷ ns) (p ∷ ps) = constructor_with declared c result n p ∷ each_with declared c result ns ps
each_with declared c result _ _ = []

-- ---- the description

-- with these constructors besides
abbrev pub with_constructors : Spec → List Constructor → Spec
with_constructors spec cs = record spec {
  constructors = spec.constructors ++ cs;
  constructor_names = spec.constructor_names ++ map (λ (c : Constructor). c.name) cs;
}

-- the description with what was declared
abbrev pub built_spec : Spec → Declared → Constructing → Spec
built_spec spec declared c = with_constructors (with_type spec declared c.result) (constructors_of spec declared c)

-- and the names: a constructor's is none of them
abbrev pub built_declared : Spec → Declared → Constructing → Declared
built_declared spec declared c = naming_type spec declared c.result
