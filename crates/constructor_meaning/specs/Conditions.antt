-- What the declaration of a constructor has to meet, in the order of the conditions' numbers.
use Rattle.std.specs.Prelude.{ℕ, Bool, ◌&&◌, nat_le, List, [], ◌∷◌, ◌++◌, is_some, if◌then◌else◌}
use Rattle.std.specs.List.{list_all}
use Rattle.sled_model.specs.declared.constructor.OperandKind.{OperandKind}
use Rattle.sled_model.specs.declared.pattern.Pattern.{Pattern}
use Rattle.sled_model.specs.declared.spec.Spec.{Spec}
use Rattle.sled_model.specs.Shapes.{ShapeContext, body_shapes, known_shapes, shapes, conjunctions_agree, chains_are_closed, are_closed, sides_have_one_shape, lengths_within}
use Rattle.tree_meaning.specs.declared.parts.Site.TheVariants as site
use Rattle.tree_meaning.specs.Parts.{are_known, numbers_fit, generates_nothing, labels}
use Rattle.tree_meaning.specs.Bindings.{bound, binds_once, sides_bind_nothing}
use Rattle.tree_meaning.specs.Scopes.{Declared}
use Rattle.type_tables.specs.Tables.{body_weight, body_size}
use Rattle.operand_meaning.specs.Operands.{operand_kinds, operands_are_known, equations_are_known}
use Rattle.operand_meaning.specs.Standing.{names_stand}
use Rattle.operand_meaning.specs.Limits.{are_within_limits}
use Rattle.constructor_scopes.specs.Bodies.{with_operands, bodies_of}
use Rattle.constructor_scopes.specs.Makings.{makings}
use Rattle.constructor_scopes.specs.Names.{made_names, have_new_names, have_local_names}
use Rattle.constructor_meaning.specs.Constructing.{Constructing}
use Rattle.constructor_meaning.specs.Results.{result_is_open}

-- the scope of the body, where a group that is the opcode stands for itself
abbrev pub body_scope : Declared → Constructing → Declared
body_scope declared c = with_operands declared c.operands

-- the bodies of the constructors that the declaration makes
abbrev pub bodies : Declared → Constructing → List Pattern
bodies declared c = bodies_of (body_scope declared c) c.opcode (labels c.body) c.body (makings declared c.opcode)

abbrev pub kinds : Declared → Constructing → List OperandKind
kinds declared c = operand_kinds declared c.equations c.operands

-- what the bodies stand among
abbrev pub shape_context : Spec → Declared → Constructing → ShapeContext
shape_context spec declared c = body_shapes spec.tokens (known_shapes spec) (kinds declared c)

-- condition 1, names are declared once: those of the constructors, the type's, and those of operands and labels
abbrev pub names_are_declared_once : Spec → Declared → Constructing → Bool
names_are_declared_once spec declared c =
    have_new_names spec (made_names (makings declared c.opcode)) && have_local_names declared c.operands c.body && result_is_open spec declared c.operands c.result

-- Condition 2, names are known: those of the operands, in the equations and in the body. An application stands in no body.
-- Over `fields of b (8) x 0:7`, `c(x) is x` meets it, `c(x) is y` and `c(t : u) is t` do not.
abbrev pub names_are_known : Declared → Constructing → Bool
names_are_known declared c =
    operands_are_known declared c.equations c.operands && equations_are_known declared (labels c.body) c.operands c.equations
    && are_known site.Body (body_scope declared c) c.body

-- condition 7 of a body: it has no loose end besides. `c(x) is x` meets it, `c(x) is x ...` does not.
abbrev pub is_closed_body : ShapeContext → Pattern → Bool
is_closed_body cx p = chains_are_closed cx p && are_closed (shapes cx p)

-- those on what stands in the body, in the scope of its operands
abbrev pub part_conditions : Spec → Declared → Constructing → List (ℕ × Bool)
part_conditions spec declared c =
    (2, are_known site.Body (body_scope declared c) c.body)
    ∷ (4, numbers_fit spec.tokens (body_scope declared c) c.body)
    ∷ (5, generates_nothing c.body)
    ∷ []

-- the conditions on names and numbers
abbrev pub naming_conditions : Spec → Declared → Constructing → List (ℕ × Bool)
naming_conditions spec declared c =
    (1, names_are_declared_once spec declared c)
    ∷ (2, names_are_known declared c)
    ∷ (4, numbers_fit spec.tokens (body_scope declared c) c.body)
    ∷ (5, generates_nothing c.body)
    ∷ []

-- The conditions on what the bodies are made of, and on what they bind: in a body the sides of a disjunction bind nothing and have one shape
-- (condition 8), and no name is bound twice in an alternative (condition 9).
abbrev pub forming_conditions : ShapeContext → Declared → Constructing → List Pattern → List (ℕ × Bool)
forming_conditions cx declared c ps =
    (6, list_all (conjunctions_agree cx) ps)
    ∷ (7, list_all (is_closed_body cx) ps)
    ∷ (8, sides_bind_nothing (body_scope declared c) c.body && list_all (sides_have_one_shape cx) ps)
    ∷ (9, binds_once (body_scope declared c) c.body)
    ∷ []

-- the conditions on operands and equations
abbrev pub standing_conditions : Declared → Constructing → List (ℕ × Bool)
standing_conditions declared c =
    (10, names_stand declared (bound (body_scope declared c) c.body) (labels c.body) c.operands c.equations)
    ∷ (11, are_within_limits declared c.operands c.equations)
    ∷ []

-- what is asked before the equations are solved
abbrev pub conditions : Spec → Declared → Constructing → List (ℕ × Bool)
conditions spec declared c =
    naming_conditions spec declared c
    ++ (forming_conditions (shape_context spec declared c) declared c (bodies declared c) ++ standing_conditions declared c)

-- ---- after the equations

-- a constructor of a type may have no bytes, one of an instruction has some
abbrev pub least_length : Bool → ℕ
least_length typed = if typed then 0 else 1

-- condition 15: the weight is at most 4,096, and the size at most 256
abbrev pub is_small : Spec → List OperandKind → Pattern → Bool
is_small spec ks p = nat_le (body_weight spec ks p) 4096 && nat_le (body_size spec ks p) 256

-- Condition 14, lengths: each alternative of a body has at most 32 bytes, and of an instruction's at least one.
-- `c() : t is epsilon` meets it, `c() is epsilon` does not.
abbrev pub measure_conditions : Spec → Declared → Constructing → List Pattern → List (ℕ × Bool)
measure_conditions spec declared c ps =
    (14, list_all (λ p. lengths_within (least_length (is_some c.result)) 32 spec.tokens (shapes (shape_context spec declared c) p)) ps)
    ∷ (15, list_all (is_small spec (kinds declared c)) ps)
    ∷ []
