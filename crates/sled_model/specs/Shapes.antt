-- The shapes of a pattern, one for each alternative, and what the language asks of them.
use Rattle.std.specs.Prelude.{ℕ, ◌==◌, nat_le, nat_lt, Bool, true, false, ◌&&◌, ◌||◌, List, [], ◌∷◌, ◌++◌, length, map, fold, sum, slice_get, Option, Some, None, unwrap_or, option_and_then, if◌then◌else◌}
use Rattle.std.specs.List.{flat_map, list_all}
use Rattle.std.specs.Option.{option_map_or}
use Rattle.token_bits.specs.declared.tokens.ClassId.{ClassId}
use Rattle.token_bits.specs.declared.tokens.Field.{Field}
use Rattle.token_bits.specs.declared.tokens.FieldId.{FieldId}
use Rattle.token_bits.specs.declared.tokens.Tokens.{Tokens}
use Rattle.sled_model.specs.declared.shape.Shape.{Shape}
use Rattle.sled_model.specs.declared.constructor.TypeId.{TypeId}
use Rattle.sled_model.specs.declared.constructor.OperandKind.{OperandKind}
use Rattle.sled_model.specs.declared.constructor.OperandKind.TheVariants.{Typed}
use Rattle.sled_model.specs.declared.constructor.Constructor.{Constructor}
use Rattle.sled_model.specs.declared.spec.Spec.{Spec}
use Rattle.sled_model.specs.declared.pattern.Argument.{Argument}
use Rattle.sled_model.specs.declared.pattern.Argument.TheVariants.{Inner'}
use Rattle.sled_model.specs.declared.pattern.Pattern.{Pattern, Row_of-Pattern, end_of-Pattern, more_of-Pattern, Row_of-Argument, end_of-Argument, more_of-Argument}
use Rattle.sled_model.specs.declared.pattern.Pattern.TheVariants.{Token, Limit, Bind, Operand, Label', Both', Either', Chain', Loose', Apply', Empty}
use Rattle.token_bits.specs.Tokens.{byte_count}
use Rattle.sled_model.specs.Results.{makes}
use Rattle.sled_model.specs.Measures.{each_from}

-- ---- lists of shapes

-- the one shape of these classes that is not loose
abbrev pub rigid : List ClassId → List Shape
rigid classes = record { classes = classes; loose = false } ∷ []

-- the shape of a token of the field's class
abbrev pub field_shapes : Tokens → FieldId → List Shape
field_shapes tokens f = option_map_or (λ (field : Field). rigid (field.class ∷ [])) (slice_get tokens.fields f.0) []

-- a, made loose
abbrev pub loose_shape : Shape → Shape
loose_shape a = record { classes = a.classes; loose = true }

-- b, where a ends
abbrev pub chain_shape : Shape → Shape → Shape
chain_shape a b = record { classes = a.classes ++ b.classes; loose = b.loose }

-- a and b at one place: the longer, loose where both are
abbrev pub both_shape : Shape → Shape → Shape
both_shape a b = record { classes = if nat_lt (length a.classes) (length b.classes) then b.classes else a.classes; loose = a.loose && b.loose }

-- each of the one with each of the other
abbrev pub each_with : (Shape → Shape → Shape) → List Shape → List Shape → List Shape
each_with op ss ts = flat_map (λ a. map (op a) ts) ss

-- the shapes under one operator, folded from the left
abbrev pub fold_shapes : (Shape → Shape → Shape) → List (List Shape) → List Shape
fold_shapes op [] = []
fold_shapes op (ss ∷ rest) = fold (each_with op) ss rest

-- the shapes of the one pattern in a box
abbrev pub boxed_shapes : List (List Shape) → List Shape
boxed_shapes [] = []
boxed_shapes (ss ∷ rest) = ss

-- ---- constructors

-- a constructor, the shapes of its body when those of each operand are given, and its shapes with those of the operands' types
pub record Shaped : Type 0 where
  pub constructor : Constructor
  pub body : (ℕ → List Shape) → List Shape
  pub shapes : List Shape

-- what a pattern stands among: the operands are those of the constructor whose body it is, and have these shapes
pub record ShapeContext : Type 0 where
  pub tokens : Tokens
  pub operands : ℕ → List Shape
  pub known : List Shaped

-- a type has the shapes of its constructors, one after the other
abbrev pub type_shapes : List Shaped → TypeId → List Shape
type_shapes known t = flat_map (λ (c : Shaped). if makes t c.constructor.result then c.shapes else []) known

abbrev pub kind_shapes : List Shaped → OperandKind → List Shape
kind_shapes known (Typed t) = type_shapes known t
kind_shapes known _ = []

abbrev pub operand_shapes : List Shaped → List OperandKind → ℕ → List Shape
operand_shapes known kinds k = option_map_or (kind_shapes known) (slice_get kinds k) []

-- an application has the shapes of the body, with those of each inner application in place of its operand's
abbrev pub application_shapes : List Shaped → ℕ → List (Option (List Shape)) → List Shape
application_shapes known k arguments =
    option_map_or (λ (c : Shaped). c.body (λ j. unwrap_or (option_and_then (λ a. a) (slice_get arguments j)) (operand_shapes known c.constructor.operands j))) (slice_get known k) []

-- ---- patterns

abbrev mutual
  -- the shapes of a pattern
  pub shapes : ShapeContext → Pattern → List Shape
  shapes cx (Token c) = rigid (c ∷ [])
  shapes cx (Limit f relation limit) = field_shapes cx.tokens f
  shapes cx (Bind f) = field_shapes cx.tokens f
  shapes cx (Operand k) = cx.operands k
  shapes cx (Label' l s p) = boxed_shapes (row_shapes cx p)
  shapes cx (Both' s ps) = fold_shapes both_shape (row_shapes cx ps)
  shapes cx (Either' s ps) = flat_map (λ ss. ss) (row_shapes cx ps)
  shapes cx (Chain' s ps) = fold_shapes chain_shape (row_shapes cx ps)
  shapes cx (Loose' s p) = map loose_shape (boxed_shapes (row_shapes cx p))
  shapes cx (Apply' k s arguments) = application_shapes cx.known k.0 (argument_shapes cx arguments)
  shapes cx Empty = rigid []

  -- the shapes of each pattern of a row
  pub row_shapes : {n : _} → ShapeContext → Row_of-Pattern n → List (List Shape)
  row_shapes cx end_of-Pattern = []
  row_shapes cx (more_of-Pattern p ps) = shapes cx p ∷ row_shapes cx ps

  -- the shapes of each argument that is an application
  pub argument_shapes : {n : _} → ShapeContext → Row_of-Argument n → List (Option (List Shape))
  argument_shapes cx end_of-Argument = []
  argument_shapes cx (more_of-Argument a arguments) = shapes_of_argument cx a ∷ argument_shapes cx arguments

  pub shapes_of_argument : ShapeContext → Argument → Option (List Shape)
  shapes_of_argument cx (Inner' s p) = Some (boxed_shapes (row_shapes cx p))
  shapes_of_argument cx _ = None

-- what a pattern stands among where there are no constructors
abbrev pub lone_shapes : Tokens → ShapeContext
lone_shapes tokens = record { tokens = tokens; operands = λ k. []; known = [] }

-- what a constructor's body stands among, with operands of these kinds, over those that are known
abbrev pub body_shapes : Tokens → List Shaped → List OperandKind → ShapeContext
body_shapes tokens known kinds = record { tokens = tokens; operands = operand_shapes known kinds; known = known }

abbrev pub shaped : Tokens → List Shaped → Constructor → Shaped
shaped tokens known c =
    let body = λ (operands : ℕ → List Shape). shapes (record { tokens = tokens; operands = operands; known = known }) c.body in
    record { constructor = c; body = body; shapes = body (operand_shapes known c.operands) }

-- the constructors of the description, with their shapes
abbrev pub known_shapes : Spec → List Shaped
known_shapes spec = each_from (shaped spec.tokens) [] spec.constructors

-- what a pattern that stands in no body stands among
abbrev pub spec_shapes : Spec → ShapeContext
spec_shapes spec = record { tokens = spec.tokens; operands = λ k. []; known = known_shapes spec }

-- ---- conjunctions

-- the first list of classes is a front of the second
abbrev pub is_front : List ClassId → List ClassId → Bool
is_front [] ds = true
is_front (c ∷ cs) [] = false
is_front (c ∷ cs) (d ∷ ds) = (c.0 == d.0) && is_front cs ds

-- the two lists of classes are equal
abbrev pub are_same_classes : List ClassId → List ClassId → Bool
are_same_classes [] [] = true
are_same_classes (c ∷ cs) (d ∷ ds) = (c.0 == d.0) && are_same_classes cs ds
are_same_classes _ _ = false

-- the shapes agree: two that are not loose are equal, a loose one is a front of one that is not, and of two loose ones one is a
-- front of the other
abbrev pub shapes_agree : Shape → Shape → Bool
shapes_agree a b =
    if a.loose then (if b.loose then is_front a.classes b.classes || is_front b.classes a.classes else is_front a.classes b.classes)
    else (if b.loose then is_front b.classes a.classes else are_same_classes a.classes b.classes)

-- each of the one agrees with each of the other
abbrev pub all_agree : List Shape → List Shape → Bool
all_agree ss ts = list_all (λ a. list_all (shapes_agree a) ts) ss

-- each side of a conjunction agrees with all before it, taken together
abbrev pub sides_agree : List Shape → List (List Shape) → Bool
sides_agree ss [] = true
sides_agree ss (ts ∷ rest) = all_agree ss ts && sides_agree (each_with both_shape ss ts) rest

abbrev pub members_agree : List (List Shape) → Bool
members_agree [] = true
members_agree (ss ∷ rest) = sides_agree ss rest

abbrev mutual
  -- in each conjunction in the pattern, every alternative of one side agrees with every alternative of the other; what an application
  -- names was asked where it was declared, and has nothing more to ask
  pub conjunctions_agree : ShapeContext → Pattern → Bool
  conjunctions_agree cx (Label' l s p) = row_agrees cx p
  conjunctions_agree cx (Both' s ps) = row_agrees cx ps && members_agree (row_shapes cx ps)
  conjunctions_agree cx (Either' s ps) = row_agrees cx ps
  conjunctions_agree cx (Chain' s ps) = row_agrees cx ps
  conjunctions_agree cx (Loose' s p) = row_agrees cx p
  conjunctions_agree cx _ = true

  pub row_agrees : {n : _} → ShapeContext → Row_of-Pattern n → Bool
  row_agrees cx end_of-Pattern = true
  row_agrees cx (more_of-Pattern p ps) = conjunctions_agree cx p && row_agrees cx ps

-- ---- chains

-- none of the shapes is loose
abbrev pub are_closed : List Shape → Bool
are_closed ss = list_all (λ (a : Shape). if a.loose then false else true) ss

-- none but the last is loose in any alternative
abbrev pub lefts_are_closed : List (List Shape) → Bool
lefts_are_closed [] = true
lefts_are_closed (ss ∷ []) = true
lefts_are_closed (ss ∷ ts ∷ rest) = are_closed ss && lefts_are_closed (ts ∷ rest)

abbrev mutual
  -- in each chain in the pattern, what stands before a `;` is loose in no alternative
  pub chains_are_closed : ShapeContext → Pattern → Bool
  chains_are_closed cx (Label' l s p) = row_is_closed cx p
  chains_are_closed cx (Both' s ps) = row_is_closed cx ps
  chains_are_closed cx (Either' s ps) = row_is_closed cx ps
  chains_are_closed cx (Chain' s ps) = row_is_closed cx ps && lefts_are_closed (row_shapes cx ps)
  chains_are_closed cx (Loose' s p) = row_is_closed cx p
  chains_are_closed cx _ = true

  pub row_is_closed : {n : _} → ShapeContext → Row_of-Pattern n → Bool
  row_is_closed cx end_of-Pattern = true
  row_is_closed cx (more_of-Pattern p ps) = chains_are_closed cx p && row_is_closed cx ps

-- ---- disjunctions

abbrev pub are_same_bool : Bool → Bool → Bool
are_same_bool true b = b
are_same_bool false b = if b then false else true

abbrev pub is_same_shape : Shape → Shape → Bool
is_same_shape a b = are_same_classes a.classes b.classes && are_same_bool a.loose b.loose

-- all of the shapes are one
abbrev pub are_one_shape : List Shape → Bool
are_one_shape [] = true
are_one_shape (a ∷ ss) = list_all (is_same_shape a) ss

abbrev mutual
  -- in each disjunction in the pattern, all alternatives have one shape
  pub sides_have_one_shape : ShapeContext → Pattern → Bool
  sides_have_one_shape cx (Label' l s p) = row_has_one_shape cx p
  sides_have_one_shape cx (Both' s ps) = row_has_one_shape cx ps
  sides_have_one_shape cx (Either' s ps) = row_has_one_shape cx ps && are_one_shape (flat_map (λ ss. ss) (row_shapes cx ps))
  sides_have_one_shape cx (Chain' s ps) = row_has_one_shape cx ps
  sides_have_one_shape cx (Loose' s p) = row_has_one_shape cx p
  sides_have_one_shape cx _ = true

  pub row_has_one_shape : {n : _} → ShapeContext → Row_of-Pattern n → Bool
  row_has_one_shape cx end_of-Pattern = true
  row_has_one_shape cx (more_of-Pattern p ps) = sides_have_one_shape cx p && row_has_one_shape cx ps

-- ---- lengths

-- how many bytes a token of the class has
abbrev pub class_bytes : Tokens → ClassId → ℕ
class_bytes tokens c = option_map_or byte_count (slice_get tokens.classes c.0) 0

-- how many bytes an alternative of this shape has
abbrev pub shape_bytes : Tokens → Shape → ℕ
shape_bytes tokens a = sum (map (class_bytes tokens) a.classes)

-- every alternative has so many bytes at least, and so many at most
abbrev pub lengths_within : ℕ → ℕ → Tokens → List Shape → Bool
lengths_within least most tokens ss = list_all (λ a. nat_le least (shape_bytes tokens a) && nat_le (shape_bytes tokens a) most) ss
