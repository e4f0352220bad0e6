-- The weight, the size and the length of a pattern.
use Rattle.std.specs.Prelude.{ℕ, ◌+◌, ◌-◌, ◌*◌, ◌^◌, min, max, count_ones, if◌then◌else◌, List, [], ◌∷◌, ◌++◌, map, fold, sum, sum_by, slice_get, Option, Some, None, unwrap_or, option_and_then}
use Rattle.std.specs.Option.{option_map_or}
use Rattle.token_bits.specs.declared.tokens.ClassId.{ClassId}
use Rattle.token_bits.specs.declared.tokens.FieldId.{FieldId}
use Rattle.token_bits.specs.declared.tokens.Tokens.{Tokens}
use Rattle.sled_model.specs.declared.constructor.TypeId.{TypeId}
use Rattle.sled_model.specs.declared.constructor.OperandKind.{OperandKind}
use Rattle.sled_model.specs.declared.constructor.OperandKind.TheVariants.{Typed, Whole, Sliced}
use Rattle.sled_model.specs.declared.constructor.Constructor.{Constructor}
use Rattle.sled_model.specs.declared.spec.Spec.{Spec}
use Rattle.sled_model.specs.declared.pattern.Relation.{Relation}
use Rattle.sled_model.specs.declared.pattern.Relation.TheVariants.{Equal, Differs, Below, AtMost, Above, AtLeast}
use Rattle.sled_model.specs.declared.pattern.Argument.{Argument}
use Rattle.sled_model.specs.declared.pattern.Argument.TheVariants.{Inner'}
use Rattle.sled_model.specs.declared.pattern.Pattern.{Pattern, Row_of-Pattern, end_of-Pattern, more_of-Pattern, Row_of-Argument, end_of-Argument, more_of-Argument}
use Rattle.sled_model.specs.declared.pattern.Pattern.TheVariants.{Token, Limit, Bind, Operand, Label', Both', Either', Chain', Loose', Apply', Empty}
use Rattle.token_bits.specs.Tokens.{width_of, byte_count, token_len}
use Rattle.sled_model.specs.Results.{makes}

-- a measure of each constructor, in order, each over those before it
abbrev pub each_from : {A : Type 0} → (List A → Constructor → A) → List A → List Constructor → List A
each_from f known [] = known
each_from f known (c ∷ cs) = each_from f (known ++ f known c ∷ []) cs

-- the number of the one pattern in a box
abbrev pub boxed_number : List ℕ → ℕ
boxed_number [] = 0
boxed_number (n ∷ ns) = n

abbrev pub product : List ℕ → ℕ
product ns = fold (λ m n. m * n) 1 ns

abbrev pub greatest : List ℕ → ℕ
greatest ns = fold max 0 ns

-- a measure that is told: what is above a million counts as a million
abbrev pub capped : ℕ → ℕ
capped n = min 1000000 n

-- how many bits the field has
abbrev pub width_at : Tokens → FieldId → ℕ
width_at tokens f = option_map_or width_of (slice_get tokens.fields f.0) 0

-- ---- weight: as many conditions on single bits, joined by `and`, stand for the pattern at most

-- the weight of a relation of a field of w bits
abbrev pub limit_weight : ℕ → Relation → ℕ → ℕ
limit_weight w Equal limit = 1
limit_weight w Differs limit = w
limit_weight w Below limit = count_ones limit
limit_weight w AtMost limit = count_ones (limit + 1)
limit_weight w Above limit = count_ones (2 ^ w - 1 - limit)
limit_weight w AtLeast limit = count_ones (2 ^ w - limit)

-- a constructor, the weight of its body when each operand's weight is given, and its weight with those of the operands' types
pub record Weighed : Type 0 where
  pub constructor : Constructor
  pub body : (ℕ → ℕ) → ℕ
  pub weight : ℕ

-- a type has the weights of its constructors together
abbrev pub type_weight : List Weighed → TypeId → ℕ
type_weight known t = sum_by (λ c. if makes t c.constructor.result then c.weight else 0) known

abbrev pub kind_weight : List Weighed → OperandKind → ℕ
kind_weight known (Typed t) = type_weight known t
kind_weight known _ = 0

abbrev pub operand_weight : List Weighed → List OperandKind → ℕ → ℕ
operand_weight known kinds k = option_map_or (kind_weight known) (slice_get kinds k) 0

-- an application has the weight of the body, with each inner application's weight in place of its operand's
abbrev pub application_weight : List Weighed → ℕ → List (Option ℕ) → ℕ
application_weight known k arguments =
    option_map_or (λ c. c.body (λ j. unwrap_or (option_and_then (λ a. a) (slice_get arguments j)) (operand_weight known c.constructor.operands j))) (slice_get known k) 0

abbrev mutual
  -- the weight of a pattern, where the operands of the body that it stands in have these weights
  pub weight : Tokens → List Weighed → (ℕ → ℕ) → Pattern → ℕ
  weight tokens known operands (Limit f relation limit) = limit_weight (width_at tokens f) relation limit
  weight tokens known operands (Operand k) = operands k
  weight tokens known operands (Label' l s p) = boxed_number (row_weights tokens known operands p)
  weight tokens known operands (Both' s ps) = product (row_weights tokens known operands ps)
  weight tokens known operands (Either' s ps) = sum (row_weights tokens known operands ps)
  weight tokens known operands (Chain' s ps) = product (row_weights tokens known operands ps)
  weight tokens known operands (Loose' s p) = boxed_number (row_weights tokens known operands p)
  weight tokens known operands (Apply' k s arguments) = application_weight known k.0 (argument_weights tokens known operands arguments)
  weight tokens known operands _ = 1

  -- the weight of each pattern of a row
  pub row_weights : {n : _} → Tokens → List Weighed → (ℕ → ℕ) → Row_of-Pattern n → List ℕ
  row_weights tokens known operands end_of-Pattern = []
  row_weights tokens known operands (more_of-Pattern p ps) = weight tokens known operands p ∷ row_weights tokens known operands ps

  -- the weight of each argument that is an application
  pub argument_weights : {n : _} → Tokens → List Weighed → (ℕ → ℕ) → Row_of-Argument n → List (Option ℕ)
  argument_weights tokens known operands end_of-Argument = []
  argument_weights tokens known operands (more_of-Argument a arguments) = argument_weight tokens known operands a ∷ argument_weights tokens known operands arguments

  pub argument_weight : Tokens → List Weighed → (ℕ → ℕ) → Argument → Option ℕ
  argument_weight tokens known operands (Inner' s p) = Some (boxed_number (row_weights tokens known operands p))
  argument_weight tokens known operands _ = None

abbrev pub weighed : Tokens → List Weighed → Constructor → Weighed
weighed tokens known c =
    let body = λ (operands : ℕ → ℕ). weight tokens known operands c.body in
    record { constructor = c; body = body; weight = body (operand_weight known c.operands) }

-- the weight of a pattern that stands in no body
abbrev pub pattern_weight : Spec → Pattern → ℕ
pattern_weight spec p = weight spec.tokens (each_from (weighed spec.tokens) [] spec.constructors) (λ k. 0) p

-- the weight of a constructor's body, whose operands are of the types that the whole description makes
abbrev pub constructor_weight : Spec → Constructor → ℕ
constructor_weight spec c =
    let known = each_from (weighed spec.tokens) [] spec.constructors in weight spec.tokens known (operand_weight known c.operands) c.body

-- ---- size: a result of the pattern has at most so many entries, counted at each level

pub record Sized : Type 0 where
  pub constructor : Constructor
  pub size : ℕ

-- a type has the greatest size of its constructors
abbrev pub type_size : List Sized → TypeId → ℕ
type_size known t = greatest (map (λ (c : Sized). if makes t c.constructor.result then c.size else 0) known)

abbrev pub kind_size : List Sized → OperandKind → ℕ
kind_size known (Typed t) = type_size known t
kind_size known _ = 0

abbrev pub operand_size : List Sized → List OperandKind → ℕ → ℕ
operand_size known kinds k = option_map_or (kind_size known) (slice_get kinds k) 0

-- an application has the size of its constructor
abbrev pub application_size : List Sized → ℕ → ℕ
application_size known k = option_map_or (λ (c : Sized). c.size) (slice_get known k) 0

abbrev mutual
  -- the size of a pattern, where the operands of the body that it stands in have these sizes
  pub size : List Sized → (ℕ → ℕ) → Pattern → ℕ
  size known operands (Bind f) = 1
  size known operands (Operand k) = operands k
  size known operands (Label' l s p) = 1 + boxed_number (row_sizes known operands p)
  size known operands (Both' s ps) = sum (row_sizes known operands ps)
  size known operands (Either' s ps) = greatest (row_sizes known operands ps)
  size known operands (Chain' s ps) = sum (row_sizes known operands ps)
  size known operands (Loose' s p) = boxed_number (row_sizes known operands p)
  size known operands (Apply' k s arguments) = application_size known k.0
  size known operands _ = 0

  -- the size of each pattern of a row
  pub row_sizes : {n : _} → List Sized → (ℕ → ℕ) → Row_of-Pattern n → List ℕ
  row_sizes known operands end_of-Pattern = []
  row_sizes known operands (more_of-Pattern p ps) = size known operands p ∷ row_sizes known operands ps

-- whether an operand is a number that no field holds whole
abbrev pub number_size : OperandKind → ℕ
number_size Whole = 1
number_size Sliced = 1
number_size _ = 0

abbrev pub sized : List Sized → Constructor → Sized
sized known c = record { constructor = c; size = 1 + sum_by number_size c.operands + size known (operand_size known c.operands) c.body }

-- the size of a constructor, whose operands are of the types that the whole description makes
abbrev pub constructor_size : Spec → Constructor → ℕ
constructor_size spec c =
    let known = each_from sized [] spec.constructors in 1 + sum_by number_size c.operands + size known (operand_size known c.operands) c.body

-- the size of a pattern that stands in no body
abbrev pub pattern_size : Spec → Pattern → ℕ
pattern_size spec p = size (each_from sized [] spec.constructors) (λ k. 0) p

-- ---- length: no alternative of the pattern has more bytes

pub record Measured : Type 0 where
  pub constructor : Constructor
  pub len : ℕ

-- a type has the greatest length of its constructors
abbrev pub type_len : List Measured → TypeId → ℕ
type_len known t = greatest (map (λ (c : Measured). if makes t c.constructor.result then c.len else 0) known)

abbrev pub kind_len : List Measured → OperandKind → ℕ
kind_len known (Typed t) = type_len known t
kind_len known _ = 0

abbrev pub operand_len : List Measured → List OperandKind → ℕ → ℕ
operand_len known kinds k = option_map_or (kind_len known) (slice_get kinds k) 0

-- an application has the length of its constructor's body
abbrev pub application_len : List Measured → ℕ → ℕ
application_len known k = option_map_or (λ (c : Measured). c.len) (slice_get known k) 0

-- how many bytes a token of the class has
abbrev pub class_len : Tokens → ClassId → ℕ
class_len tokens c = option_map_or byte_count (slice_get tokens.classes c.0) 0

abbrev mutual
  -- the length of a pattern, where the operands of the body that it stands in have these lengths
  pub longest : Tokens → List Measured → (ℕ → ℕ) → Pattern → ℕ
  longest tokens known operands (Token c) = class_len tokens c
  longest tokens known operands (Limit f relation limit) = token_len tokens f
  longest tokens known operands (Bind f) = token_len tokens f
  longest tokens known operands (Operand k) = operands k
  longest tokens known operands (Label' l s p) = boxed_number (row_lens tokens known operands p)
  longest tokens known operands (Both' s ps) = greatest (row_lens tokens known operands ps)
  longest tokens known operands (Either' s ps) = greatest (row_lens tokens known operands ps)
  longest tokens known operands (Chain' s ps) = sum (row_lens tokens known operands ps)
  longest tokens known operands (Loose' s p) = boxed_number (row_lens tokens known operands p)
  longest tokens known operands (Apply' k s arguments) = application_len known k.0
  longest tokens known operands Empty = 0

  -- the length of each pattern of a row
  pub row_lens : {n : _} → Tokens → List Measured → (ℕ → ℕ) → Row_of-Pattern n → List ℕ
  row_lens tokens known operands end_of-Pattern = []
  row_lens tokens known operands (more_of-Pattern p ps) = longest tokens known operands p ∷ row_lens tokens known operands ps

abbrev pub measured : Tokens → List Measured → Constructor → Measured
measured tokens known c = record { constructor = c; len = longest tokens known (operand_len known c.operands) c.body }

-- the length of a pattern that stands in no body
abbrev pub pattern_len : Spec → Pattern → ℕ
pattern_len spec p = longest spec.tokens (each_from (measured spec.tokens) [] spec.constructors) (λ k. 0) p
