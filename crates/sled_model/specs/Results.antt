-- What a pattern means at a place of a list of bytes: its results, in order.
use Rattle.std.specs.Prelude.{ℕ, ◌+◌, max, nat_le, nat_lt, ◌==◌, Bool, true, false, not, ◌&&◌, List, [], ◌∷◌, ◌++◌, map, filter, fold, slice_get, position, Option, Some, None, option_and_then, if◌then◌else◌}
use Rattle.std.specs.List.{flat_map}
use Rattle.token_bits.specs.declared.tokens.ClassId.{ClassId}
use Rattle.token_bits.specs.declared.tokens.FieldId.{FieldId}
use Rattle.token_bits.specs.declared.tokens.Tokens.{Tokens}
use Rattle.sled_model.specs.declared.constructor.TypeId.{TypeId}
use Rattle.sled_model.specs.declared.constructor.OperandKind.{OperandKind}
use Rattle.sled_model.specs.declared.constructor.OperandKind.TheVariants.{Typed}
use Rattle.sled_model.specs.declared.constructor.Constructor.{Constructor}
use Rattle.sled_model.specs.declared.raw.Match.{Match}
use Rattle.sled_model.specs.declared.raw.RawEntry.{RawEntry, items-the_row-RawEntry}
use Rattle.sled_model.specs.declared.raw.RawEntry.TheVariants.{Value, Mark, Choice, Choice'}
use Rattle.sled_model.specs.declared.spec.Spec.{Spec}
use Rattle.sled_model.specs.declared.statement.Arm.{Arm}
use Rattle.sled_model.specs.declared.pattern.Relation.{Relation}
use Rattle.sled_model.specs.declared.pattern.Relation.TheVariants.{Equal, Differs, Below, AtMost, Above, AtLeast}
use Rattle.sled_model.specs.declared.pattern.Argument.{Argument}
use Rattle.sled_model.specs.declared.pattern.Argument.TheVariants.{Inner'}
use Rattle.sled_model.specs.declared.pattern.Pattern.{Pattern, Row_of-Pattern, end_of-Pattern, more_of-Pattern, Row_of-Argument, more_of-Argument, items-the_row-Argument}
use Rattle.sled_model.specs.declared.pattern.Pattern.TheVariants.{Token, Limit, Bind, Operand, Label', Both', Either', Chain', Loose', Apply', Empty}
use Rattle.token_bits.specs.Tokens.{token, byte_count, token_len, value_at}

-- the results at an offset of a list of bytes
abbrev pub Meaning : Type 0
Meaning = List ℕ → ℕ → List Match

-- a constructor that was declared before, with the results of its body
pub record Known : Type 0 where
  pub constructor : Constructor
  pub body : Meaning

-- what a pattern stands among: the operands are those of the constructor whose body it is
pub record Context : Type 0 where
  pub tokens : Tokens
  pub operands : List OperandKind
  pub known : List Known

-- whether a value has the relation to a limit
abbrev pub has_relation : Relation → ℕ → ℕ → Bool
has_relation Equal value limit = value == limit
has_relation Differs value limit = not (value == limit)
has_relation Below value limit = nat_lt value limit
has_relation AtMost value limit = nat_le value limit
has_relation Above value limit = nat_lt limit value
has_relation AtLeast value limit = nat_le limit value

-- no result anywhere
abbrev pub no_results : Meaning
no_results bytes i = []

-- one result with these entries, of this length and no other
abbrev pub one_match : List RawEntry → ℕ → List Match
one_match binds len = record { binds = binds; len = len; loose = false } ∷ []

-- the results that follow from a value, where there is one
abbrev pub results_from : {A : Type 0} → Option A → (A → List Match) → List Match
results_from None f = []
results_from (Some x) f = f x

-- where the token exists, it is the one result
abbrev pub class_results : Tokens → ClassId → Meaning
class_results tokens c bytes i =
    results_from (slice_get tokens.classes c.0) (λ class. results_from (token class bytes i) (λ n. one_match [] (byte_count class)))

-- where the field's value exists and has the relation, its token is the one result
abbrev pub limit_results : Tokens → FieldId → Relation → ℕ → Meaning
limit_results tokens f relation limit bytes i =
    results_from (value_at tokens f bytes i) (λ value. if has_relation relation value limit then one_match [] (token_len tokens f) else [])

-- where the field's value exists, its token is the one result, and the value is noted
abbrev pub bind_results : Tokens → FieldId → Meaning
bind_results tokens f bytes i = results_from (value_at tokens f bytes i) (λ value. one_match (Value f value i ∷ []) (token_len tokens f))

-- the results of either
abbrev pub either : Meaning → Meaning → Meaning
either p q bytes i = p bytes i ++ q bytes i

-- b, where a ends
abbrev pub chain_match : Match → Match → Match
chain_match a b = record { binds = a.binds ++ b.binds; len = a.len + b.len; loose = b.loose }

-- each result of p with each result of q where it ends
abbrev pub chain : Meaning → Meaning → Meaning
chain p q bytes i = flat_map (λ a. map (chain_match a) (q bytes (i + a.len))) (p bytes i)

-- whether two results at one place have lengths that agree: a loose one may be the shorter
abbrev pub agrees : Match → Match → Bool
agrees a b =
    if a.loose then (if b.loose then true else nat_le a.len b.len)
    else (if b.loose then nat_le b.len a.len else (a.len == b.len))

-- a and b at one place
abbrev pub both_match : Match → Match → Match
both_match a b = record { binds = a.binds ++ b.binds; len = max a.len b.len; loose = a.loose && b.loose }

-- each result of p with each result of q at the same place whose length agrees
abbrev pub both : Meaning → Meaning → Meaning
both p q bytes i = flat_map (λ a. map (both_match a) (filter (agrees a) (q bytes i))) (p bytes i)

-- the meanings under one operator, folded from the left
abbrev pub fold_meanings : (Meaning → Meaning → Meaning) → List Meaning → Meaning
fold_meanings op [] = no_results
fold_meanings op (m ∷ ms) = fold op m ms

-- the meaning of the one pattern in a box
abbrev pub boxed_meaning : List Meaning → Meaning
boxed_meaning [] = no_results
boxed_meaning (m ∷ ms) = m

-- a, made loose
abbrev pub loose_match : Match → Match
loose_match a = record { binds = a.binds; len = a.len; loose = true }

abbrev pub loose_meaning : Meaning → Meaning
loose_meaning p bytes i = map loose_match (p bytes i)

-- a, with the label at offset i in front
abbrev pub label_match : ℕ → ℕ → Match → Match
label_match label i a = record { binds = Mark label i ∷ a.binds; len = a.len; loose = a.loose }

abbrev pub label_meaning : ℕ → Meaning → Meaning
label_meaning label p bytes i = map (label_match label i) (p bytes i)

-- a result of constructor number k's body, as the one entry that says so
abbrev pub choice_match : ℕ → List Argument → Match → Match
choice_match k arguments a =
    record { binds = Choice (record { 0 = k }) (record { entries = a.binds }) arguments ∷ []; len = a.len; loose = a.loose }

-- whether a constructor with this result is of type t
abbrev pub makes : TypeId → Option TypeId → Bool
makes t None = false
makes t (Some result) = result.0 == t.0

-- the results of the bodies of the type's constructors, in order; the first of the list has number k
abbrev pub choices_from : ℕ → List Known → TypeId → Meaning
choices_from k [] t bytes i = []
choices_from k (c ∷ cs) t bytes i =
    (if makes t c.constructor.result then map (choice_match k []) (c.body bytes i) else []) ++ choices_from (k + 1) cs t bytes i

-- the results of an operand that stands in a body, which a typed one alone does
abbrev pub kind_results : List Known → OperandKind → Meaning
kind_results known (Typed t) bytes i = choices_from 0 known t bytes i
kind_results known _ bytes i = []

abbrev pub operand_results : Context → ℕ → Meaning
operand_results cx k bytes i = results_from (slice_get cx.operands k) (λ kind. kind_results cx.known kind bytes i)

-- ---- applications

-- the numbers of the operands that stand in a pattern, from left to right
abbrev mutual
  pub operands_in : Pattern → List ℕ
  operands_in (Operand k) = k ∷ []
  operands_in (Label' l s p) = operands_in_row p
  operands_in (Both' s ps) = operands_in_row ps
  operands_in (Either' s ps) = operands_in_row ps
  operands_in (Chain' s ps) = operands_in_row ps
  operands_in (Loose' s p) = operands_in_row p
  operands_in _ = []

  pub operands_in_row : {n : _} → Row_of-Pattern n → List ℕ
  operands_in_row end_of-Pattern = []
  operands_in_row (more_of-Pattern p ps) = operands_in p ++ operands_in_row ps

-- whether an entry is a choice
abbrev pub is_choice : RawEntry → Bool
is_choice (Choice' k s inner arguments) = true
is_choice _ = false

-- the choice for operand k among what c's body bound: a choice has no operand's number, but the choices of a result stand in the
-- order in which the operands stand in the body
abbrev pub choice_of : Constructor → List RawEntry → ℕ → Option RawEntry
choice_of c inner k = option_and_then (slice_get (filter is_choice inner)) (position (λ j. j == k) (operands_in c.body))

abbrev mutual
  -- whether an argument admits the choice that was taken for its operand: an inner application asks for its own constructor, and
  -- for what its own arguments admit
  pub argument_admits : List Known → Option RawEntry → Argument → Bool
  argument_admits known choice (Inner' s p) = box_admits known choice p
  argument_admits known choice _ = true

  pub box_admits : {n : _} → List Known → Option RawEntry → Row_of-Pattern n → Bool
  box_admits known choice end_of-Pattern = true
  box_admits known choice (more_of-Pattern p ps) = application_admits known choice p

  pub application_admits : List Known → Option RawEntry → Pattern → Bool
  application_admits known (Some (Choice' j s inner none)) (Apply' k t arguments) = (j.0 == k.0) && arguments_admit known (slice_get known k.0) (items-the_row-RawEntry _ inner) 0 arguments
  application_admits known _ _ = false

  -- whether the arguments of c, from number j on, admit what its body bound
  pub arguments_admit : {n : _} → List Known → Option Known → List RawEntry → ℕ → Row_of-Argument n → Bool
  arguments_admit known (Some c) inner j (more_of-Argument a arguments) = argument_admits known (choice_of c.constructor inner j) a && arguments_admit known (Some c) inner (j + 1) arguments
  arguments_admit known c inner j _ = true

-- the results of constructor k's body that are admitted
abbrev pub application_results : List Known → ℕ → List Argument → (List RawEntry → Bool) → Meaning
application_results known k arguments admitted bytes i =
    results_from (slice_get known k) (λ c. map (choice_match k arguments) (filter (λ a. admitted a.binds) (c.body bytes i)))

-- ---- patterns

abbrev mutual
  -- the results of a pattern
  pub results : Context → Pattern → Meaning
  results cx (Token c) bytes i = class_results cx.tokens c bytes i
  results cx (Limit f relation limit) bytes i = limit_results cx.tokens f relation limit bytes i
  results cx (Bind f) bytes i = bind_results cx.tokens f bytes i
  results cx (Operand k) bytes i = operand_results cx k bytes i
  results cx (Label' l s p) bytes i = label_meaning l (boxed_meaning (row_meanings cx p)) bytes i
  results cx (Both' s ps) bytes i = fold_meanings both (row_meanings cx ps) bytes i
  results cx (Either' s ps) bytes i = fold_meanings either (row_meanings cx ps) bytes i
  results cx (Chain' s ps) bytes i = fold_meanings chain (row_meanings cx ps) bytes i
  results cx (Loose' s p) bytes i = loose_meaning (boxed_meaning (row_meanings cx p)) bytes i
  results cx (Apply' k s arguments) bytes i =
      application_results cx.known k.0 (items-the_row-Argument _ arguments)
      (λ inner. arguments_admit cx.known (slice_get cx.known k.0) inner 0 arguments) bytes i
  results cx Empty bytes i = one_match [] 0

  -- the meaning of each pattern of a row
  pub row_meanings : {n : _} → Context → Row_of-Pattern n → List Meaning
  row_meanings cx end_of-Pattern = []
  row_meanings cx (more_of-Pattern p ps) = results cx p ∷ row_meanings cx ps

-- a pattern that stands among no constructors
abbrev pub alone : Tokens → Context
alone tokens = record { tokens = tokens; operands = []; known = [] }

-- what is known after more constructors are declared: the body of each means what it does over those before it
abbrev pub known_from : Tokens → List Known → List Constructor → List Known
known_from tokens known [] = known
known_from tokens known (c ∷ cs) =
    known_from tokens (known ++ record { constructor = c; body = results (record { tokens = tokens; operands = c.operands; known = known }) c.body } ∷ []) cs

-- what an arm's pattern stands among
abbrev pub arm_context : Spec → Context
arm_context spec = record { tokens = spec.tokens; operands = []; known = known_from spec.tokens [] spec.constructors }

-- the results of an arm
abbrev pub arm_results : Spec → Arm → Meaning
arm_results spec arm = results (arm_context spec) arm.pattern
