-- Operands that are fields stand bare in the body, and operands and equations are few.
use Rattle.std.proofs.Common.{◌≡◌, ℕ, ◌≤◌, Bool, true, false, cond, List, [], ◌∷◌, length, All, Some, None, refl, ap, arith}
use Rattle.std.specs.Prelude.{Option, is_some, option_map}
use Rattle.std.specs.List.{list_all, filter_map, cons_option}
use Rattle.std.specs.Option.{option_and_then, option_map_or}
use Rattle.std.proofs.lemmas.List.{length-map}
use Rattle.std.proofs.lemmas.List.Elements.{All-nil, All-cons, All-same}
use Rattle.token_bits.specs.declared.tokens.FieldId.{FieldId}
use Rattle.sled_parser.specs.declared.tree.EqTree.{EqTree}
use Rattle.sled_parser.specs.declared.tree.OperandTree.{OperandTree}
use Rattle.sled_parser.specs.declared.tree.OperandTree.TheVariants.{Word, Extended, Typed}
use Rattle.sled_model.specs.declared.constructor.Constructor.{Constructor}
use Rattle.sled_model.specs.declared.constructor.OperandKind.{OperandKind}
use Rattle.sled_model.specs.declared.constructor.OperandKind.TheVariants as kind
use Rattle.sled_model.specs.declared.constructor.TypeId.{TypeId}
use Rattle.sled_model.specs.Linear.{kind_field}
use Rattle.sled_model.specs.SolvingOrder.{bare_fields, is_among as is_number_among}
use Rattle.tree_meaning.specs.declared.scope.Meaning.{Meaning}
use Rattle.tree_meaning.specs.declared.scope.Meaning.TheVariants as meaning
use Rattle.tree_meaning.specs.Names.{is_among}
use Rattle.tree_meaning.specs.Scopes.{Declared, meaning_of, field_named, type_named, as_field}
use Rattle.operand_meaning.specs.Equations.{equation_of, equations_of}
use Rattle.operand_meaning.specs.Limits.{are_within_limits}
use Rattle.operand_meaning.specs.Operands.{declared_kind, operand_kind, operand_kinds}
use Rattle.operand_meaning.specs.Standing.{operand_stands, operands_stand}
use Rattle.operand_meaning.specs.Terms.{names_in, sliced_names}
use Rattle.operand_meaning.proofs.EquationLaws.{IsMadeOf, few_operands}
use Rattle.operand_meaning.proofs.ListFacts.{both_of, length-filter_map}

-- it holds of the value, if there is one
abbrev OnEach : {A : Type 0} → (A → Type 0) → Option A → Type 0
OnEach P None = Unit {0}
OnEach P (Some x) = P x

module _ (declared : Declared) (bound labels : List (List ℕ)) (operands : List OperandTree) (equations : List EqTree) (c : Constructor)
    (made : IsMadeOf declared bound labels operands equations c) where
  abbrev IsBareField : ℕ → Type 0
  IsBareField f = is_number_among (bare_fields c.body) f ≡ true

  -- one kind more, which is no field or a bare one
  with_kind : (k : Option OperandKind) (ks : List OperandKind) → OnEach IsBareField (option_and_then kind_field k)
      → All IsBareField (filter_map kind_field ks) → All IsBareField (filter_map kind_field (cons_option k ks))
  with_kind None ks here later = later
  with_kind (Some k) ks here later = by_field (kind_field k) here where
    by_field : (o : Option ℕ) → OnEach IsBareField o → All IsBareField (cons_option o (filter_map kind_field ks))
    by_field None here = later
    by_field (Some f) here = All-cons IsBareField f (filter_map kind_field ks) here later

  word_kind : (w : List ℕ) (m : Option Meaning) (is_named : Bool) → meaning_of declared w ≡ m → cond (is_some m) (is_among bound w) is_named ≡ true
      → OnEach IsBareField (option_and_then kind_field (option_map_or declared_kind m (Some (cond (is_among (sliced_names equations) w) kind.Sliced kind.Whole))))
  word_kind w None is_named e stands = by_test (is_among (sliced_names equations) w) where
    by_test : (t : Bool) → OnEach IsBareField (kind_field (cond t kind.Sliced kind.Whole))
    by_test true = tt
    by_test false = tt
  word_kind w (Some (meaning.Field f)) is_named e stands = made.fields w f stands (ap (option_and_then as_field) e)
  word_kind w (Some (meaning.Type t)) is_named e stands = tt
  word_kind w (Some _) is_named e stands = tt

  extended_kind : (w : List ℕ) (o : Option FieldId) → field_named declared w ≡ o → is_among bound w ≡ true
      → OnEach IsBareField (option_and_then kind_field (option_map kind.Extended o))
  extended_kind w None e stands = tt
  extended_kind w (Some f) e stands = made.fields w f stands e

  typed_kind : (o : Option TypeId) → OnEach IsBareField (option_and_then kind_field (option_map kind.Typed o))
  typed_kind None = tt
  typed_kind (Some t) = tt

  kind_is : (o : OperandTree) → operand_stands declared (is_among bound) (is_among (names_in equations)) o ≡ true
      → OnEach IsBareField (option_and_then kind_field (operand_kind declared equations o))
  kind_is (Word w) stands = word_kind w (meaning_of declared w) (is_among (names_in equations) w) refl stands
  kind_is (Extended w) stands = extended_kind w (field_named declared w) refl stands
  kind_is (Typed n r) stands = typed_kind (type_named declared r)

  kinds_are : (os : List OperandTree) → list_all (operand_stands declared (is_among bound) (is_among (names_in equations))) os ≡ true
      → All IsBareField (filter_map kind_field (operand_kinds declared equations os))
  kinds_are [] stand = All-nil IsBareField
  kinds_are (o ∷ os) stand =
      let test = operand_stands declared (is_among bound) (is_among (names_in equations)) in
      let parts = both_of (test o) (list_all test os) stand in
      with_kind (operand_kind declared equations o) (operand_kinds declared equations os) (kind_is o parts.0) (kinds_are os parts.1)

  -- where operands stand as they have to, each one that is a field is a bare field of the body
  pub fields_are_bare : operands_stand declared bound operands equations ≡ true → All (λ f. is_number_among (bare_fields c.body) f ≡ true) (filter_map kind_field c.operands)
  fields_are_bare stand =
      All-same IsBareField (filter_map kind_field c.operands) (filter_map kind_field (operand_kinds declared equations operands)) (ap (filter_map kind_field) made.kinds) (kinds_are operands stand)

-- the counts, as they are asked of a constructor
pub few_made : (declared : Declared) (labels : List (List ℕ)) (operands : List OperandTree) (equations : List EqTree) → are_within_limits declared operands equations ≡ true
    → (length (operand_kinds declared equations operands) ≤ 16) × (length (equations_of declared labels operands equations) ≤ 32)
few_made declared labels operands equations within =
    let few = few_operands declared operands equations within in
    (omega (arith, few.0, length-filter_map (operand_kind declared equations) operands), omega (arith, few.1, length-map equations (equation_of declared labels operands)))
