-- Over more classes and fields the bodies of constructors have the results that they had, and their conjunctions agree as they did.
use Rattle.std.proofs.Common.{◌≡◌, ℕ, ◌<◌, Bool, true, List, [], ◌∷◌, ◌++◌, ◌↔◌, length, map, All, Contains, IsSome, Option, Some, None, slice_get, refl, sym, ap, ◌∙◌, subst}
use Rattle.std.specs.Prelude.{option_map, option_and_then, if◌then◌else◌}
use Rattle.std.specs.List.{flat_map}
use Rattle.std.specs.Option.{option_map_or, IsSomeAnd}
use Rattle.std.proofs.lemmas.List.Elements.{All-head, All-tail}
use Rattle.token_bits.specs.declared.tokens.Class.{Class}
use Rattle.token_bits.specs.declared.tokens.Field.{Field}
use Rattle.token_bits.specs.declared.tokens.FieldId.{FieldId}
use Rattle.token_bits.specs.declared.tokens.Tokens.{Tokens}
use Rattle.token_bits.specs.Tokens.{AreTokens, IsFieldOf, bits_of, byte_count, class_of, token, token_len, value_at}
use Rattle.token_bits.proofs.Sound.{All-slice_get}
use Rattle.sled_model.specs.declared.raw.Match.{Match}
use Rattle.sled_model.specs.declared.raw.RawEntry.TheVariants.{Value}
use Rattle.sled_model.specs.declared.shape.Shape.{Shape}
use Rattle.sled_model.specs.declared.constructor.OperandKind.{OperandKind}
use Rattle.sled_model.specs.declared.constructor.Constructor.{Constructor}
use Rattle.sled_model.specs.declared.pattern.Relation.{Relation}
use Rattle.sled_model.specs.declared.pattern.Pattern.{Pattern, Row_of-Pattern, end_of-Pattern, more_of-Pattern}
use Rattle.sled_model.specs.declared.pattern.Pattern.TheVariants.{Token, Limit, Bind, Operand, Label', Both', Either', Chain', Loose', Apply', Empty}
use Rattle.sled_model.specs.Leaves.{AllLeaves, AllLeavesOfRow}
use Rattle.sled_model.specs.Results.{Known, Context, Meaning, results, row_meanings, results_from, one_match, class_results, limit_results, bind_results, has_relation, both, either, chain, fold_meanings, boxed_meaning, loose_meaning, label_meaning, known_from}
use Rattle.sled_model.specs.Shapes.{Shaped, ShapeContext, shapes, row_shapes, rigid, field_shapes, boxed_shapes, fold_shapes, both_shape, chain_shape, loose_shape, operand_shapes, body_shapes, shaped, conjunctions_agree}
use Rattle.sled_model.specs.Specs.{IsBodyLeaf, IsConstructorOf}
use Rattle.sled_model.proofs.LeafLemmas.{Grows, known_below}
use Rattle.sled_model.proofs.ShapeContexts.{IsLeaf, AllLeaves-weaker, HasSameForm, HasSameShapes, same_form}
use Rattle.sled_model.proofs.ShapeKnown.{BodiesAgree}

module _ (t u : Tokens) (n : ℕ) (grows : Grows t u n n) (sound : AreTokens t) where
  class_is : (k : ℕ) → IsSome (slice_get t.classes k) → slice_get u.classes k ≡ slice_get t.classes k
  class_is k h = grows.classes k (known_below t.classes k h)

  field_is : (f : FieldId) → IsSome (slice_get t.fields f.0) → slice_get u.fields f.0 ≡ slice_get t.fields f.0
  field_is f h = grows.fields f.0 (known_below t.fields f.0 h)

  class_there : (o : Option Class) (P : Class → Type 0) → IsSomeAnd o P → IsSome o
  class_there None P h = absurd h
  class_there (Some c) P h = refl

  -- what follows from a field that is known, and from its class
  from_field : {A : Type 0} (found : Option Class → Field → A) (none : A) (f : FieldId) → IsSome (slice_get t.fields f.0)
      → option_map_or (λ (field : Field). found (slice_get u.classes field.class.0) field) (slice_get u.fields f.0) none
      ≡ option_map_or (λ (field : Field). found (slice_get t.classes field.class.0) field) (slice_get t.fields f.0) none
  from_field found none f h =
      ap (λ o. option_map_or (λ (field : Field). found (slice_get u.classes field.class.0) field) o none) (field_is f h) ∙ by_field (slice_get t.fields f.0) refl
    where
      by_field : (o : Option Field) → slice_get t.fields f.0 ≡ o
          → option_map_or (λ (field : Field). found (slice_get u.classes field.class.0) field) o none ≡ option_map_or (λ (field : Field). found (slice_get t.classes field.class.0) field) o none
      by_field None at = refl
      by_field (Some field) at =
          let is : IsFieldOf t.classes field = All-slice_get (IsFieldOf t.classes) t.fields f.0 field at sound.fields in
          ap (λ o. found o field) (class_is field.class.0 (class_there (slice_get t.classes field.class.0) (λ class. field.hi < class.width) is.1))

  and_then_is : {A B : Type 0} (g : A → Option B) (o : Option A) → option_and_then g o ≡ option_map_or g o None
  and_then_is g None = refl
  and_then_is g (Some x) = refl

  class_grown : (f : FieldId) → IsSome (slice_get t.fields f.0) → class_of u f ≡ class_of t f
  class_grown f h =
      and_then_is (λ (field : Field). slice_get u.classes field.class.0) (slice_get u.fields f.0)
      ∙ from_field (λ o field. o) None f h
      ∙ sym (and_then_is (λ (field : Field). slice_get t.classes field.class.0) (slice_get t.fields f.0))

  len_grown : (f : FieldId) → IsSome (slice_get t.fields f.0) → token_len u f ≡ token_len t f
  len_grown f h = ap (λ o. option_map_or byte_count o 0) (class_grown f h)

  value_grown : (f : FieldId) (bytes : List ℕ) (i : ℕ) → IsSome (slice_get t.fields f.0) → value_at u f bytes i ≡ value_at t f bytes i
  value_grown f bytes i h =
      let found = λ (o : Option Class) (field : Field). option_and_then (λ (class : Class). option_map (bits_of field.lo field.hi) (token class bytes i)) o in
      and_then_is (λ (field : Field). found (slice_get u.classes field.class.0) field) (slice_get u.fields f.0)
      ∙ from_field found None f h
      ∙ sym (and_then_is (λ (field : Field). found (slice_get t.classes field.class.0) field) (slice_get t.fields f.0))

  -- ---- results

  module _ (kinds : List OperandKind) (known : List Known) where
    abbrev before : Context
    before = record { tokens = t; operands = kinds; known = known }

    abbrev after : Context
    after = record { tokens = u; operands = kinds; known = known }

    limit_grown : (f : FieldId) (r : Relation) (limit : ℕ) (bytes : List ℕ) (i : ℕ) → IsSome (slice_get t.fields f.0) → limit_results u f r limit bytes i ≡ limit_results t f r limit bytes i
    limit_grown f r limit bytes i h =
        ap (λ o. results_from o (λ value. if has_relation r value limit then one_match [] (token_len u f) else [])) (value_grown f bytes i h)
        ∙ ap (λ len. results_from (value_at t f bytes i) (λ value. if has_relation r value limit then one_match [] len else [])) (len_grown f h)

    bind_grown : (f : FieldId) (bytes : List ℕ) (i : ℕ) → IsSome (slice_get t.fields f.0) → bind_results u f bytes i ≡ bind_results t f bytes i
    bind_grown f bytes i h =
        ap (λ o. results_from o (λ value. one_match (Value f value i ∷ []) (token_len u f))) (value_grown f bytes i h)
        ∙ ap (λ len. results_from (value_at t f bytes i) (λ value. one_match (Value f value i ∷ []) len)) (len_grown f h)

    mutual
      results_grown : (p : Pattern) → AllLeaves (IsBodyLeaf t kinds) p → (bytes : List ℕ) (i : ℕ) → results after p bytes i ≡ results before p bytes i
      results_grown (Token c) h bytes i =
          ap (λ o. results_from o (λ class. results_from (token class bytes i) (λ m. one_match [] (byte_count class)))) (class_is c.0 h.class)
      results_grown (Limit f relation limit) h bytes i = limit_grown f relation limit bytes i h.field
      results_grown (Bind f) h bytes i = bind_grown f bytes i h.field
      results_grown (Operand k) h bytes i = refl
      results_grown (Label' l s p) h bytes i = ap (λ ms. label_meaning l (boxed_meaning ms) bytes i) (rows_grown p h)
      results_grown (Both' s ps) h bytes i = ap (λ ms. fold_meanings both ms bytes i) (rows_grown ps h)
      results_grown (Either' s ps) h bytes i = ap (λ ms. fold_meanings either ms bytes i) (rows_grown ps h)
      results_grown (Chain' s ps) h bytes i = ap (λ ms. fold_meanings chain ms bytes i) (rows_grown ps h)
      results_grown (Loose' s p) h bytes i = ap (λ ms. loose_meaning (boxed_meaning ms) bytes i) (rows_grown p h)
      results_grown (Apply' k s arguments) h bytes i = absurd h.alone
      results_grown Empty h bytes i = refl

      rows_grown : {m : _} (ps : Row_of-Pattern m) → AllLeavesOfRow (IsBodyLeaf t kinds) ps → row_meanings after ps ≡ row_meanings before ps
      rows_grown end_of-Pattern h = refl
      rows_grown (more_of-Pattern p ps) h =
          let here : results after p ≡ results before p = λ j bytes i. results_grown p h.0 bytes i j in
          ap (λ m. m ∷ row_meanings after ps) here ∙ ap (λ ms. results before p ∷ ms) (rows_grown ps h.1)

  body_grown : (known : List Known) (c : Constructor) → IsConstructorOf t n c
      → results (record { tokens = u; operands = c.operands; known = known }) c.body ≡ results (record { tokens = t; operands = c.operands; known = known }) c.body
  body_grown known c h = λ j bytes i. results_grown c.operands known c.body h.body bytes i j

  abbrev with_body : Constructor → Meaning → Known
  with_body c body = record { constructor = c; body = body }

  -- what is known of the constructors stays so
  pub known_grown : (known : List Known) (cs : List Constructor) → All (IsConstructorOf t n) cs → known_from u known cs ≡ known_from t known cs
  known_grown known [] h = refl
  known_grown known (c ∷ cs) h =
      ap (λ body. known_from u (known ++ with_body c body ∷ []) cs) (body_grown known c (All-head (IsConstructorOf t n) c cs h))
      ∙ known_grown (known ++ with_body c (results (record { tokens = t; operands = c.operands; known = known }) c.body) ∷ []) cs (All-tail (IsConstructorOf t n) c cs h)

  -- ---- shapes

  field_grown : (f : FieldId) → IsSome (slice_get t.fields f.0) → field_shapes u f ≡ field_shapes t f
  field_grown f h = ap (λ o. option_map_or (λ (field : Field). rigid (field.class ∷ [])) o []) (field_is f h)

  module _ (kinds : List OperandKind) (known : List Shaped) (operands : ℕ → List Shape) where
    abbrev old : ShapeContext
    old = record { tokens = t; operands = operands; known = known }

    abbrev new : ShapeContext
    new = record { tokens = u; operands = operands; known = known }

    mutual
      shapes_grown : (p : Pattern) → AllLeaves (IsBodyLeaf t kinds) p → shapes new p ≡ shapes old p
      shapes_grown (Token c) h = refl
      shapes_grown (Limit f relation limit) h = field_grown f h.field
      shapes_grown (Bind f) h = field_grown f h.field
      shapes_grown (Operand k) h = refl
      shapes_grown (Label' l s p) h = ap boxed_shapes (row_shapes_grown p h)
      shapes_grown (Both' s ps) h = ap (fold_shapes both_shape) (row_shapes_grown ps h)
      shapes_grown (Either' s ps) h = ap (flat_map (λ ss. ss)) (row_shapes_grown ps h)
      shapes_grown (Chain' s ps) h = ap (fold_shapes chain_shape) (row_shapes_grown ps h)
      shapes_grown (Loose' s p) h = ap (λ sss. map loose_shape (boxed_shapes sss)) (row_shapes_grown p h)
      shapes_grown (Apply' k s arguments) h = absurd h.alone
      shapes_grown Empty h = refl

      row_shapes_grown : {m : _} (ps : Row_of-Pattern m) → AllLeavesOfRow (IsBodyLeaf t kinds) ps → row_shapes new ps ≡ row_shapes old ps
      row_shapes_grown end_of-Pattern h = refl
      row_shapes_grown (more_of-Pattern p ps) h = ap (λ ss. ss ∷ row_shapes new ps) (shapes_grown p h.0) ∙ ap (λ sss. shapes old p ∷ sss) (row_shapes_grown ps h.1)

    same_leaf : (p : Pattern) → IsLeaf p → IsBodyLeaf t kinds p → HasSameShapes new old p
    same_leaf (Token c) leaf h = λ a. (λ m. m, λ m. m)
    same_leaf (Limit f relation limit) leaf h =
        subst (λ ss. (a : Shape) → Contains (field_shapes u f) a ↔ Contains ss a) (field_grown f h.field) (λ a. (λ m. m, λ m. m))
    same_leaf (Bind f) leaf h =
        subst (λ ss. (a : Shape) → Contains (field_shapes u f) a ↔ Contains ss a) (field_grown f h.field) (λ a. (λ m. m, λ m. m))
    same_leaf (Operand k) leaf h = λ a. (λ m. m, λ m. m)
    same_leaf (Label' l s p) leaf h = absurd leaf
    same_leaf (Both' s ps) leaf h = absurd leaf
    same_leaf (Either' s ps) leaf h = absurd leaf
    same_leaf (Chain' s ps) leaf h = absurd leaf
    same_leaf (Loose' s p) leaf h = absurd leaf
    same_leaf (Apply' k s arguments) leaf h = absurd h.alone
    same_leaf Empty leaf h = λ a. (λ m. m, λ m. m)

    form_grown : (p : Pattern) → AllLeaves (IsBodyLeaf t kinds) p → HasSameForm new old p
    form_grown p h = same_form new old p (AllLeaves-weaker (IsBodyLeaf t kinds) (HasSameShapes new old) same_leaf p h)

  shaped_grown : (known : List Shaped) (c : Constructor) → IsConstructorOf t n c → shaped u known c ≡ shaped t known c
  shaped_grown known c h = λ i. record {
    constructor = c;
    body = λ operands. shapes_grown c.operands known operands c.body h.body i;
    shapes = shapes_grown c.operands known (operand_shapes known c.operands) c.body h.body i;
  }

  -- the conjunctions of the bodies agree as they did
  pub bodies_grown : (known : List Shaped) (cs : List Constructor) → All (IsConstructorOf t n) cs → BodiesAgree t known cs → BodiesAgree u known cs
  bodies_grown known [] h agree = tt
  bodies_grown known (c ∷ cs) h agree =
      let here = All-head (IsConstructorOf t n) c cs h in
      let form = form_grown c.operands known (operand_shapes known c.operands) c.body here.body in (
        agree.0,
        form.agree ∙ agree.1,
        subst (λ s. BodiesAgree u (known ++ s ∷ []) cs) (sym (shaped_grown known c here))
            (bodies_grown (known ++ shaped t known c ∷ []) cs (All-tail (IsConstructorOf t n) c cs h) agree.2),
      )
