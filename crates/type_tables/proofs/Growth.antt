-- A table stays that of a description to which a class or a field is added.
use Rattle.std.proofs.Common.{◌≡◌, ℕ, List, [], ◌∷◌, ◌++◌, length, map, sum, All, IsSome, slice_get, refl, sym, ap, ◌∙◌, subst, arith}
use Rattle.std.specs.List.{flat_map}
use Rattle.std.specs.Option.{option_map_or}
use Rattle.std.proofs.lemmas.List.{length_push}
use Rattle.std.proofs.lemmas.List.Elements.{All-head, All-tail}
use Rattle.token_bits.specs.declared.tokens.Class.{Class}
use Rattle.token_bits.specs.declared.tokens.Field.{Field}
use Rattle.token_bits.specs.declared.tokens.FieldId.{FieldId}
use Rattle.token_bits.specs.declared.tokens.Tokens.{Tokens}
use Rattle.token_bits.specs.Tokens.{width_of}
use Rattle.sled_model.specs.declared.constructor.TypeId.{TypeId}
use Rattle.sled_model.specs.declared.constructor.OperandKind.{OperandKind}
use Rattle.sled_model.specs.declared.constructor.Constructor.{Constructor}
use Rattle.sled_model.specs.declared.pattern.Pattern.{Pattern, Row_of-Pattern, end_of-Pattern, more_of-Pattern}
use Rattle.sled_model.specs.declared.pattern.Pattern.TheVariants.{Token, Limit, Bind, Operand, Label', Both', Either', Chain', Loose', Apply', Empty}
use Rattle.sled_model.specs.declared.shape.Shape.{Shape}
use Rattle.sled_model.specs.declared.spec.Spec.{Spec}
use Rattle.sled_model.specs.Leaves.{AllLeaves, AllLeavesOfRow}
use Rattle.sled_model.specs.Measures.{Weighed, capped, each_from, weighed, weight, row_weights, type_weight, operand_weight, boxed_number, product, limit_weight}
use Rattle.sled_model.specs.Shapes.{Shaped, ShapeContext, shaped, shapes, row_shapes, type_shapes, operand_shapes, known_shapes, rigid, field_shapes, boxed_shapes, fold_shapes, both_shape, chain_shape, loose_shape}
use Rattle.sled_model.specs.Specs.{IsSpec, IsBodyLeaf, IsConstructorOf}
use Rattle.sled_model.proofs.LeafLemmas.{Grows, known_below, slice_get-front}
use Rattle.pattern_shapes.specs.Forms.{SameMembers}
use Rattle.type_tables.specs.declared.types.TypeEntry.{TypeEntry}
use Rattle.type_tables.specs.declared.table.TypeTable.{TypeTable}
use Rattle.type_tables.specs.Tables.{IsEntryOf, IsTableOf}

each_same : {A : Type 0} (f g : List A → Constructor → A) (P : Constructor → Type 0) → ((known : List A) (c : Constructor) → P c → f known c ≡ g known c)
    → (known : List A) (cs : List Constructor) → All P cs → each_from f known cs ≡ each_from g known cs
each_same f g P same known [] h = refl
each_same f g P same known (c ∷ cs) h =
    ap (λ x. each_from f (known ++ x ∷ []) cs) (same known c (All-head P c cs h)) ∙ each_same f g P same (known ++ g known c ∷ []) cs (All-tail P c cs h)

-- over more classes and fields, a body has the weight and the shapes that it had
module _ (t u : Tokens) (n : ℕ) (grows : Grows t u n n) where
  field_is : (f : FieldId) → IsSome (slice_get t.fields f.0) → slice_get u.fields f.0 ≡ slice_get t.fields f.0
  field_is f h = grows.fields f.0 (known_below t.fields f.0 h)

  module _ (kinds : List OperandKind) (known : List Weighed) (operands : ℕ → ℕ) where
    mutual
      weight_grown : (p : Pattern) → AllLeaves (IsBodyLeaf t kinds) p → weight u known operands p ≡ weight t known operands p
      weight_grown (Token c) h = refl
      weight_grown (Limit f relation limit) h = ap (λ o. limit_weight (option_map_or width_of o 0) relation limit) (field_is f h.field)
      weight_grown (Bind f) h = refl
      weight_grown (Operand k) h = refl
      weight_grown (Label' l s p) h = ap boxed_number (weights_grown p h)
      weight_grown (Both' s ps) h = ap product (weights_grown ps h)
      weight_grown (Either' s ps) h = ap sum (weights_grown ps h)
      weight_grown (Chain' s ps) h = ap product (weights_grown ps h)
      weight_grown (Loose' s p) h = ap boxed_number (weights_grown p h)
      weight_grown (Apply' k s arguments) h = absurd h.alone
      weight_grown Empty h = refl

      weights_grown : {m : _} (ps : Row_of-Pattern m) → AllLeavesOfRow (IsBodyLeaf t kinds) ps → row_weights u known operands ps ≡ row_weights t known operands ps
      weights_grown end_of-Pattern h = refl
      weights_grown (more_of-Pattern p ps) h = ap (λ w. w ∷ row_weights u known operands ps) (weight_grown p h.0) ∙ ap (λ ws. weight t known operands p ∷ ws) (weights_grown ps h.1)

  module _ (kinds : List OperandKind) (known : List Shaped) (operands : ℕ → List Shape) where
    abbrev before : ShapeContext
    before = record { tokens = t; operands = operands; known = known }

    abbrev after : ShapeContext
    after = record { tokens = u; operands = operands; known = known }

    field_grown : (f : FieldId) → IsSome (slice_get t.fields f.0) → field_shapes u f ≡ field_shapes t f
    field_grown f h = ap (λ o. option_map_or (λ (field : Field). rigid (field.class ∷ [])) o []) (field_is f h)

    mutual
      shapes_grown : (p : Pattern) → AllLeaves (IsBodyLeaf t kinds) p → shapes after p ≡ shapes before p
      shapes_grown (Token c) h = refl
      shapes_grown (Limit f relation limit) h = field_grown f h.field
      shapes_grown (Bind f) h = field_grown f h.field
      shapes_grown (Operand k) h = refl
      shapes_grown (Label' l s p) h = ap boxed_shapes (rows_grown p h)
      shapes_grown (Both' s ps) h = ap (fold_shapes both_shape) (rows_grown ps h)
      shapes_grown (Either' s ps) h = ap (flat_map (λ ss. ss)) (rows_grown ps h)
      shapes_grown (Chain' s ps) h = ap (fold_shapes chain_shape) (rows_grown ps h)
      shapes_grown (Loose' s p) h = ap (λ sss. map loose_shape (boxed_shapes sss)) (rows_grown p h)
      shapes_grown (Apply' k s arguments) h = absurd h.alone
      shapes_grown Empty h = refl

      rows_grown : {m : _} (ps : Row_of-Pattern m) → AllLeavesOfRow (IsBodyLeaf t kinds) ps → row_shapes after ps ≡ row_shapes before ps
      rows_grown end_of-Pattern h = refl
      rows_grown (more_of-Pattern p ps) h = ap (λ ss. ss ∷ row_shapes after ps) (shapes_grown p h.0) ∙ ap (λ sss. shapes before p ∷ sss) (rows_grown ps h.1)

  weighed_grown : (known : List Weighed) (c : Constructor) → IsConstructorOf t n c → weighed u known c ≡ weighed t known c
  weighed_grown known c h = λ i. record {
    constructor = c;
    body = λ operands. weight_grown c.operands known operands c.body h.body i;
    weight = weight_grown c.operands known (operand_weight known c.operands) c.body h.body i;
  }

  shaped_grown : (known : List Shaped) (c : Constructor) → IsConstructorOf t n c → shaped u known c ≡ shaped t known c
  shaped_grown known c h = λ i. record {
    constructor = c;
    body = λ operands. shapes_grown c.operands known operands c.body h.body i;
    shapes = shapes_grown c.operands known (operand_shapes known c.operands) c.body h.body i;
  }

-- the description with other tokens, of which its own are the first
module _ (spec : Spec) (sound : IsSpec spec) (tokens : Tokens) (class_names field_names : List (List ℕ))
    (grows : Grows spec.tokens tokens (length spec.type_names) (length spec.type_names)) where
  abbrev pub more_tokens : Spec
  more_tokens = record spec { tokens = tokens; class_names = class_names; field_names = field_names }

  weights_kept : each_from (weighed tokens) [] spec.constructors ≡ each_from (weighed spec.tokens) [] spec.constructors
  weights_kept = each_same (weighed tokens) (weighed spec.tokens) (IsConstructorOf spec.tokens (length spec.type_names))
      (weighed_grown spec.tokens tokens (length spec.type_names) grows) [] spec.constructors sound.constructors

  shapes_kept : known_shapes more_tokens ≡ known_shapes spec
  shapes_kept = each_same (shaped tokens) (shaped spec.tokens) (IsConstructorOf spec.tokens (length spec.type_names))
      (shaped_grown spec.tokens tokens (length spec.type_names) grows) [] spec.constructors sound.constructors

  entry_kept : (t : TypeId) (entry : TypeEntry) → IsEntryOf spec t entry → IsEntryOf more_tokens t entry
  entry_kept t entry h = record {
    weight = h.weight ∙ ap (λ ws. capped (type_weight ws t)) (sym weights_kept);
    size = h.size;
    shapes = subst (λ ss. SameMembers entry.shapes (type_shapes ss t)) (sym shapes_kept) h.shapes;
    once = h.once;
    used = h.used;
  }

  pub tokens_added : (table : TypeTable) → IsTableOf spec table → IsTableOf more_tokens table
  tokens_added table h = record { count = h.count; entries = λ t entry is. entry_kept t entry (h.entries t entry is) }

module _ (spec : Spec) (sound : IsSpec spec) (name : List ℕ) (table : TypeTable) where
  -- the table stays that of the description when a class is added
  pub class_added : (class : Class) → IsTableOf spec table
      → IsTableOf (record spec { tokens = record spec.tokens { classes = spec.tokens.classes ++ class ∷ [] }; class_names = spec.class_names ++ name ∷ [] }) table
  class_added class h = tokens_added spec sound (record spec.tokens { classes = spec.tokens.classes ++ class ∷ [] }) (spec.class_names ++ name ∷ []) spec.field_names
      (record {
        classes = λ k less. slice_get-front spec.tokens.classes (class ∷ []) k less;
        fields = λ k less. refl;
        more = omega arith;
        types = omega arith;
      }) table h

  -- and when a field is added
  pub field_added : (field : Field) → IsTableOf spec table
      → IsTableOf (record spec { tokens = record spec.tokens { fields = spec.tokens.fields ++ field ∷ [] }; field_names = spec.field_names ++ name ∷ [] }) table
  field_added field h = tokens_added spec sound (record spec.tokens { fields = spec.tokens.fields ++ field ∷ [] }) spec.class_names (spec.field_names ++ name ∷ [])
      (record {
        classes = λ k less. refl;
        fields = λ k less. slice_get-front spec.tokens.fields (field ∷ []) k less;
        more = let longer = length_push spec.tokens.fields field in omega arith;
        types = omega arith;
      }) table h
