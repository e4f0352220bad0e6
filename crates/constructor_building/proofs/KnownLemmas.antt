-- The constructors speak of what is known.
use Rattle.std.proofs.Common.{◌≡◌, ℕ, zero, suc, ◌<◌, ◌≤◌, Bool, true, false, cond, List, [], ◌∷◌, length, map, slice_get, Option, Some, None, refl, sym, ap, ◌∙◌, subst, arith}
use Rattle.std.specs.Prelude.{All, IsSome, IfSome, is_some, unwrap_or, option_map, option_and_then}
use Rattle.std.specs.List.{list_all, filter_map, cons_option}
use Rattle.std.specs.Option.{option_map_or}
use Rattle.std.proofs.lemmas.List.{length-map, length_push}
use Rattle.std.proofs.lemmas.List.Elements.{All-nil, All-cons, All-head, All-tail, All-same, All-map, All-weaker}
use Rattle.token_bits.specs.declared.tokens.FieldId.{FieldId}
use Rattle.sled_parser.specs.declared.tree.OperandTree.{OperandTree}
use Rattle.sled_parser.specs.declared.tree.OperandTree.TheVariants.{Word, Extended, Typed}
use Rattle.sled_model.specs.declared.constructor.Constructor.{Constructor}
use Rattle.sled_model.specs.declared.constructor.OperandKind.{OperandKind}
use Rattle.sled_model.specs.declared.constructor.OperandKind.TheVariants as kind
use Rattle.sled_model.specs.declared.constructor.TypeId.{TypeId}
use Rattle.sled_model.specs.declared.pattern.Pattern.{Pattern}
use Rattle.sled_model.specs.declared.spec.Spec.{Spec}
use Rattle.sled_model.specs.Leaves.{AllLeaves, IsNoApplication}
use Rattle.sled_model.specs.Specs.{IsKnownKind, IsBodyLeaf, IsConstructorOf}
use Rattle.tree_meaning.specs.declared.scope.Meaning.{Meaning}
use Rattle.tree_meaning.specs.declared.scope.Meaning.TheVariants as meaning
use Rattle.tree_meaning.specs.Names.{is_among}
use Rattle.tree_meaning.specs.Parts.{labels}
use Rattle.tree_meaning.specs.Scopes.{Declared, meaning_of, as_field, as_type, field_named, type_named}
use Rattle.tree_meaning.specs.Sound.{IsSoundMeaning}
use Rattle.tree_meaning.proofs.Soundness.{and_split, found_all, AllLeaves-weaker}
use Rattle.operand_meaning.specs.Operands.{operand_name, declared_kind, operand_kind}
use Rattle.operand_meaning.specs.Terms.{sliced_names}
use Rattle.constructor_scopes.specs.Bodies.{body_of}
use Rattle.constructor_scopes.specs.Makings.{Made, makings}
use Rattle.constructor_scopes.proofs.BodyLeaves.{bodies_leaves, operands_typed}
use Rattle.constructor_scopes.proofs.BodySound.{opcode_fresh, explicit_new}
use Rattle.constructor_meaning.specs.Conditions.{conditions, body_scope, kinds}
use Rattle.constructor_meaning.specs.Constructing.{Constructing}
use Rattle.constructor_meaning.specs.Sound.{IsSoundScope, NamesKnownType}
use Rattle.constructor_meaning.specs.Unmet.{first_unmet}
use Rattle.constructor_meaning.proofs.ReadLemmas.{local_once}
use Rattle.constructor_meaning.proofs.UnmetLemmas as unmet
use Rattle.constructor_building.specs.Building.{next_type, result_type, new_type, with_new_type, with_type, constructor_of, constructors_of}
use Rattle.constructor_building.proofs.MetLemmas.{named, once, operands_known}

-- ---- lists

below_place : {A : Type 0} (xs : List A) (k : ℕ) → IsSome (slice_get xs k) → k < length xs
below_place [] k h = cc
below_place (x ∷ xs) zero h = omega arith
below_place (x ∷ xs) (suc k) h = let later = below_place xs k h in omega arith

All-unmap : {A B : Type 0} (P : B → Type 0) (f : A → B) (xs : List A) → All P (map f xs) → All (λ x. P (f x)) xs
All-unmap P f [] h = All-nil (λ x. P (f x))
All-unmap P f (x ∷ xs) h = All-cons (λ y. P (f y)) x xs (All-head P (f x) (map f xs) h) (All-unmap P f xs (All-tail P (f x) (map f xs) h))

module _ {X Y : Type 0} (h : X → Option Y) where
  -- what is true of whatever is picked is true of all that are
  All-filter_map : (P : Y → Type 0) → ((x : X) (y : Y) → h x ≡ Some y → P y) → (xs : List X) → All P (filter_map h xs)
  All-filter_map P each [] = All-nil P
  All-filter_map P each (x ∷ xs) = by_value (h x) refl (All-filter_map P each xs) where
    by_value : (o : Option Y) → h x ≡ o → All P (filter_map h xs) → All P (cons_option o (filter_map h xs))
    by_value None e rest = rest
    by_value (Some y) e rest = All-cons P y (filter_map h xs) (each x y e) rest

  -- where each gives something, as many are picked as there are
  length-picked : (xs : List X) → list_all (λ x. is_some (h x)) xs ≡ true → length (filter_map h xs) ≡ length xs
  length-picked [] all = refl
  length-picked (x ∷ xs) all =
      let both = and_split (is_some (h x)) (list_all (λ y. is_some (h y)) xs) all in
      by_value (h x) both.0 (length-picked xs both.1) where
        by_value : (o : Option Y) → is_some o ≡ true → length (filter_map h xs) ≡ length xs → length (cons_option o (filter_map h xs)) ≡ suc (length xs)
        by_value None some rest = cc
        by_value (Some y) some rest = ap suc rest

module _ (spec : Spec) (declared : Declared) (s : IsSoundScope spec declared) where
  sound_at : (w : List ℕ) (m : Meaning) → meaning_of declared w ≡ Some m → IsSoundMeaning spec.tokens m
  sound_at w m is =
      found_all (IsSoundMeaning spec.tokens) declared s.sound
      (All-same (IsSoundMeaning spec.tokens) declared.local_meanings [] s.local_meanings (All-nil (IsSoundMeaning spec.tokens))) w m is

  type_at : (w : List ℕ) (m : Meaning) → meaning_of declared w ≡ Some m → NamesKnownType spec m
  type_at w m is =
      found_all (NamesKnownType spec) declared s.types
      (All-same (NamesKnownType spec) declared.local_meanings [] s.local_meanings (All-nil (NamesKnownType spec))) w m is

  -- a name that stands for a type stands for one that there is
  named_below : (w : List ℕ) (t : TypeId) → type_named declared w ≡ Some t → t.0 < length spec.type_names
  named_below w t is = by_meaning (meaning_of declared w) refl is where
    by_meaning : (o : Option Meaning) → meaning_of declared w ≡ o → option_and_then as_type o ≡ Some t → t.0 < length spec.type_names
    by_meaning (Some (meaning.Type u)) at is =
        let same : u ≡ t = cc in
        subst (λ (x : TypeId). x.0 < length spec.type_names) same (type_at w (meaning.Type u) at)
    by_meaning (Some _) at is = cc
    by_meaning None at is = cc

  field_below : (w : List ℕ) (f : FieldId) → field_named declared w ≡ Some f → f.0 < length spec.tokens.fields
  field_below w f is = by_meaning (meaning_of declared w) refl is where
    by_meaning : (o : Option Meaning) → meaning_of declared w ≡ o → option_and_then as_field o ≡ Some f → f.0 < length spec.tokens.fields
    by_meaning (Some (meaning.Field g)) at is =
        let same : g ≡ f = cc in
        subst (λ (x : FieldId). x.0 < length spec.tokens.fields) same (below_place spec.tokens.fields g.0 (sound_at w (meaning.Field g) at))
    by_meaning (Some _) at is = cc
    by_meaning None at is = cc

  -- ---- the type

  more_types : (r : Option (List ℕ)) → length spec.type_names ≤ length (with_new_type spec r).type_names
  more_types None = omega arith
  more_types (Some t) = omega (arith, length_push spec.type_names t)

  result_known : (r : Option (List ℕ)) → IfSome (result_type spec declared r) (λ t. t.0 < length (with_type spec declared r).type_names)
  result_known None = tt
  result_known (Some t) = by_type (type_named declared t) refl where
    by_type : (o : Option TypeId) → type_named declared t ≡ o → (unwrap_or o (next_type spec)).0 < length (with_new_type spec (cond (is_some o) None (Some t))).type_names
    by_type None is = omega (arith, length_push spec.type_names t)
    by_type (Some u) is = named_below t u is

  -- ---- the operands

  module _ (c : Constructing) (types : ℕ) (more : length spec.type_names ≤ types) where
    abbrev Known : OperandKind → Type 0
    Known k = IsKnownKind spec.tokens types k

    number_known : (b : Bool) (k : OperandKind) → Some (cond b kind.Sliced kind.Whole) ≡ Some k → Known k
    number_known true k is = let same : kind.Sliced ≡ k = cc in subst Known same tt
    number_known false k is = let same : kind.Whole ≡ k = cc in subst Known same tt

    plain_known : (k : OperandKind) (f : FieldId) → Some (kind.Plain f) ≡ Some k → f.0 < length spec.tokens.fields → Known k
    plain_known k f is h = let same : kind.Plain f ≡ k = cc in subst Known same h

    extended_known : (k : OperandKind) (o : Option FieldId) → ((f : FieldId) → o ≡ Some f → f.0 < length spec.tokens.fields) → option_map kind.Extended o ≡ Some k → Known k
    extended_known k None below is = cc
    extended_known k (Some f) below is = let same : kind.Extended f ≡ k = cc in subst Known same (below f refl)

    typed_known : (k : OperandKind) (o : Option TypeId) → ((t : TypeId) → o ≡ Some t → t.0 < length spec.type_names) → option_map kind.Typed o ≡ Some k → Known k
    typed_known k None below is = cc
    typed_known k (Some t) below is =
        let same : kind.Typed t ≡ k = cc in let h = below t refl in
        let here : t.0 < types = omega arith in subst Known same here

    kind_known : (o : OperandTree) (k : OperandKind) → operand_kind declared c.equations o ≡ Some k → Known k
    kind_known (Word w) k is = by_meaning (meaning_of declared w) refl is where
      by_meaning : (o : Option Meaning) → meaning_of declared w ≡ o → option_map_or declared_kind o (Some (cond (is_among (sliced_names c.equations) w) kind.Sliced kind.Whole)) ≡ Some k → Known k
      by_meaning None at is = number_known (is_among (sliced_names c.equations) w) k is
      by_meaning (Some (meaning.Field f)) at is = plain_known k f is (below_place spec.tokens.fields f.0 (sound_at w (meaning.Field f) at))
      by_meaning (Some (meaning.Type t)) at is = typed_known k (Some t) (λ u same. named_below w u (ap (option_and_then as_type) at ∙ same)) is
      by_meaning (Some _) at is = cc
    kind_known (Extended w) k is = extended_known k (field_named declared w) (field_below w) is
    kind_known (Typed n r) k is = typed_known k (type_named declared r) (named_below r) is

    kinds_known : All Known (kinds declared c)
    kinds_known = All-filter_map (operand_kind declared c.equations) Known kind_known c.operands

  -- ---- the constructors

  module _ (c : Constructing) (met : first_unmet (conditions spec declared c) ≡ None) where
    abbrev types : ℕ
    types = length (with_type spec declared c.result).type_names

    leaves_known : All (AllLeaves (IsBodyLeaf spec.tokens (kinds declared c))) (map (body_of (body_scope declared c) c.opcode (labels c.body) c.body) (makings declared c.opcode))
    leaves_known =
        let first = named spec declared c met in
        bodies_leaves spec.tokens (kinds declared c) declared s.local_names s.local_meanings s.sound c.opcode c.operands
        (operands_typed declared c.equations c.operands (operands_known spec declared c met))
        (λ ps group. opcode_fresh declared s.local_names c.opcode ps group c.operands (explicit_new declared c.operands c.body (local_once spec declared c (once spec declared c met))))
        (labels c.body) c.body (unmet.known spec declared c first) (unmet.fit spec declared c first)

    one_known : (m : Made) → AllLeaves (IsBodyLeaf spec.tokens (kinds declared c)) (body_of (body_scope declared c) c.opcode (labels c.body) c.body m)
        → IsConstructorOf spec.tokens types (constructor_of spec declared c m)
    one_known m leaves = record {
      names = length-map c.operands operand_name ∙ sym (length-picked (operand_kind declared c.equations) c.operands (operands_known spec declared c met));
      operands = kinds_known c types (more_types (new_type declared c.result));
      result = result_known c.result;
      body = leaves;
    }

    -- each of them is one over the description with its type
    pub constructors_known : All (IsConstructorOf spec.tokens types) (constructors_of spec declared c)
    constructors_known =
        let body = body_of (body_scope declared c) c.opcode (labels c.body) c.body in
        let P = λ (p : Pattern). AllLeaves (IsBodyLeaf spec.tokens (kinds declared c)) p in
        All-map (IsConstructorOf spec.tokens types) (constructor_of spec declared c) (makings declared c.opcode)
        (All-weaker (λ (m : Made). P (body m)) (λ (m : Made). IsConstructorOf spec.tokens types (constructor_of spec declared c m)) one_known (makings declared c.opcode)
        (All-unmap P body (makings declared c.opcode) leaves_known))

-- the body of such a constructor applies none
pub body_plain : (spec : Spec) (count : ℕ) (c : Constructor) → IsConstructorOf spec.tokens count c → AllLeaves IsNoApplication c.body
body_plain spec count c is = AllLeaves-weaker (IsBodyLeaf spec.tokens c.operands) IsNoApplication (λ p leaf. leaf.alone) c.body is.body
