-- The constructors that a declaration makes are such as plans are made of.
use Rattle.std.proofs.Common.{◌≡◌, ◌≢◌, ℕ, ◌≤◌, Bool, true, false, cond, List, [], ◌∷◌, ◌++◌, length, All, Some, None, slice_get, refl, sym, ap, ◌∙◌, subst}
use Rattle.std.specs.Prelude.{Option, AllPairs, IsSome, not, ◌&&◌, option_map, option_and_then}
use Rattle.std.specs.List.{list_all, filter_map}
use Rattle.std.specs.Option.{option_map_or}
use Rattle.std.proofs.lemmas.List.{map-id}
use Rattle.std.proofs.lemmas.List.Elements.{All-nil, All-cons, All-head, All-tail, All-same, All-map, All-weaker}
use Rattle.std.proofs.lemmas.List.Folds.{list_all-append}
use Rattle.token_bits.specs.declared.tokens.FieldId.{FieldId}
use Rattle.token_bits.specs.declared.tokens.Tokens.{Tokens}
use Rattle.sled_parser.specs.declared.tree.EqTree.{EqTree}
use Rattle.sled_parser.specs.declared.tree.OperandTree.{OperandTree}
use Rattle.sled_parser.specs.declared.tree.OperandTree.TheVariants.{Word, Extended, Typed}
use Rattle.sled_model.specs.declared.constructor.Constructor.{Constructor}
use Rattle.sled_model.specs.declared.constructor.OperandKind.TheVariants as kind
use Rattle.sled_model.specs.declared.constructor.TypeId.{TypeId}
use Rattle.sled_model.specs.declared.pattern.Pattern.{Pattern}
use Rattle.sled_model.specs.declared.spec.Spec.{Spec}
use Rattle.sled_model.specs.Linear.{IsLinear, IsEquationOf, kind_field, labels_in}
use Rattle.sled_model.specs.SolvingOrder.{bare_fields, is_among as is_number_among}
use Rattle.tree_meaning.specs.declared.scope.Meaning.{Meaning}
use Rattle.tree_meaning.specs.declared.scope.Meaning.TheVariants as meaning
use Rattle.tree_meaning.specs.Names.{is_among, are_distinct, are_new}
use Rattle.tree_meaning.specs.Bindings.{bound, word_binds}
use Rattle.tree_meaning.specs.Parts.{labels}
use Rattle.tree_meaning.specs.Patterns.{patterns_of, word_pattern}
use Rattle.tree_meaning.specs.Scopes.{Declared, meaning_of, field_named, type_named, as_field}
use Rattle.tree_meaning.specs.Sound.{IsSoundMeaning}
use Rattle.tree_meaning.proofs.Soundness.{found_all}
use Rattle.operand_meaning.specs.Equations.{equations_of}
use Rattle.operand_meaning.specs.Operands.{declared_kind, operand_kind, operand_name, operand_names, explicit_names}
use Rattle.operand_meaning.specs.Standing.{operands_stand, hidden_fields_stand, terms_stand}
use Rattle.operand_meaning.specs.Terms.{sliced_names, have_equations_in_range}
use Rattle.operand_meaning.proofs.EquationLaws.{IsMadeOf, equations_meet}
use Rattle.operand_meaning.proofs.ListFacts.{both_of}
use Rattle.operand_meaning.proofs.OperandLaws.{fields_are_bare, few_made}
use Rattle.constructor_scopes.specs.Bodies.{with_operands, with_member, first_of, body_of}
use Rattle.constructor_scopes.specs.Makings.{Made, names_behind, one_for_each, makings_by, makings}
use Rattle.constructor_scopes.proofs.BodySound.{opcode_fresh, explicit_new}
use Rattle.constructor_meaning.specs.Conditions.{conditions, bodies, body_scope, kinds}
use Rattle.constructor_meaning.specs.Constructing.{Constructing}
use Rattle.constructor_meaning.specs.Sound.{IsSoundScope}
use Rattle.constructor_meaning.specs.Unmet.{first_unmet}
use Rattle.constructor_meaning.proofs.ReadLemmas.{local_once, operands_differ}
use Rattle.constructor_plans.specs.Named.{FieldsAreNamed, PatternsBindNothing, BindsNothing}
use Rattle.constructor_plans.proofs.MetConditions.{IsMet, met_of}
use Rattle.constructor_plans.proofs.PickLemmas.{picked_among, picked_all, picked_twice, picked_differ}
use Rattle.constructor_plans.proofs.ScopeFields.{field_number, number_field, field_meaning, labels_free, word_fields, member_fields}
use Rattle.constructor_plans.proofs.SomePattern.{first_is}
use Rattle.constructor_plans.proofs.TreeFields.{bare_are, names_distinct}
use Rattle.constructor_plans.proofs.TreeLabels.{labels_are}

-- ---- bodies

-- the pattern's bare fields are these, and it has so many labels or more
pub record HasBareFields (fields : List ℕ) (count : ℕ) (p : Pattern) : Type 0 where
  pub bare : bare_fields p ≡ fields
  pub labelled : count ≤ length (labels_in p)

both_all : (fields : List ℕ) (count : ℕ) (ps : List Pattern) → All (λ p. bare_fields p ≡ fields) ps → All (λ p. count ≤ length (labels_in p)) ps → All (HasBareFields fields count) ps
both_all fields count [] bare labelled = All-nil (HasBareFields fields count)
both_all fields count (p ∷ ps) bare labelled =
    All-cons (HasBareFields fields count) p ps
    (record { bare = All-head (λ q. bare_fields q ≡ fields) p ps bare; labelled = All-head (λ q. count ≤ length (labels_in q)) p ps labelled })
    (both_all fields count ps (All-tail (λ q. bare_fields q ≡ fields) p ps bare) (All-tail (λ q. count ≤ length (labels_in q)) p ps labelled))

-- what is true of each member is true of each constructor that is made of one, and so of each where it is true of one of no member
made_each : (Q : Made → Type 0) (ns : List (List ℕ)) (ps : List Pattern) → All (λ (p : Pattern). (n : List ℕ) → Q (record { name = n; member = Some p })) ps → All Q (one_for_each ns ps)
made_each Q [] ps h = All-nil Q
made_each Q (n ∷ ns) [] h = All-nil Q
made_each Q (n ∷ ns) (p ∷ ps) h =
    All-cons Q (record { name = n; member = Some p }) (one_for_each ns ps) (All-head (λ (q : Pattern). (m : List ℕ) → Q (record { name = m; member = Some q })) p ps h n)
    (made_each Q ns ps (All-tail (λ (q : Pattern). (m : List ℕ) → Q (record { name = m; member = Some q })) p ps h))

made_by : (Q : Made → Type 0) (declared : Declared) (opcode : List ℕ) (o : Option Meaning) → ((n : List ℕ) → Q (record { name = n; member = None }))
    → ((ps : List Pattern) → o ≡ Some (meaning.Group ps) → All (λ (p : Pattern). (n : List ℕ) → Q (record { name = n; member = Some p })) ps) → All Q (makings_by declared opcode o)
made_by Q declared opcode (Some (meaning.Group ps)) lone group = made_each Q (names_behind declared opcode) ps (group ps refl)
made_by Q declared opcode _ lone group = All-cons Q (record { name = opcode; member = None }) [] (lone opcode) (All-nil Q)

module _ (spec : Spec) (declared : Declared) (c : Constructing) (sound : IsSoundScope spec declared) (met : IsMet spec declared c) (nothing : PatternsBindNothing declared) where
  abbrev scope : Declared
  scope = with_operands declared c.operands

  abbrev number : List ℕ → Option ℕ
  number = field_number declared

  abbrev pub fields_bound : List ℕ
  fields_bound = filter_map number (bound scope c.body)

  abbrev HasFields : Pattern → Type 0
  HasFields p = HasBareFields fields_bound (length (labels c.body)) p

  explicit : are_new declared.names (explicit_names c.operands) ≡ true
  explicit = explicit_new declared c.operands c.body (local_once spec declared c met.once)

  new_labels : are_new declared.names (labels c.body) ≡ true
  new_labels =
      let is_new = λ (n : List ℕ). not (is_among declared.names n) in
      let all = (both_of (are_distinct (operand_names c.operands ++ labels c.body)) (are_new declared.names (explicit_names c.operands ++ labels c.body)) (local_once spec declared c met.once)).1 in
      (both_of (list_all is_new (explicit_names c.operands)) (list_all is_new (labels c.body)) (sym (list_all-append is_new (explicit_names c.operands) (labels c.body)) ∙ all)).1

  body_in : (d : Declared) → ((w : List ℕ) → bare_fields (word_pattern d w) ≡ filter_map number (cond (word_binds scope w) (w ∷ []) []))
      → HasFields (first_of (patterns_of d (labels c.body) c.body))
  body_in d word =
      let ps = patterns_of d (labels c.body) c.body in
      first_is HasFields d (labels c.body) c.body met.single
      (both_all fields_bound (length (labels c.body)) ps
      (bare_are d scope (labels c.body) number word c.body met.sides met.binds (labels_free declared sound.local_names c.body new_labels)) (labels_are d (labels c.body) c.body))

  outer_nothing : (w : List ℕ) (m : Meaning) → meaning_of declared w ≡ Some m → BindsNothing m
  outer_nothing w m is =
      found_all BindsNothing declared nothing (All-same BindsNothing declared.local_meanings [] sound.local_meanings (All-nil BindsNothing)) w m is

  members_have : (ps : List Pattern) → meaning_of declared c.opcode ≡ Some (meaning.Group ps)
      → All (λ (p : Pattern). (n : List ℕ) → HasFields (body_of scope c.opcode (labels c.body) c.body (record { name = n; member = Some p }))) ps
  members_have ps group =
      let fresh = opcode_fresh declared sound.local_names c.opcode ps group c.operands explicit in
      All-weaker (λ p. bare_fields p ≡ []) (λ (p : Pattern). (n : List ℕ) → HasFields (body_of scope c.opcode (labels c.body) c.body (record { name = n; member = Some p })))
      (λ p bare n. body_in (with_member scope c.opcode (Some p)) (member_fields declared sound.local_names c.operands explicit nothing c.opcode ps group fresh p bare)) ps
      (outer_nothing c.opcode (meaning.Group ps) group)

  -- the bare fields of each body are the fields that the tree binds, and it has each label
  pub bodies_have : All HasFields (bodies declared c)
  bodies_have =
      All-map HasFields (body_of scope c.opcode (labels c.body) c.body) (makings declared c.opcode)
      (made_by (λ m. HasFields (body_of scope c.opcode (labels c.body) c.body m)) declared c.opcode (meaning_of declared c.opcode)
      (λ n. body_in scope (word_fields declared sound.local_names c.operands explicit nothing)) members_have)

-- ---- operands

module _ (declared : Declared) (equations : List EqTree) where
  abbrev kind_number : OperandTree → Option ℕ
  kind_number o = option_and_then kind_field (operand_kind declared equations o)

  word_number : (w : List ℕ) (n : ℕ) (m : Option Meaning) (is_sliced : Bool)
      → option_and_then kind_field (option_map_or declared_kind m (Some (cond is_sliced kind.Sliced kind.Whole))) ≡ Some n
      → option_map (λ (f : FieldId). f.0) (option_and_then as_field m) ≡ Some n
  word_number w n None true is = cc
  word_number w n None false is = cc
  word_number w n (Some (meaning.Field f)) is_sliced is = is
  word_number w n (Some (meaning.Type t)) is_sliced is = cc
  word_number w n (Some _) is_sliced is = cc

  extended_number : (n : ℕ) (o : Option FieldId) → option_and_then kind_field (option_map kind.Extended o) ≡ Some n → option_map (λ (f : FieldId). f.0) o ≡ Some n
  extended_number n None is = cc
  extended_number n (Some f) is = is

  typed_number : (n : ℕ) (o : Option TypeId) (p : Option ℕ) → option_and_then kind_field (option_map kind.Typed o) ≡ Some n → p ≡ Some n
  typed_number n None p is = cc
  typed_number n (Some t) p is = cc

  -- an operand that is a field has that field's name
  operand_number : (o : OperandTree) (n : ℕ) → kind_number o ≡ Some n → field_number declared (operand_name o) ≡ Some n
  operand_number (Word w) n is = word_number w n (meaning_of declared w) (is_among (sliced_names equations) w) is
  operand_number (Extended w) n is = extended_number n (field_named declared w) is
  operand_number (Typed m r) n is = typed_number n (type_named declared r) (field_number declared m) is

one_name : (declared : Declared) → FieldsAreNamed declared → (v w : List ℕ) (n : ℕ) → field_number declared v ≡ Some n → field_number declared w ≡ Some n → v ≡ w
one_name declared named v w n here there =
    let f = number_field (field_named declared v) n here in
    let g = number_field (field_named declared w) n there in
    let same : g.0 ≡ f.0 = ap (λ k. record { 0 = k }) (g.2 ∙ sym f.2) in
    named v w f.0 (field_meaning (meaning_of declared v) f.0 f.1) (field_meaning (meaning_of declared w) f.0 (g.1 ∙ ap Some same))

field_known : (tokens : Tokens) (m : Meaning) (f : FieldId) → m ≡ meaning.Field f → IsSoundMeaning tokens m → IsSome (slice_get tokens.fields f.0)
field_known tokens m f is h = subst (IsSoundMeaning tokens) is h

-- ---- constructors

-- the constructor has the operands and the equations of the declaration, and this body
pub record IsConstructorOf (declared : Declared) (c : Constructing) (made : Pattern) (k : Constructor) : Type 0 where
  pub operands : k.operands ≡ kinds declared c
  pub equations : k.equations ≡ equations_of declared (labels c.body) c.operands c.equations
  pub body : k.body ≡ made

module _ (spec : Spec) (declared : Declared) (c : Constructing) (sound : IsSoundScope spec declared) (unmet : first_unmet (conditions spec declared c) ≡ None)
    (range : have_equations_in_range c.equations ≡ true) (named : FieldsAreNamed declared) (nothing : PatternsBindNothing declared) where
  met : IsMet spec declared c
  met = met_of spec declared c unmet

  abbrev names : List (List ℕ)
  names = bound (body_scope declared c) c.body

  abbrev fields : List ℕ
  fields = filter_map (field_number declared) names

  numbers_known : (w : List ℕ) (n : ℕ) → field_number declared w ≡ Some n → IsSome (slice_get spec.tokens.fields n)
  numbers_known w n is =
      let f = number_field (field_named declared w) n is in
      let m = field_meaning (meaning_of declared w) f.0 f.1 in
      let h : IsSome (slice_get spec.tokens.fields f.0.0) =
      found_all (IsSoundMeaning spec.tokens) declared sound.sound (All-same (IsSoundMeaning spec.tokens) declared.local_meanings [] sound.local_meanings (All-nil (IsSoundMeaning spec.tokens))) w (meaning.Field f.0) m in
      subst (λ k. IsSome (slice_get spec.tokens.fields k)) f.2 h

  module _ (k : Constructor) (p : Pattern) (is : IsConstructorOf declared c p k) (has : HasBareFields fields (length (labels c.body)) p) where
    bare : bare_fields k.body ≡ fields
    bare = ap bare_fields is.body ∙ has.bare

    made : IsMadeOf declared names (labels c.body) c.operands c.equations k
    made = record {
      kinds = is.operands;
      fields = λ w f among field. ap (λ fs. is_number_among fs f.0) bare ∙ picked_among (field_number declared) w f.0 (ap (option_map (λ (g : FieldId). g.0)) field) names among;
      labelled = subst (λ q. length (labels c.body) ≤ length (labels_in q)) (sym is.body) has.labelled;
    }

    stands : (operands_stand declared names c.operands c.equations ≡ true) × (hidden_fields_stand declared names c.operands c.equations ≡ true)
    stands =
        both_of (operands_stand declared names c.operands c.equations) (hidden_fields_stand declared names c.operands c.equations)
        (both_of (operands_stand declared names c.operands c.equations && hidden_fields_stand declared names c.operands c.equations) (terms_stand declared names (labels c.body) c.operands c.equations) met.stand).0

    operand_fields : filter_map kind_field k.operands ≡ filter_map (λ o. option_and_then kind_field (operand_kind declared c.equations o)) c.operands
    operand_fields = ap (filter_map kind_field) is.operands ∙ picked_twice kind_field (operand_kind declared c.equations) c.operands

    pub linear_with : IsLinear spec.tokens k
    linear_with =
        let few = few_made declared (labels c.body) c.operands c.equations met.within in
        let differ = λ (f g : ℕ). f ≢ g in
        record {
          known = All-same (λ f. IsSome (slice_get spec.tokens.fields f)) (bare_fields k.body) fields bare
              (picked_all (λ f. IsSome (slice_get spec.tokens.fields f)) (field_number declared) numbers_known names);
          once = subst (AllPairs differ) (sym bare)
              (picked_differ (λ (w : List ℕ). w) (field_number declared) (field_number declared) (λ w n e. e) (one_name declared named) names
              (ap are_distinct (map-id names) ∙ names_distinct (body_scope declared c) c.body));
          bare = fields_are_bare declared names (labels c.body) c.operands c.equations k made stands.0;
          apart = subst (AllPairs differ) (sym operand_fields)
              (picked_differ operand_name (λ o. option_and_then kind_field (operand_kind declared c.equations o)) (field_number declared) (operand_number declared c.equations) (one_name declared named) c.operands
              (operands_differ spec declared c met.once));
          few_operands = subst (λ ks. length ks ≤ 16) (sym is.operands) few.0;
          few_equations = subst (λ es. length es ≤ 32) (sym is.equations) few.1;
          equations = All-same (IsEquationOf k) k.equations (equations_of declared (labels c.body) c.operands c.equations) is.equations
              (equations_meet declared names (labels c.body) c.operands c.equations k made met.operands met.stand met.within range);
        }

  -- whatever constructor has one of the bodies is such as plans are made of
  pub linear_of : All (λ (p : Pattern). (k : Constructor) → IsConstructorOf declared c p k → IsLinear spec.tokens k) (bodies declared c)
  linear_of =
      All-weaker (HasBareFields fields (length (labels c.body))) (λ (p : Pattern). (k : Constructor) → IsConstructorOf declared c p k → IsLinear spec.tokens k)
      (λ p has k is. linear_with k p is has) (bodies declared c) (bodies_have spec declared c sound met nothing)
