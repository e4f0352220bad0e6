-- Each field and each type keeps one name, and no pattern that a name stands for gets a bare field, where a declaration that lacks nothing is
-- added.
use Rattle.std.proofs.Common.{◌≡◌, ℕ, zero, suc, ◌+◌, ◌<◌, ◌≤◌, ◌⊎◌, inl, inr, Bool, true, false, cond, List, [], ◌∷◌, ◌++◌, length, map, All, slice_get, Option, Some, None, refl, sym, ap, subst, ◌∙◌, arith}
use Rattle.std.specs.Prelude.{bytes_eq, fold}
use Rattle.std.specs.List.{filter_map}
use Rattle.std.specs.Option.{option_or}
use Rattle.std.proofs.lemmas.List.{length_push}
use Rattle.std.proofs.lemmas.List.Elements.{All-nil, All-head, All-tail, All-map, All-push, All-weaker}
use Rattle.std.proofs.lemmas.Slice.Eq.{bytes_eq-Decides}
use Rattle.sled_parser.specs.declared.tree.Decl.{Decl}
use Rattle.sled_parser.specs.declared.tree.Decl.TheVariants as decl
use Rattle.sled_parser.specs.declared.tree.FieldTree.{FieldTree}
use Rattle.sled_parser.specs.declared.tree.ItemTree.{ItemTree}
use Rattle.sled_parser.specs.declared.tree.PatternTree.{PatternTree}
use Rattle.token_bits.specs.declared.tokens.FieldId.{FieldId}
use Rattle.sled_model.specs.declared.constructor.TypeId.{TypeId}
use Rattle.sled_model.specs.declared.pattern.Pattern.{Pattern}
use Rattle.sled_model.specs.declared.spec.Spec.{Spec}
use Rattle.sled_model.specs.SolvingOrder.{bare_fields}
use Rattle.sled_model.proofs.LeafLemmas.{known_below}
use Rattle.tree_meaning.specs.declared.scope.Meaning.{Meaning}
use Rattle.tree_meaning.specs.declared.scope.Meaning.TheVariants as meaning
use Rattle.tree_meaning.specs.Bindings.{bound, word_binds, are_none}
use Rattle.tree_meaning.specs.Patterns.{patterns_of, word_pattern}
use Rattle.tree_meaning.specs.Scopes.{Declared, meaning_among, meaning_of}
use Rattle.tree_meaning.specs.Sound.{IsSoundMeaning}
use Rattle.tree_meaning.proofs.Soundness.{found_all}
use Rattle.constructor_scopes.specs.Bodies.{with_operands}
use Rattle.constructor_scopes.proofs.MemberLemmas.{among_more}
use Rattle.constructor_meaning.specs.Constructing.{Constructing}
use Rattle.constructor_meaning.specs.Unmet.{first_unmet}
use Rattle.constructor_building.specs.Building.{naming_new_type, next_type, new_type}
use Rattle.constructor_meaning.specs.Sound.{NamesKnownType}
use Rattle.constructor_plans.specs.Named.{PatternsBindNothing, BindsNothing}
use Rattle.constructor_plans.proofs.ScopeFields.{field_number, word_fields}
use Rattle.constructor_plans.proofs.PickLemmas.{none_is}
use Rattle.constructor_plans.proofs.TreeFields.{none_bare}
use Rattle.sled_elab.specs.Conditions.{IsLackOf, definition_conditions}
use Rattle.sled_elab.specs.Elaboration.{after}
use Rattle.sled_elab.specs.Declarations.{Described, with_name, with_class_alone, with_field, with_class, members, first_of, with_member, with_patterns, with_definition, with_built, constructor_tree, nothing}
use Rattle.sled_elab.specs.Descriptions.{IsSound, HasPlainNames}
use Rattle.sled_elab.proofs.DefinitionSound.{members_all}

-- what is of this kind, as a field or a type, has one name
abbrev HasOneName : {K : Type 0} → (K → Meaning) → Declared → Type 0
HasOneName {K} kind declared = (v w : List ℕ) (k : K) → meaning_of declared v ≡ Some (kind k) → meaning_of declared w ≡ Some (kind k) → v ≡ w

-- ---- one name more

module _ (declared : Declared) (outside : declared.local_names ≡ []) (many : length declared.meanings ≡ length declared.names) (name : List ℕ) (m : Meaning) where
  -- a name stands for what it stood for, or is the one that was added
  more_meaning : (w : List ℕ) (x : Meaning) → meaning_of (with_name declared name m) w ≡ Some x → (meaning_of declared w ≡ Some x) ⊎ ((w ≡ name) × (x ≡ m))
  more_meaning w x is = by_old (meaning_among declared.names declared.meanings w) (bytes_eq w name) refl refl whole where
    outer : (ns : List (List ℕ)) (ms : List Meaning) → option_or (meaning_among declared.local_names declared.local_meanings w) (meaning_among ns ms w) ≡ meaning_among ns ms w
    outer ns ms = ap (λ locals. option_or (meaning_among locals declared.local_meanings w) (meaning_among ns ms w)) outside

    whole : option_or (meaning_among declared.names declared.meanings w) (cond (bytes_eq w name) (Some m) None) ≡ Some x
    whole = sym (among_more declared.names declared.meanings name m w (sym many)) ∙ sym (outer (declared.names ++ name ∷ []) (declared.meanings ++ m ∷ [])) ∙ is

    by_old : (o : Option Meaning) (t : Bool) → meaning_among declared.names declared.meanings w ≡ o → bytes_eq w name ≡ t → option_or o (cond t (Some m) None) ≡ Some x
        → (meaning_of declared w ≡ Some x) ⊎ ((w ≡ name) × (x ≡ m))
    by_old (Some y) t old is h = inl (outer declared.names declared.meanings ∙ old ∙ h)
    by_old None true old is h = let same : m ≡ x = cc in inr ((bytes_eq-Decides w name).0 is, sym same)
    by_old None false old is h = cc

  -- what is of one kind keeps one name, where the new name is of nothing that had one
  named_more : {K : Type 0} (kind : K → Meaning) → ((w : List ℕ) (k : K) → m ≡ kind k → meaning_of declared w ≡ Some (kind k) → ⊥) → HasOneName kind declared
      → HasOneName kind (with_name declared name m)
  named_more kind other named v w k here there = by_both (more_meaning v (kind k) here) (more_meaning w (kind k) there) where
    by_both : (meaning_of declared v ≡ Some (kind k)) ⊎ ((v ≡ name) × (kind k ≡ m)) → (meaning_of declared w ≡ Some (kind k)) ⊎ ((w ≡ name) × (kind k ≡ m)) → v ≡ w
    by_both (inl a) (inl b) = named v w k a b
    by_both (inl a) (inr b) = absurd (other v k (sym b.1) a)
    by_both (inr a) (inl b) = absurd (other w k (sym a.1) b)
    by_both (inr a) (inr b) = a.0 ∙ sym b.0

-- ---- what is carried from name to name

-- it is no field, or one of the first n
abbrev IsFieldBelow : ℕ → Meaning → Type 0
IsFieldBelow n (meaning.Field f) = f.0 < n
IsFieldBelow n _ = Unit {0}

-- it is no type, or one of the first n
abbrev IsTypeBelow : ℕ → Meaning → Type 0
IsTypeBelow n (meaning.Type t) = t.0 < n
IsTypeBelow n _ = Unit {0}

-- it is no field and no type, or one behind the first so many
abbrev IsBehind : ℕ → ℕ → Meaning → Type 0
IsBehind fields types (meaning.Field f) = fields ≤ f.0
IsBehind fields types (meaning.Type t) = types ≤ t.0
IsBehind fields types _ = Unit {0}

record IsOutside (fields types : ℕ) (declared : Declared) : Type 0 where
  pub local_names : declared.local_names ≡ []
  pub local_meanings : declared.local_meanings ≡ []
  pub many : length declared.meanings ≡ length declared.names
  pub fields_below : All (IsFieldBelow fields) declared.meanings
  pub types_below : All (IsTypeBelow types) declared.meanings
  pub plain : HasPlainNames declared

fields_more : (n k : ℕ) → n ≤ k → (m : Meaning) → IsFieldBelow n m → IsFieldBelow k m
fields_more n k le (meaning.Class c) h = tt
fields_more n k le (meaning.Field f) h = omega (arith, h)
fields_more n k le (meaning.Pattern p) h = tt
fields_more n k le (meaning.Group ps) h = tt
fields_more n k le (meaning.Type t) h = tt
fields_more n k le (meaning.Operand o) h = tt

types_more : (n k : ℕ) → n ≤ k → (m : Meaning) → IsTypeBelow n m → IsTypeBelow k m
types_more n k le (meaning.Class c) h = tt
types_more n k le (meaning.Field f) h = tt
types_more n k le (meaning.Pattern p) h = tt
types_more n k le (meaning.Group ps) h = tt
types_more n k le (meaning.Type t) h = omega (arith, h)
types_more n k le (meaning.Operand o) h = tt

field_clash : (n t : ℕ) (m : Meaning) (f : FieldId) → m ≡ meaning.Field f → IsBehind n t m → IsFieldBelow n (meaning.Field f) → ⊥
field_clash n t m f is from below =
    let here : n ≤ f.0 = subst (IsBehind n t) is from in
    omega (arith, here, below)

type_clash : (n t : ℕ) (m : Meaning) (u : TypeId) → m ≡ meaning.Type u → IsBehind n t m → IsTypeBelow t (meaning.Type u) → ⊥
type_clash n t m u is from below =
    let here : t ≤ u.0 = subst (IsBehind n t) is from in
    omega (arith, here, below)

-- what holds of each meaning holds of the one of a name
meant_all : (n t : ℕ) (P : Meaning → Type 0) (declared : Declared) → IsOutside n t declared → All P declared.meanings → (w : List ℕ) (m : Meaning) → meaning_of declared w ≡ Some m → P m
meant_all n t P declared h all w m is = found_all P declared all (subst (All P) (sym h.local_meanings) (All-nil P)) w m is

module _ (n k t u : ℕ) (wider : n ≤ k) (longer : t ≤ u) (declared : Declared) (h : IsOutside n t declared) (name : List ℕ) (m : Meaning) (from : IsBehind n t m) where
  one_more : IsFieldBelow k m → IsTypeBelow u m → BindsNothing m → IsOutside k u (with_name declared name m)
  one_more field type bare = record {
    local_names = h.local_names;
    local_meanings = h.local_meanings;
    many = length_push declared.meanings m ∙ ap (λ l. l + 1) h.many ∙ sym (length_push declared.names name);
    fields_below = All-push (IsFieldBelow k) declared.meanings m (All-weaker (IsFieldBelow n) (IsFieldBelow k) (fields_more n k wider) declared.meanings h.fields_below) field;
    types_below = All-push (IsTypeBelow u) declared.meanings m (All-weaker (IsTypeBelow t) (IsTypeBelow u) (types_more t u longer) declared.meanings h.types_below) type;
    plain = record {
      fields = named_more declared h.local_names h.many name m meaning.Field
          (λ w f is there. field_clash n t m f is from (meant_all n t (IsFieldBelow n) declared h h.fields_below w (meaning.Field f) there))
          h.plain.fields;
      types = named_more declared h.local_names h.many name m meaning.Type
          (λ w x is there. type_clash n t m x is from (meant_all n t (IsTypeBelow t) declared h h.types_below w (meaning.Type x) there))
          h.plain.types;
      patterns = All-push BindsNothing declared.meanings m h.plain.patterns bare;
    };
  }

sound_field : (d : Described) (m : Meaning) → IsSoundMeaning d.spec.tokens m → IsFieldBelow (length d.spec.tokens.fields) m
sound_field d (meaning.Class c) h = tt
sound_field d (meaning.Field f) h = known_below d.spec.tokens.fields f.0 h
sound_field d (meaning.Pattern p) h = tt
sound_field d (meaning.Group ps) h = tt
sound_field d (meaning.Type t) h = tt
sound_field d (meaning.Operand k) h = tt

sound_type : (d : Described) (m : Meaning) → NamesKnownType d.spec m → IsTypeBelow (length d.spec.type_names) m
sound_type d (meaning.Class c) h = tt
sound_type d (meaning.Field f) h = tt
sound_type d (meaning.Pattern p) h = tt
sound_type d (meaning.Group ps) h = tt
sound_type d (meaning.Type t) h = h
sound_type d (meaning.Operand k) h = tt

outside_of : (d : Described) → IsSound d → HasPlainNames d.declared → IsOutside (length d.spec.tokens.fields) (length d.spec.type_names) d.declared
outside_of d s plain = record {
  local_names = s.local_names;
  local_meanings = s.local_meanings;
  many = s.meanings;
  fields_below = All-weaker (IsSoundMeaning d.spec.tokens) (IsFieldBelow (length d.spec.tokens.fields)) (sound_field d) d.declared.meanings s.sound;
  types_below = All-weaker (NamesKnownType d.spec) (IsTypeBelow (length d.spec.type_names)) (sound_type d) d.declared.meanings s.types;
  plain = plain;
}

-- ---- a class

fields_outside : (c t : ℕ) (d : Described) (fields : List FieldTree) → IsOutside (length d.spec.tokens.fields) t d.declared → HasPlainNames (fold (with_field c) d fields).declared
fields_outside c t d [] h = h.plain
fields_outside c t d (f ∷ fs) h =
    let more = with_field c d f in
    let n = length d.spec.tokens.fields in
    let k = length more.spec.tokens.fields in
    let longer : k ≡ n + 1 = length_push d.spec.tokens.fields _ in
    fields_outside c t more fs
    (one_more n k t t (omega (arith, longer)) (omega arith) d.declared h f.name (meaning.Field (record { 0 = n })) (omega arith) (omega (arith, longer)) tt tt)

pub class_plain : (d : Described) → IsSound d → HasPlainNames d.declared → (name width : List ℕ) (little : Bool) (fields : List FieldTree) → HasPlainNames (with_class d name width little fields).declared
class_plain d s plain name width little fields =
    let n = length d.spec.tokens.fields in
    let t = length d.spec.type_names in
    fields_outside (length d.spec.tokens.classes) t (with_class_alone d name width little) fields
    (one_more n n t t (omega arith) (omega arith) d.declared (outside_of d s plain) name (meaning.Class (record { 0 = length d.spec.tokens.classes })) tt tt tt tt)

-- ---- a pattern or a group

module _ (n t : ℕ) where
  same_more : (declared : Declared) → IsOutside n t declared → (name : List ℕ) (m : Meaning) → IsBehind n t m → IsFieldBelow n m → IsTypeBelow t m → BindsNothing m
      → IsOutside n t (with_name declared name m)
  same_more declared h name m from = one_more n n t t (omega arith) (omega arith) declared h name m from

  members_outside : (declared : Declared) → IsOutside n t declared → (ms : List (List ℕ × Pattern)) → All (λ m. bare_fields m.1 ≡ []) ms → HasPlainNames (fold with_member declared ms)
  members_outside declared h [] bare = h.plain
  members_outside declared h (m ∷ ms) bare =
      let P = λ (x : List ℕ × Pattern). bare_fields x.1 ≡ [] in
      members_outside (with_member declared m) (same_more declared h m.0 (meaning.Pattern m.1) tt tt tt (All-head P m ms bare)) ms (All-tail P m ms bare)

  first_bare : (ps : List Pattern) → All (λ p. bare_fields p ≡ []) ps → bare_fields (first_of ps) ≡ []
  first_bare [] h = refl
  first_bare (p ∷ ps) h = All-head (λ q. bare_fields q ≡ []) p ps h

  patterns_outside : (declared : Declared) → IsOutside n t declared → (name : List ℕ) (items : Option (List ItemTree)) (ps : List Pattern) → All (λ p. bare_fields p ≡ []) ps
      → HasPlainNames (with_patterns declared name items ps)
  patterns_outside declared h name None ps bare = (same_more declared h name (meaning.Pattern (first_of ps)) tt tt tt (first_bare ps bare)).plain
  patterns_outside declared h name (Some items) ps bare =
      let P = λ (p : Pattern). bare_fields p ≡ [] in
      let ms = members items ps in
      let all = members_all P items ps bare in
      let group = map (λ (m : List ℕ × Pattern). m.1) ms in
      members_outside (with_name declared name (meaning.Group group)) (same_more declared h name (meaning.Group group) tt tt tt (All-map P (λ m. m.1) ms all)) ms all

module _ (declared : Declared) (outside : declared.local_names ≡ []) (meanings : declared.local_meanings ≡ []) (nothing : PatternsBindNothing declared) where
  no_operands : with_operands declared [] ≡ declared
  no_operands = λ i. record { names = declared.names; meanings = declared.meanings; local_names = sym outside i; local_meanings = sym meanings i }

  -- the bare fields of a word are those of the names that it binds
  word_bare : (w : List ℕ) → bare_fields (word_pattern declared w) ≡ filter_map (field_number declared) (cond (word_binds declared w) (w ∷ []) [])
  word_bare w =
      subst (λ s. bare_fields (word_pattern s w) ≡ filter_map (field_number declared) (cond (word_binds s w) (w ∷ []) [])) no_operands (word_fields declared outside [] refl nothing w)

  -- a tree that binds nothing makes patterns without bare fields
  tree_bare : (tree : PatternTree) → bound declared tree ≡ [] → All (λ p. bare_fields p ≡ []) (patterns_of declared [] tree)
  tree_bare tree none = none_bare declared declared [] (field_number declared) word_bare tree none

pub definition_names_plain : (d : Described) → IsSound d → HasPlainNames d.declared → (name : List ℕ) (items : Option (List ItemTree)) (tree : PatternTree) → bound d.declared tree ≡ []
    → HasPlainNames (with_definition d name items tree).declared
definition_names_plain d s plain name items tree none =
    patterns_outside (length d.spec.tokens.fields) (length d.spec.type_names) d.declared (outside_of d s plain) name items (patterns_of d.declared [] tree)
    (tree_bare d.declared s.local_names s.local_meanings plain.patterns tree none)

-- ---- constructors

type_plain : (spec : Spec) (declared : Declared) (n : ℕ) → IsOutside n (length spec.type_names) declared → (new : Option (List ℕ)) → HasPlainNames (naming_new_type spec declared new)
type_plain spec declared n h None = h.plain
type_plain spec declared n h (Some name) =
    let t = length spec.type_names in
    (one_more n n t (t + 1) (omega arith) (omega arith) declared h name (meaning.Type (next_type spec)) (omega arith) tt (omega arith) tt).plain

pub built_plain : (d : Described) → IsSound d → HasPlainNames d.declared → (c : Constructing) → HasPlainNames (with_built d c).declared
built_plain d s plain c = type_plain d.spec d.declared (length d.spec.tokens.fields) (outside_of d s plain) (new_type d.declared c.result)

-- ---- a declaration that lacks nothing

-- where no condition is unmet, this one is met
abbrev IsMetAt : Option (ℕ × Bool) → Type 0
IsMetAt None = Unit {0}
IsMetAt (Some c) = c.1 ≡ true

met_case : (t : Bool) (n : ℕ) (o : Option ℕ) → cond t o (Some n) ≡ None → (t ≡ true) × (o ≡ None)
met_case true n o h = (refl, h)
met_case false n o h = cc

met_at : (k : ℕ) (cs : List (ℕ × Bool)) → first_unmet cs ≡ None → IsMetAt (slice_get cs k)
met_at k [] h = tt
met_at zero (c ∷ cs) h = (met_case c.1 c.0 (first_unmet cs) h).0
met_at (suc k) (c ∷ cs) h = met_at k cs (met_case c.1 c.0 (first_unmet cs) h).1

bound_nothing : (d : Described) (name : List ℕ) (items : Option (List ItemTree)) (tree : PatternTree) → None ≡ first_unmet (definition_conditions d name items tree) → bound d.declared tree ≡ []
bound_nothing d name items tree h =
    let cs = definition_conditions d name items tree in
    let none : are_none (bound d.declared tree) ≡ true = met_at 7 cs (sym h) in
    none_is (bound d.declared tree) none

pub plain_after : (d : Described) (x : Decl) → IsSound d → HasPlainNames d.declared → IsLackOf d x None → HasPlainNames (after d x).declared
plain_after d (decl.Class name width little fields) s plain h = class_plain d s plain name width little fields
plain_after d (decl.Heading section) s plain h = plain
plain_after d (decl.Definition name items tree) s plain h = definition_names_plain d s plain name items tree (bound_nothing d name items tree h)
plain_after d (decl.ConstructorDecl opcode operands makes equations body) s plain h = built_plain d s plain (constructor_tree opcode operands makes equations body)

pub nothing_plain : HasPlainNames nothing.declared
nothing_plain = record { fields = λ v w f here there. cc; types = λ v w t here there. cc; patterns = All-nil BindsNothing }
