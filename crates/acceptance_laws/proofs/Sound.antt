-- A description stays sound where a declaration that lacks nothing is added.
use Rattle.std.proofs.Common.{◌≡◌, ℕ, ◌<◌, ◌≤◌, ◌^◌, Bool, true, false, List, [], ◌∷◌, ◌++◌, length, map, slice_get, IsSome, All, Option, Some, None, refl, sym, subst, ◌∙◌, arith}
use Rattle.std.specs.Prelude.{fold}
use Rattle.std.specs.List.{list_all}
use Rattle.std.specs.Option.{IsSomeAnd}
use Rattle.std.proofs.lemmas.List.Elements.{All-nil, All-push, All-weaker}
use Rattle.sled_lexer.specs.Spelled.{number_value}
use Rattle.sled_parser.specs.declared.tree.FieldTree.{FieldTree}
use Rattle.sled_parser.specs.declared.tree.ItemTree.{ItemTree}
use Rattle.sled_parser.specs.declared.tree.PatternTree.{PatternTree}
use Rattle.token_bits.specs.declared.tokens.Class.{Class}
use Rattle.token_bits.specs.declared.tokens.Field.{Field}
use Rattle.token_bits.specs.declared.tokens.Tokens.{Tokens}
use Rattle.token_bits.specs.Tokens.{AreTokens, IsFieldOf, IsWidth}
use Rattle.sled_model.specs.declared.constructor.Constructor.{Constructor}
use Rattle.sled_model.specs.declared.spec.Spec.{Spec}
use Rattle.sled_model.specs.Specs.{IsSpec, IsConstructorOf, constructor_names_of}
use Rattle.sled_model.proofs.SpecLemmas as spec_with
use Rattle.tree_meaning.specs.Names.{is_among}
use Rattle.tree_meaning.specs.Scopes.{Declared, meaning_of}
use Rattle.tree_meaning.specs.Sound.{IsSoundMeaning}
use Rattle.constructor_meaning.specs.Conditions.{conditions}
use Rattle.constructor_meaning.specs.Constructing.{Constructing}
use Rattle.constructor_meaning.specs.Sound.{IsSoundScope, NamesKnownType}
use Rattle.constructor_meaning.specs.Unmet.{first_unmet}
use Rattle.constructor_meaning.proofs.UnmetLemmas.{all_met}
use Rattle.constructor_building.specs.Building.{new_type, with_new_type, with_type, naming_new_type, naming_type, constructors_of, with_constructors}
use Rattle.constructor_building.proofs.BuiltLemmas.{new_free, fresh_later, known_later}
use Rattle.constructor_building.proofs.MetLemmas.{split_met}
use Rattle.constructor_building.proofs.ScopeLemmas as scope_with
use Rattle.sled_elab.specs.Conditions.{are_declared_once, has_widths, is_class_width, is_field_of, class_conditions, naming_conditions, forming_conditions, definition_conditions}
use Rattle.sled_elab.specs.Declarations.{Described, nothing, class_of, class_names, field_of, field_name, with_class_alone, with_field, with_class, with_definition, with_built}
use Rattle.sled_elab.specs.Descriptions.{IsSound}
use Rattle.sled_elab.proofs.ClassLemmas.{class_width, field_place, class_new}
use Rattle.sled_elab.proofs.DefinitionLemmas.{both_of, first_fresh, others_once}
use Rattle.sled_elab.proofs.DefinitionSound.{definition_sound}
use Rattle.sled_elab.proofs.DescriptionLemmas as named_with
use Rattle.sled_elab.proofs.Growing.{slice_get-front}
use Rattle.tree_meaning.specs.Patterns.{patterns_of}
use Rattle.acceptance_laws.proofs.Added.{all_added}
use Rattle.acceptance_laws.proofs.Counting.{IsAmong}

-- ---- a class

-- the field's bits end inside the tokens of this class
abbrev EndsInside : Field → Option Class → Type 0
EndsInside f o = IsSomeAnd o (λ (c : Class). f.hi < c.width)

ends_inside : (classes : List Class) (class : Class) (f : Field) (o : Option Class) → slice_get classes f.class.0 ≡ o → EndsInside f o → EndsInside f (slice_get (classes ++ class ∷ []) f.class.0)
ends_inside classes class f None is inside = absurd inside
ends_inside classes class f (Some c) is inside =
    let some : IsSome (slice_get classes f.class.0) = rw is refl in
    subst (EndsInside f) (sym (slice_get-front classes (class ∷ []) f.class.0 some ∙ is)) inside

-- a field of one of the classes is one where there is a class more
field_kept : (classes : List Class) (class : Class) (f : Field) → IsFieldOf classes f → IsFieldOf (classes ++ class ∷ []) f
field_kept classes class f h = (h.0, ends_inside classes class f (slice_get classes f.class.0) refl h.1)

module _ (width : List ℕ) (little : Bool) where
  class_alone_sound : (d : Described) → IsSound d → (name : List ℕ) → is_among d.declared.names name ≡ false → IsWidth (number_value width) → IsSound (with_class_alone d name width little)
  class_alone_sound d s name new wide =
      let class = class_of width little in
      let tokens : Tokens = record { classes = d.spec.tokens.classes ++ class ∷ []; fields = d.spec.tokens.fields } in
      let now : AreTokens tokens = record {
        widths = All-push (λ (c : Class). IsWidth c.width) d.spec.tokens.classes class s.spec.tokens.widths wide;
        fields = All-weaker (IsFieldOf d.spec.tokens.classes) (IsFieldOf tokens.classes) (field_kept d.spec.tokens.classes class) d.spec.tokens.fields s.spec.tokens.fields;
      } in
      let alone = with_class_alone d name width little in
      let is : IsSpec alone.spec = spec_with.with_class d.spec name s.spec (named_with.new_name d s name new) tokens now (d.spec.class_names ++ name ∷ []) class refl refl in
      named_with.class_sound d s name new alone.spec is alone.declared class (record { 0 = length d.spec.tokens.classes }) refl refl refl

  module _ (c : ℕ) where
    field_sound : (d : Described) → IsSound d → (f : FieldTree) → is_among d.declared.names f.name ≡ false → IsFieldOf d.spec.tokens.classes (field_of c f) → IsSound (with_field c d f)
    field_sound d s f new place =
        let field = field_of c f in
        let tokens : Tokens = record { classes = d.spec.tokens.classes; fields = d.spec.tokens.fields ++ field ∷ [] } in
        let now : AreTokens tokens = record {
          widths = s.spec.tokens.widths;
          fields = All-push (IsFieldOf d.spec.tokens.classes) d.spec.tokens.fields field s.spec.tokens.fields place;
        } in
        let more = with_field c d f in
        let is : IsSpec more.spec = spec_with.with_field d.spec f.name s.spec (named_with.new_name d s f.name new) tokens now (d.spec.field_names ++ f.name ∷ []) field refl refl in
        named_with.field_sound d s f.name new more.spec is more.declared field (record { 0 = length d.spec.tokens.fields }) refl refl refl

    fields_sound : (d : Described) → IsSound d → slice_get d.spec.tokens.classes c ≡ Some (class_of width little) → (fs : List FieldTree) → are_declared_once d.declared (map field_name fs) ≡ true
        → has_widths width fs ≡ true → IsSound (fold (with_field c) d fs)
    fields_sound d s there [] once widths = s
    fields_sound d s there (f ∷ fs) once widths =
        let w = number_value width in
        let names = map field_name fs in
        let new = first_fresh d.declared.names f.name names once in
        let place = field_place width (f ∷ fs) widths 0 f (omega arith) refl d.spec.tokens.classes little c there in
        let parts = both_of (is_class_width w) (list_all (is_field_of w) (f ∷ fs)) widths in
        let others : has_widths width fs ≡ true = rw (parts.0, (both_of (is_field_of w f) (list_all (is_field_of w) fs) parts.1).1) refl in
        fields_sound (with_field c d f) (field_sound d s f new place) there fs (others_once d.declared.names f.name names once) others

pub class_sound : (d : Described) → IsSound d → (name width : List ℕ) (little : Bool) (fields : List FieldTree) → None ≡ first_unmet (class_conditions d name width fields)
    → IsSound (with_class d name width little fields)
class_sound d s name width little fields met =
    let once = are_declared_once d.declared (class_names name fields) in
    let widths = has_widths width fields in
    let one = all_met 1 once ((3, widths) ∷ []) (sym met) in
    let two = all_met 3 widths [] one.1 in
    let alone = with_class_alone d name width little in
    let names = map field_name fields in
    fields_sound width little (length d.spec.tokens.classes) alone
    (class_alone_sound width little d s name (class_new d.declared name fields one.0) (class_width width fields two.0))
    (named_with.slice_get-push d.spec.tokens.classes (class_of width little)) fields (others_once d.declared.names name names one.0) two.0

-- ---- a pattern or a group

pub pattern_sound : (d : Described) → IsSound d → (name : List ℕ) (items : Option (List ItemTree)) (tree : PatternTree) → None ≡ first_unmet (definition_conditions d name items tree)
    → IsSound (with_definition d name items tree)
pattern_sound d s name items tree met =
    definition_sound d s name items tree
    (split_met (naming_conditions d name items tree) (forming_conditions d tree (patterns_of d.declared [] tree)) (sym met)).0

-- ---- constructors

module _ (spec : Spec) (declared : Declared) (s : IsSoundScope spec declared) where
  -- with a new type, where there is one
  typed_sound : (o : Option (List ℕ)) → ((n : List ℕ) → o ≡ Some n → meaning_of declared n ≡ None) → IsSoundScope (with_new_type spec o) (naming_new_type spec declared o)
  typed_sound None free = s
  typed_sound (Some t) free =
      let at = free t refl in
      scope_with.type_sound spec declared s t at (spec_with.with_type spec t s.spec (scope_with.new_name spec declared s t at) (spec.type_names ++ t ∷ []) refl)

same_constructors : (spec : Spec) (o : Option (List ℕ)) → (with_new_type spec o).constructors ≡ spec.constructors
same_constructors spec None = refl
same_constructors spec (Some t) = refl

module _ (words : List (List ℕ)) (few : length words ≤ 2 ^ 32) where
  pub built_sound : (d : Described) → IsSound d → (c : Constructing) → first_unmet (conditions d.spec d.declared c) ≡ None → All (IsAmong words) (constructor_names_of d.spec)
      → All (IsAmong words) (map (λ (k : Constructor). k.name) (constructors_of d.spec d.declared c)) → IsSound (with_built d c)
  built_sound d s c met named made =
      let name = λ (k : Constructor). k.name in
      let later = with_type d.spec d.declared c.result in
      let after : Declared = naming_type d.spec d.declared c.result in
      let cs = constructors_of d.spec d.declared c in
      let typed = typed_sound d.spec d.declared s (new_type d.declared c.result) (new_free d.spec d.declared c met) in
      let still : All (IsAmong words) (constructor_names_of later) =
      subst (λ (ks : List Constructor). All (IsAmong words) (map name ks)) (sym (same_constructors d.spec (new_type d.declared c.result))) named in
      let is : IsSpec (with_constructors later cs) =
      all_added words few later cs typed.spec (fresh_later d.spec d.declared c met later refl cs refl) (known_later d.spec d.declared c met later refl cs refl s) still made in
      scope_with.constructors_sound later after typed cs is

-- ---- no declarations

pub nothing_sound : IsSound nothing
nothing_sound = record {
  spec = record {
    tokens = record { widths = All-nil (λ (c : Class). IsWidth c.width); fields = All-nil (IsFieldOf []) };
    classes = refl;
    fields = refl;
    names = λ i j d less within. absurd (omega arith);
    constructor_names = refl;
    different = λ i j d less within. absurd (omega arith);
    constructors = All-nil (IsConstructorOf nothing.spec.tokens 0);
    few = omega arith;
  };
  types = All-nil (NamesKnownType nothing.spec);
  local_names = refl;
  local_meanings = refl;
  meanings = refl;
  distinct = refl;
  within = All-nil (λ n. is_among [] n ≡ true);
  sound = All-nil (IsSoundMeaning nothing.spec.tokens);
}
