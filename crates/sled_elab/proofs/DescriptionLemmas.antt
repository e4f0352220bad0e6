-- A description with one name more.
use Rattle.std.proofs.Common.{◌≡◌, ◌≢◌, ℕ, ◌+◌, Bool, true, false, List, [], ◌∷◌, ◌++◌, length, All, IsSome, is_some, slice_get, Some, refl, sym, ap, subst, ◌∙◌, arith}
use Rattle.std.specs.Prelude.{◌||◌, bytes_eq}
use Rattle.std.proofs.lemmas.List.{length_push}
use Rattle.std.proofs.lemmas.List.Elements.{All-nil, All-cons, All-head, All-tail, All-append, All-push, All-weaker}
use Rattle.std.proofs.lemmas.List.Folds.{list_any-append}
use Rattle.std.proofs.lemmas.Slice.Eq.{bytes_eq-Decides}
use Rattle.token_bits.specs.declared.tokens.Tokens.{Tokens}
use Rattle.token_bits.specs.declared.tokens.Class.{Class}
use Rattle.token_bits.specs.declared.tokens.ClassId.{ClassId}
use Rattle.token_bits.specs.declared.tokens.Field.{Field}
use Rattle.token_bits.specs.declared.tokens.FieldId.{FieldId}
use Rattle.sled_model.specs.declared.spec.Spec.{Spec}
use Rattle.sled_model.specs.Specs.{IsSpec, IsNewName, names_of}
use Rattle.tree_meaning.specs.declared.scope.Meaning.{Meaning}
use Rattle.tree_meaning.specs.declared.scope.Meaning.TheVariants as meaning
use Rattle.tree_meaning.specs.Names.{is_among}
use Rattle.tree_meaning.specs.Scopes.{Declared}
use Rattle.tree_meaning.specs.Sound.{IsSoundMeaning}
use Rattle.tree_meaning.proofs.NamesLemmas.{distinct_push}
use Rattle.sled_elab.specs.Declarations.{Described, with_name}
use Rattle.sled_elab.specs.Descriptions.{IsSound}
use Rattle.constructor_meaning.specs.Sound.{NamesKnownType}
use Rattle.sled_elab.proofs.Growing.{IsKept, slice_get-front, meanings_kept, types_kept}

module _ {A : Type 0} (P : A → Type 0) where
  All-front : (xs ys : List A) → All P (xs ++ ys) → All P xs
  All-front [] ys h = All-nil P
  All-front (x ∷ xs) ys h = All-cons P x xs (All-head P x (xs ++ ys) h) (All-front xs ys (All-tail P x (xs ++ ys) h))

  All-back : (xs ys : List A) → All P (xs ++ ys) → All P ys
  All-back [] ys h = h
  All-back (x ∷ xs) ys h = All-back xs ys (All-tail P x (xs ++ ys) h)

pub slice_get-push : {A : Type 0} (xs : List A) (x : A) → slice_get (xs ++ x ∷ []) (length xs) ≡ Some x
slice_get-push [] x = refl
slice_get-push (y ∷ xs) x = slice_get-push xs x

or_true : (t : Bool) → (t || true) ≡ true
or_true true = refl
or_true false = refl

among_more : (names : List (List ℕ)) (name n : List ℕ) → is_among names n ≡ true → is_among (names ++ name ∷ []) n ≡ true
among_more names name n h = list_any-append (bytes_eq n) names (name ∷ []) ∙ ap (λ t. t || is_among (name ∷ []) n) h

among_last : (names : List (List ℕ)) (name : List ℕ) → is_among (names ++ name ∷ []) name ≡ true
among_last names name =
    list_any-append (bytes_eq name) names (name ∷ [])
    ∙ ap (λ t. is_among names name || (t || false)) ((bytes_eq-Decides name name).1 refl) ∙ or_true (is_among names name)

-- outside of a body there are no local names
pub no_locals : (d : Described) → IsSound d → All (IsSoundMeaning d.spec.tokens) d.declared.local_meanings
no_locals d s = subst (All (IsSoundMeaning d.spec.tokens)) (sym s.local_meanings) (All-nil (IsSoundMeaning d.spec.tokens))

module _ (d : Described) (s : IsSound d) (name : List ℕ) (new : is_among d.declared.names name ≡ false) where
  abbrev more : List (List ℕ)
  more = d.declared.names ++ name ∷ []

  -- each name of a description was declared, so that one that was not is new to it
  pub new_name : IsNewName d.spec name
  new_name =
      All-weaker (λ n. is_among d.declared.names n ≡ true) (λ other. other ≢ name)
      (λ other h e. let there : is_among d.declared.names name ≡ true = subst (λ n. is_among d.declared.names n ≡ true) e h in cc)
      (names_of d.spec) s.within

  -- the names of the description are among those with one more
  pub within_more : All (λ n. is_among more n ≡ true) (names_of d.spec)
  within_more =
      All-weaker (λ n. is_among d.declared.names n ≡ true) (λ n. is_among more n ≡ true) (λ n h. among_more d.declared.names name n h)
      (names_of d.spec) s.within

  -- one name more that stands for something sound
  pub name_sound : (spec : Spec) (m : Meaning) → IsSpec spec → All (λ n. is_among more n ≡ true) (names_of spec)
      → All (NamesKnownType spec) d.declared.meanings → NamesKnownType spec m → All (IsSoundMeaning spec.tokens) d.declared.meanings → IsSoundMeaning spec.tokens m
      → IsSound (record { spec = spec; declared = with_name d.declared name m })
  name_sound spec m is within types type kept sound = record {
    spec = is;
    types = All-push (NamesKnownType spec) d.declared.meanings m types type;
    local_names = s.local_names;
    local_meanings = s.local_meanings;
    meanings = length_push d.declared.meanings m ∙ ap (λ n. n + 1) s.meanings ∙ sym (length_push d.declared.names name);
    distinct = distinct_push d.declared.names name s.distinct new;
    within = within;
    sound = All-push (IsSoundMeaning spec.tokens) d.declared.meanings m kept sound;
  }

  class_names_within : All (λ n. is_among more n ≡ true) (((d.spec.class_names ++ name ∷ []) ++ d.spec.field_names) ++ d.spec.type_names)
  class_names_within =
      let P = λ (n : List ℕ). is_among more n ≡ true in
      let cs = d.spec.class_names in let fs = d.spec.field_names in let ts = d.spec.type_names in
      let tokens = All-front P (cs ++ fs) ts within_more in
      All-append P ((cs ++ name ∷ []) ++ fs) ts
      (All-append P (cs ++ name ∷ []) fs (All-push P cs name (All-front P cs fs tokens) (among_last d.declared.names name)) (All-back P cs fs tokens))
      (All-back P (cs ++ fs) ts within_more)

  field_names_within : All (λ n. is_among more n ≡ true) ((d.spec.class_names ++ (d.spec.field_names ++ name ∷ [])) ++ d.spec.type_names)
  field_names_within =
      let P = λ (n : List ℕ). is_among more n ≡ true in
      let cs = d.spec.class_names in let fs = d.spec.field_names in let ts = d.spec.type_names in
      let tokens = All-front P (cs ++ fs) ts within_more in
      All-append P (cs ++ (fs ++ name ∷ [])) ts
      (All-append P cs (fs ++ name ∷ []) (All-front P cs fs tokens) (All-push P fs name (All-back P cs fs tokens) (among_last d.declared.names name)))
      (All-back P (cs ++ fs) ts within_more)

  module _ (spec : Spec) (is : IsSpec spec) (declared : Declared) where
    -- the name of a class that was added
    pub class_sound : (class : Class) (id : ClassId) → id.0 ≡ length d.spec.tokens.classes
        → spec ≡ record d.spec { tokens = record d.spec.tokens { classes = d.spec.tokens.classes ++ class ∷ [] }; class_names = d.spec.class_names ++ name ∷ [] }
        → declared ≡ with_name d.declared name (meaning.Class id) → IsSound (record { spec = spec; declared = declared })
    class_sound class id number added named =
        let tokens : Tokens = record { classes = d.spec.tokens.classes ++ class ∷ []; fields = d.spec.tokens.fields } in
        let whole : Spec = record d.spec { tokens = tokens; class_names = d.spec.class_names ++ name ∷ [] } in
        let classes : IsKept d.spec.tokens.classes tokens.classes = slice_get-front d.spec.tokens.classes (class ∷ []) in
        let there : IsSome (slice_get tokens.classes id.0) =
        ap (λ k. is_some (slice_get tokens.classes k)) number ∙ ap is_some (slice_get-push d.spec.tokens.classes class) in
        subst (λ (x : Spec). IsSound (record { spec = x; declared = declared })) (sym added)
        (subst (λ (x : Declared). IsSound (record { spec = whole; declared = x })) (sym named)
        (name_sound whole (meaning.Class id) (subst IsSpec added is) class_names_within (types_kept d.spec whole (omega arith) d.declared.meanings s.types) tt
        (meanings_kept d.spec.tokens tokens classes (λ k h. refl) d.declared.meanings s.sound) there))

    -- the name of a field that was added
    pub field_sound : (field : Field) (id : FieldId) → id.0 ≡ length d.spec.tokens.fields
        → spec ≡ record d.spec { tokens = record d.spec.tokens { fields = d.spec.tokens.fields ++ field ∷ [] }; field_names = d.spec.field_names ++ name ∷ [] }
        → declared ≡ with_name d.declared name (meaning.Field id) → IsSound (record { spec = spec; declared = declared })
    field_sound field id number added named =
        let tokens : Tokens = record { classes = d.spec.tokens.classes; fields = d.spec.tokens.fields ++ field ∷ [] } in
        let whole : Spec = record d.spec { tokens = tokens; field_names = d.spec.field_names ++ name ∷ [] } in
        let fields : IsKept d.spec.tokens.fields tokens.fields = slice_get-front d.spec.tokens.fields (field ∷ []) in
        let there : IsSome (slice_get tokens.fields id.0) =
        ap (λ k. is_some (slice_get tokens.fields k)) number ∙ ap is_some (slice_get-push d.spec.tokens.fields field) in
        subst (λ (x : Spec). IsSound (record { spec = x; declared = declared })) (sym added)
        (subst (λ (x : Declared). IsSound (record { spec = whole; declared = x })) (sym named)
        (name_sound whole (meaning.Field id) (subst IsSpec added is) field_names_within (types_kept d.spec whole (omega arith) d.declared.meanings s.types) tt
        (meanings_kept d.spec.tokens tokens (λ k h. refl) fields d.declared.meanings s.sound) there))
