-- A description with one type or with more constructors.
use Rattle.std.proofs.Common.{◌≡◌, ◌≢◌, ℕ, zero, suc, ◌+◌, ◌<◌, ◌≤◌, Bool, true, false, List, [], ◌∷◌, ◌++◌, length, slice_get, Option, Some, None, refl, sym, ap, subst, ◌∙◌, arith}
use Rattle.std.specs.Prelude.{All, ◌||◌, bytes_eq, option_and_then}
use Rattle.std.specs.Option.{option_or}
use Rattle.std.proofs.lemmas.List.{length_push}
use Rattle.std.proofs.lemmas.List.Elements.{All-nil, All-cons, All-head, All-tail, All-append, All-push, All-weaker}
use Rattle.std.proofs.lemmas.List.Folds.{list_any-append}
use Rattle.std.proofs.lemmas.List.Quantifiers.{position-Some}
use Rattle.std.proofs.lemmas.Slice.Eq.{bytes_eq-Decides}
use Rattle.sled_model.specs.declared.constructor.Constructor.{Constructor}
use Rattle.sled_model.specs.declared.constructor.TypeId.{TypeId}
use Rattle.sled_model.specs.declared.spec.Spec.{Spec}
use Rattle.sled_model.specs.Specs.{IsSpec, IsNewName, names_of}
use Rattle.tree_meaning.specs.declared.scope.Meaning.{Meaning}
use Rattle.tree_meaning.specs.declared.scope.Meaning.TheVariants as meaning
use Rattle.tree_meaning.specs.Names.{is_among, position_of}
use Rattle.tree_meaning.specs.Scopes.{Declared, meaning_among, meaning_of}
use Rattle.tree_meaning.specs.Sound.{IsSoundMeaning}
use Rattle.tree_meaning.proofs.NamesLemmas.{distinct_push}
use Rattle.operand_meaning.proofs.ListFacts.{position_none}
use Rattle.constructor_meaning.specs.Sound.{IsSoundScope, NamesKnownType}
use Rattle.constructor_building.specs.Building.{next_type, with_new_type, naming_new_type, with_constructors}

module _ {A : Type 0} (P : A → Type 0) where
  All-front : (xs ys : List A) → All P (xs ++ ys) → All P xs
  All-front [] ys h = All-nil P
  All-front (x ∷ xs) ys h = All-cons P x xs (All-head P x (xs ++ ys) h) (All-front xs ys (All-tail P x (xs ++ ys) h))

  All-back : (xs ys : List A) → All P (xs ++ ys) → All P ys
  All-back [] ys h = h
  All-back (x ∷ xs) ys h = All-back xs ys (All-tail P x (xs ++ ys) h)

some_there : {A : Type 0} (xs : List A) (k : ℕ) → k < length xs → slice_get xs k ≡ None → ⊥
some_there [] k h e = absurd (omega arith)
some_there (x ∷ xs) zero h e = cc
some_there (x ∷ xs) (suc k) h e = some_there xs k (omega arith) e

or_true : (t : Bool) → (t || true) ≡ true
or_true true = refl
or_true false = refl

among_more : (names : List (List ℕ)) (name n : List ℕ) → is_among names n ≡ true → is_among (names ++ name ∷ []) n ≡ true
among_more names name n h = list_any-append (bytes_eq n) names (name ∷ []) ∙ ap (λ t. t || is_among (name ∷ []) n) h

among_last : (names : List (List ℕ)) (name : List ℕ) → is_among (names ++ name ∷ []) name ≡ true
among_last names name =
    list_any-append (bytes_eq name) names (name ∷ [])
    ∙ ap (λ t. is_among names name || (t || false)) ((bytes_eq-Decides name name).1 refl) ∙ or_true (is_among names name)

-- what is known of types stays so where there are no fewer
type_kept : (before later : Spec) → length before.type_names ≤ length later.type_names → (m : Meaning) → NamesKnownType before m → NamesKnownType later m
type_kept before later more (meaning.Class c) h = tt
type_kept before later more (meaning.Field f) h = tt
type_kept before later more (meaning.Pattern p) h = tt
type_kept before later more (meaning.Group ps) h = tt
type_kept before later more (meaning.Type t) h = omega (arith, h)
type_kept before later more (meaning.Operand k) h = tt

types_kept : (before later : Spec) → length before.type_names ≤ length later.type_names → (ms : List Meaning) → All (NamesKnownType before) ms → All (NamesKnownType later) ms
types_kept before later more ms h = All-weaker (NamesKnownType before) (NamesKnownType later) (type_kept before later more) ms h

-- a name without a meaning was not declared, where each that was declared has one
not_declared : (names : List (List ℕ)) (meanings : List Meaning) (name : List ℕ) → length meanings ≡ length names → meaning_among names meanings name ≡ None → is_among names name ≡ false
not_declared names meanings name many none = by_place (position_of names name) refl none where
  by_place : (o : Option ℕ) → position_of names name ≡ o → option_and_then (slice_get meanings) o ≡ None → is_among names name ≡ false
  by_place None at none = position_none (bytes_eq name) names at
  by_place (Some k) at none =
      let place = position-Some (bytes_eq name) names k [] at in
      let within : k < length meanings = subst (λ n. k < n) (sym many) place.0 in
      absurd (some_there meanings k within none)

module _ (spec : Spec) (declared : Declared) (s : IsSoundScope spec declared) where
  -- the constructors name nothing
  pub constructors_sound : (cs : List Constructor) → IsSpec (with_constructors spec cs) → IsSoundScope (with_constructors spec cs) declared
  constructors_sound cs is = record {
    spec = is;
    types = types_kept spec (with_constructors spec cs) (omega arith) declared.meanings s.types;
    local_names = s.local_names;
    local_meanings = s.local_meanings;
    meanings = s.meanings;
    distinct = s.distinct;
    within = s.within;
    sound = s.sound;
  }

  module _ (name : List ℕ) (free : meaning_of declared name ≡ None) where
    -- a name that stands for nothing was not declared
    pub new_among : is_among declared.names name ≡ false
    new_among =
        not_declared declared.names declared.meanings name s.meanings
        (sym (ap (λ ns. option_or (meaning_among ns declared.local_meanings name) (meaning_among declared.names declared.meanings name)) s.local_names) ∙ free)

    -- and is new to the description
    pub new_name : IsNewName spec name
    new_name =
        All-weaker (λ n. is_among declared.names n ≡ true) (λ other. other ≢ name)
        (λ other h e. let there : is_among declared.names name ≡ true = subst (λ n. is_among declared.names n ≡ true) e h in let absent = new_among in cc)
        (names_of spec) s.within

    abbrev more : List (List ℕ)
    more = declared.names ++ name ∷ []

    within_more : All (λ n. is_among more n ≡ true) ((spec.class_names ++ spec.field_names) ++ (spec.type_names ++ name ∷ []))
    within_more =
        let P = λ (n : List ℕ). is_among more n ≡ true in
        let front = spec.class_names ++ spec.field_names in let ts = spec.type_names in
        let all = All-weaker (λ n. is_among declared.names n ≡ true) P (λ n h. among_more declared.names name n h) (names_of spec) s.within in
        All-append P front (ts ++ name ∷ []) (All-front P front ts all) (All-push P ts name (All-back P front ts all) (among_last declared.names name))

    -- with a type of that name
    pub type_sound : IsSpec (with_new_type spec (Some name)) → IsSoundScope (with_new_type spec (Some name)) (naming_new_type spec declared (Some name))
    type_sound is =
        let later = with_new_type spec (Some name) in
        let grown = length_push spec.type_names name in
        record {
          spec = is;
          types = All-push (NamesKnownType later) declared.meanings (meaning.Type (next_type spec)) (types_kept spec later (omega arith) declared.meanings s.types) (omega arith);
          local_names = s.local_names;
          local_meanings = s.local_meanings;
          meanings = length_push declared.meanings (meaning.Type (next_type spec)) ∙ ap (λ n. n + 1) s.meanings ∙ sym (length_push declared.names name);
          distinct = distinct_push declared.names name s.distinct new_among;
          within = within_more;
          sound = All-push (IsSoundMeaning spec.tokens) declared.meanings (meaning.Type (next_type spec)) s.sound tt;
        }

    -- the type was added, and its name was declared
    pub type_added : (later : Spec) (after : Declared) (n : List ℕ) (id : TypeId) → n ≡ name → later ≡ record spec { type_names = spec.type_names ++ n ∷ [] } → id.0 ≡ length spec.type_names
        → after ≡ record declared { names = declared.names ++ name ∷ []; meanings = declared.meanings ++ meaning.Type id ∷ [] } → IsSpec later → IsSoundScope later after
    type_added later after n id same is number named sound =
        let of_number : ℕ → TypeId = λ k. record { 0 = k } in
        let next : id ≡ next_type spec = ap of_number number in
        let whole : later ≡ with_new_type spec (Some name) = is ∙ ap (λ x. with_new_type spec (Some x)) same in
        let names : after ≡ naming_new_type spec declared (Some name) =
        named ∙ ap (λ (x : TypeId). record declared { names = declared.names ++ name ∷ []; meanings = declared.meanings ++ meaning.Type x ∷ [] }) next in
        subst (λ (x : Spec). IsSoundScope x after) (sym whole)
        (subst (λ (x : Declared). IsSoundScope (with_new_type spec (Some name)) x) (sym names) (type_sound (subst IsSpec whole sound)))
