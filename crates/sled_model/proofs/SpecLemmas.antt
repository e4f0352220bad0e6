-- Descriptions to which a class, a field, a type or a constructor is added.
use Rattle.std.proofs.Common.{ℕ, zero, suc, ◌≡◌, ◌≢◌, ◌+◌, ◌<◌, ◌^◌, List, [], ◌∷◌, ◌++◌, map, length, slice_get, All, AllPairs, refl, sym, ap, ◌∙◌, subst, MatchOption, Option, Some, None, arith}
use Rattle.std.proofs.lemmas.List.{append_assoc, append-nil, length_push, map-append, same_from_push}
use Rattle.std.proofs.lemmas.List.Elements.{All-nil, All-cons, All-head, All-tail, All-append, All-weaker}
use Rattle.std.proofs.lemmas.List.Kept.{AllPairs-cons}
use Rattle.sled_model.specs.declared.spec.Spec.{Spec}
use Rattle.token_bits.specs.declared.tokens.Class.{Class}
use Rattle.token_bits.specs.declared.tokens.Field.{Field}
use Rattle.token_bits.specs.declared.tokens.Tokens.{Tokens}
use Rattle.token_bits.specs.Tokens.{AreTokens}
use Rattle.sled_model.specs.declared.constructor.Constructor.{Constructor}
use Rattle.sled_model.specs.Specs.{IsSpec, IsConstructorOf, IsNewName, IsNewConstructorName}
use Rattle.sled_model.proofs.LeafLemmas.{slice_get-front, constructors_kept}

module _ {A : Type 0} (R : A → A → Type 0) where
  pairs_head : (x : A) (xs : List A) → AllPairs R (x ∷ xs) → All (R x) xs
  pairs_head x xs h k d within = h zero (suc k) d (omega arith) (omega arith)

  pairs_tail : (x : A) (xs : List A) → AllPairs R (x ∷ xs) → AllPairs R xs
  pairs_tail x xs h i j d less within = h (suc i) (suc j) d (omega arith) (omega arith)

-- one more item between two lists
all_between : {A : Type 0} (P : A → Type 0) (xs ys : List A) (n : A) → P n → All P (xs ++ ys) → All P ((xs ++ n ∷ []) ++ ys)
all_between P [] ys n here h = All-cons P n ys here h
all_between P (x ∷ xs) ys n here h = All-cons P x ((xs ++ n ∷ []) ++ ys) (All-head P x (xs ++ ys) h) (all_between P xs ys n here (All-tail P x (xs ++ ys) h))

distinct_between : (xs ys : List (List ℕ)) (n : List ℕ) → All (λ other. other ≢ n) (xs ++ ys) → AllPairs (λ one other. one ≢ other) (xs ++ ys)
    → AllPairs (λ one other. one ≢ other) ((xs ++ n ∷ []) ++ ys)
distinct_between [] ys n new h =
    AllPairs-cons (λ one other. one ≢ other) n ys (All-weaker (λ other. other ≢ n) (λ other. n ≢ other) (λ other differ e. differ (sym e)) ys new) h
distinct_between (x ∷ xs) ys n new h =
    let D = λ (one other : List ℕ). one ≢ other in
    AllPairs-cons D x ((xs ++ n ∷ []) ++ ys)
    (all_between (D x) xs ys n (All-head (λ other. other ≢ n) x (xs ++ ys) new) (pairs_head D x (xs ++ ys) h))
    (distinct_between xs ys n (All-tail (λ other. other ≢ n) x (xs ++ ys) new) (pairs_tail D x (xs ++ ys) h))

distinct_push : (names : List (List ℕ)) (n : List ℕ) → All (λ other. other ≢ n) names → AllPairs (λ one other. one ≢ other) names → AllPairs (λ one other. one ≢ other) (names ++ n ∷ [])
distinct_push names n new h =
    subst (AllPairs (λ one other. one ≢ other)) (append-nil (names ++ n ∷ []))
    (distinct_between names [] n (subst (All (λ other. other ≢ n)) (sym (append-nil names)) new) (subst (AllPairs (λ one other. one ≢ other)) (sym (append-nil names)) h))

-- what is left after the last item, which was just put there, is taken away
pub popped : {X : Type 0} (last : Option X) (old new front : List X) (x : X) → MatchOption last ((old ≡ []) × (new ≡ [])) (λ y. old ≡ new ++ y ∷ []) → old ≡ front ++ x ∷ [] → new ≡ front
popped None old new front x h e = let long : length old ≡ length front + 1 = ap length e ∙ length_push front x in let none : length old ≡ 0 = ap length h.0 in absurd (omega arith)
popped (Some y) old new front x h e = (same_from_push new front y x (sym h ∙ e)).0

-- a description that is given back as it was
pub still_spec : (spec : Spec) → IsSpec spec → (tokens : Tokens) (class_names field_names : List (List ℕ)) → tokens ≡ spec.tokens → class_names ≡ spec.class_names → field_names ≡ spec.field_names
    → IsSpec (record spec { tokens = tokens; class_names = class_names; field_names = field_names })
still_spec spec sound tokens class_names field_names a b c = rw (a, b, c) sound

module _ (spec : Spec) (name : List ℕ) (sound : IsSpec spec) (fresh : IsNewName spec name) where
  module _ (tokens : Tokens) (now : AreTokens tokens) (names : List (List ℕ)) where
    pub with_class : (class : Class) → names ≡ spec.class_names ++ name ∷ [] → tokens ≡ record spec.tokens { classes = spec.tokens.classes ++ class ∷ [] }
        → IsSpec (record spec { tokens = tokens; class_names = names })
    with_class class named added =
        let c = spec.class_names in let f = spec.field_names in let t = spec.type_names in
        let fields : tokens.fields ≡ spec.tokens.fields = ap (λ (t : Tokens). t.fields) added in
        let classes : tokens.classes ≡ spec.tokens.classes ++ class ∷ [] = ap (λ (t : Tokens). t.classes) added in
        record {
          tokens = now;
          classes = ap length named ∙ length_push c name ∙ ap (λ n. n + 1) sound.classes ∙ sym (ap length classes ∙ length_push spec.tokens.classes class);
          fields = sound.fields ∙ sym (ap length fields);
          names = subst (λ (ns : List (List ℕ)). AllPairs (λ one other. one ≢ other) (ns ++ f ++ t)) (sym named)
              (subst (AllPairs (λ one other. one ≢ other)) (sym (append_assoc (c ++ name ∷ []) f t))
              (distinct_between c (f ++ t) name (subst (All (λ other. other ≢ name)) (append_assoc c f t) fresh) (subst (AllPairs (λ one other. one ≢ other)) (append_assoc c f t) sound.names)));
          constructor_names = sound.constructor_names;
          different = sound.different;
          constructors = constructors_kept spec.tokens tokens (length t) (length t)
              (record {
                classes = λ k less. ap (λ cs. slice_get cs k) classes ∙ slice_get-front spec.tokens.classes (class ∷ []) k less;
                fields = λ k less. ap (λ fs. slice_get fs k) fields;
                more = let same : length tokens.fields ≡ length spec.tokens.fields = ap length fields in omega arith;
                types = omega arith;
              }) spec.constructors sound.constructors;
          few = sound.few;
        }

    pub with_field : (field : Field) → names ≡ spec.field_names ++ name ∷ [] → tokens ≡ record spec.tokens { fields = spec.tokens.fields ++ field ∷ [] }
        → IsSpec (record spec { tokens = tokens; field_names = names })
    with_field field named added =
        let c = spec.class_names in let f = spec.field_names in let t = spec.type_names in
        let fields : tokens.fields ≡ spec.tokens.fields ++ field ∷ [] = ap (λ (t : Tokens). t.fields) added in
        let classes : tokens.classes ≡ spec.tokens.classes = ap (λ (t : Tokens). t.classes) added in
        record {
          tokens = now;
          classes = sound.classes ∙ sym (ap length classes);
          fields = ap length named ∙ length_push f name ∙ ap (λ n. n + 1) sound.fields ∙ sym (ap length fields ∙ length_push spec.tokens.fields field);
          names = subst (λ (ns : List (List ℕ)). AllPairs (λ one other. one ≢ other) (c ++ ns ++ t)) (sym named)
              (subst (λ (ns : List (List ℕ)). AllPairs (λ one other. one ≢ other) (ns ++ t)) (append_assoc c f (name ∷ []))
              (distinct_between (c ++ f) t name fresh sound.names));
          constructor_names = sound.constructor_names;
          different = sound.different;
          constructors = constructors_kept spec.tokens tokens (length t) (length t)
              (record {
                classes = λ k less. ap (λ cs. slice_get cs k) classes;
                fields = λ k less. ap (λ fs. slice_get fs k) fields ∙ slice_get-front spec.tokens.fields (field ∷ []) k less;
                more = let longer : length tokens.fields ≡ length spec.tokens.fields + 1 = ap length fields ∙ length_push spec.tokens.fields field in omega arith;
                types = omega arith;
              }) spec.constructors sound.constructors;
          few = sound.few;
        }

  pub with_type : (names : List (List ℕ)) → names ≡ spec.type_names ++ name ∷ [] → IsSpec (record spec { type_names = names })
  with_type names named =
      let c = spec.class_names in let f = spec.field_names in let t = spec.type_names in
      record {
        tokens = sound.tokens;
        classes = sound.classes;
        fields = sound.fields;
        names = subst (λ (ns : List (List ℕ)). AllPairs (λ one other. one ≢ other) (c ++ f ++ ns)) (sym named)
            (subst (AllPairs (λ one other. one ≢ other)) (append_assoc (c ++ f) t (name ∷ [])) (distinct_push (c ++ f ++ t) name fresh sound.names));
        constructor_names = sound.constructor_names;
        different = sound.different;
        constructors = constructors_kept spec.tokens spec.tokens (length t) (length names)
            (record {
              classes = λ k less. refl;
              fields = λ k less. refl;
              more = omega arith;
              types = let longer : length names ≡ length t + 1 = ap length named ∙ length_push t name in omega arith;
            }) spec.constructors sound.constructors;
        few = sound.few;
      }

pub with_constructor : (spec : Spec) (c : Constructor) → IsSpec spec → IsNewConstructorName spec c.name → IsConstructorOf spec.tokens (length spec.type_names) c → length spec.constructors < 2 ^ 32
    → (constructors : List Constructor) (names : List (List ℕ)) → constructors ≡ spec.constructors ++ c ∷ [] → names ≡ spec.constructor_names ++ c.name ∷ []
    → IsSpec (record spec { constructors = constructors; constructor_names = names })
with_constructor spec c sound fresh known few constructors names added named =
    let name = λ (k : Constructor). k.name in let P = IsConstructorOf spec.tokens (length spec.type_names) in
    let all : map name constructors ≡ map name spec.constructors ++ c.name ∷ [] = ap (map name) added ∙ map-append name spec.constructors (c ∷ []) in
    record {
      tokens = sound.tokens;
      classes = sound.classes;
      fields = sound.fields;
      names = sound.names;
      constructor_names = named ∙ ap (λ ns. ns ++ c.name ∷ []) sound.constructor_names ∙ sym all;
      different = subst (AllPairs (λ one other. one ≢ other)) (sym all) (distinct_push (map name spec.constructors) c.name fresh sound.different);
      constructors = subst (All P) (sym added) (All-append P spec.constructors (c ∷ []) sound.constructors (All-cons P c [] known (All-nil P)));
      few = let longer : length constructors ≡ length spec.constructors + 1 = ap length added ∙ length_push spec.constructors c in omega arith;
    }
