-- The constructors that an accepted declaration makes may be added to a description with readings.
use Rattle.std.proofs.Common.{◌≡◌, ℕ, Bool, true, List, [], ◌∷◌, ◌++◌, length, map, All, Option, Some, None, refl, sym, subst}
use Rattle.std.specs.Prelude.{◌&&◌, is_some}
use Rattle.std.specs.List.{list_all}
use Rattle.std.proofs.lemmas.List.Elements.{All-nil, All-cons, All-append, All-weaker}
use Rattle.sled_model.specs.declared.constructor.Constructor.{Constructor}
use Rattle.sled_model.specs.declared.constructor.TypeId.{TypeId}
use Rattle.sled_model.specs.declared.spec.Spec.{Spec}
use Rattle.sled_model.specs.Leaves.{AllLeaves, IsNoApplication}
use Rattle.sled_model.specs.Results.{known_from}
use Rattle.sled_model.specs.Shapes.{ShapeContext, shapes, body_shapes, known_shapes, conjunctions_agree, sides_have_one_shape, lengths_within}
use Rattle.sled_model.specs.Specs as specs
use Rattle.sled_model.proofs.ShapeKnown.{BodiesAgree, constructors_shaped}
use Rattle.tree_meaning.specs.Parts.{labels}
use Rattle.tree_meaning.specs.Scopes.{Declared}
use Rattle.tree_meaning.specs.Bindings.{binds_once, sides_bind_nothing}
use Rattle.operand_meaning.proofs.ListFacts.{both_of}
use Rattle.constructor_scopes.specs.Bodies.{body_of}
use Rattle.constructor_scopes.specs.Makings.{makings}
use Rattle.constructor_meaning.specs.Conditions.{bodies, body_scope, kinds, shape_context, naming_conditions, forming_conditions, standing_conditions, is_closed_body, is_small, least_length}
use Rattle.constructor_meaning.specs.Constructing.{Constructing}
use Rattle.constructor_meaning.specs.Sound.{IsSoundScope}
use Rattle.constructor_meaning.proofs.UnmetLemmas.{all_met}
use Rattle.constructor_building.specs.Building.{result_type, with_new_type, with_type, new_type, constructor_of, constructors_of, with_constructors, built_spec}
use Rattle.constructor_building.proofs.MetLemmas.{split_met, open_result, operands_known}
use Rattle.constructor_building.proofs.KnownLemmas.{constructors_known, body_plain}
use Rattle.constructor_plans.specs.Named.{FieldsAreNamed, PatternsBindNothing}
use Rattle.match_meaning.specs.Readable.{IsReadable, HasShortBody}
use Rattle.constructor_readings.specs.Accepted.{IsAccepted, TypesAreNamed, HasReadings}
use Rattle.constructor_readings.proofs.MadeReadings.{mapped_alike, made_readable}
use Rattle.constructor_readings.proofs.Short.{IsFit, IsOf, known_append, bodies_append, fit_added}
use Rattle.constructor_readings.proofs.SolvedGrown.{all_by_both}
use Rattle.constructor_readings.proofs.TypesApart.{types_apart}

all_true : {A : Type 0} (p : A → Bool) (xs : List A) → list_all p xs ≡ true → All (λ x. p x ≡ true) xs
all_true p [] h = All-nil (λ x. p x ≡ true)
all_true p (x ∷ xs) h =
    let both = both_of (p x) (list_all p xs) h in
    All-cons (λ y. p y ≡ true) x xs both.0 (all_true p xs both.1)

each_mapped : {A B : Type 0} (P : B → Type 0) (f : A → B) → ((x : A) → P (f x)) → (xs : List A) → All P (map f xs)
each_mapped P f each [] = All-nil P
each_mapped P f each (x ∷ xs) = All-cons P (f x) (map f xs) (each x) (each_mapped P f each xs)

module _ (spec : Spec) (declared : Declared) (c : Constructing) (sound : IsSoundScope spec declared) (accepted : IsAccepted spec declared c) where
  abbrev cx : ShapeContext
  cx = shape_context spec declared c

  abbrev made : List Constructor
  made = constructors_of spec declared c

  abbrev least : ℕ
  least = least_length (is_some c.result)

  agree_all : list_all (conjunctions_agree cx) (bodies declared c) ≡ true
  agree_all =
      let forming = forming_conditions cx declared c (bodies declared c) in
      let later : List (ℕ × Bool) =
      (7, list_all (is_closed_body cx) (bodies declared c))
      ∷ (8, sides_bind_nothing (body_scope declared c) c.body && list_all (sides_have_one_shape cx) (bodies declared c))
      ∷ (9, binds_once (body_scope declared c) c.body)
      ∷ [] in
      let rest = split_met (naming_conditions spec declared c) (forming ++ standing_conditions declared c) accepted.met in
      (all_met 6 (list_all (conjunctions_agree cx) (bodies declared c)) later (split_met forming (standing_conditions declared c) rest.1).0).0

  short_all : list_all (λ p. lengths_within least 32 spec.tokens (shapes cx p)) (bodies declared c) ≡ true
  short_all = (all_met 14 (list_all (λ p. lengths_within least 32 spec.tokens (shapes cx p)) (bodies declared c)) ((15, list_all (is_small spec (kinds declared c)) (bodies declared c)) ∷ []) accepted.measures).0

  abbrev Agrees : Constructor → Type 0
  Agrees k = conjunctions_agree (body_shapes spec.tokens (known_shapes spec) k.operands) k.body ≡ true

  abbrev IsShort : Constructor → Type 0
  IsShort k = lengths_within least 32 spec.tokens (shapes (body_shapes spec.tokens (known_shapes spec) k.operands) k.body) ≡ true

  abbrev Fits : Constructor → Type 0
  Fits k = IsFit spec.tokens (known_shapes spec) k

  made_agree : All Agrees made
  made_agree =
      mapped_alike (λ p. conjunctions_agree cx p ≡ true) Agrees (body_of (body_scope declared c) c.opcode (labels c.body) c.body) (constructor_of spec declared c) (λ m h. h)
      (makings declared c.opcode) (all_true (conjunctions_agree cx) (bodies declared c) agree_all)

  made_short : All IsShort made
  made_short =
      mapped_alike (λ p. lengths_within least 32 spec.tokens (shapes cx p) ≡ true) IsShort (body_of (body_scope declared c) c.opcode (labels c.body) c.body) (constructor_of spec declared c)
      (λ m h. h) (makings declared c.opcode) (all_true (λ p. lengths_within least 32 spec.tokens (shapes cx p)) (bodies declared c) short_all)

  made_alone : All (λ (k : Constructor). AllLeaves IsNoApplication k.body) made
  made_alone =
      let count = length (with_type spec declared c.result).type_names in
      All-weaker (specs.IsConstructorOf spec.tokens count) (λ (k : Constructor). AllLeaves IsNoApplication k.body) (body_plain spec count) made (constructors_known spec declared sound c accepted.met)

  made_fit : All Fits made
  made_fit =
      let IsShortAlone = λ (k : Constructor). IsShort k × AllLeaves IsNoApplication k.body in
      all_by_both Agrees IsShortAlone Fits (λ k agree rest. record { alone = rest.1; agree = agree; least = least; lengths = rest.0 }) made made_agree
      (all_by_both IsShort (λ (k : Constructor). AllLeaves IsNoApplication k.body) IsShortAlone (λ k short alone. (short, alone)) made made_short made_alone)

  abbrev made_type : Option TypeId
  made_type = result_type spec declared c.result

  made_are : All (IsOf (kinds declared c) made_type) made
  made_are = each_mapped (IsOf (kinds declared c) made_type) (constructor_of spec declared c) (λ m. record { operands = refl; result = refl }) (makings declared c.opcode)

  module _ (fields : FieldsAreNamed declared) (patterns : PatternsBindNothing declared) (types : TypesAreNamed declared) (before : HasReadings spec) where
    added : BodiesAgree spec.tokens (known_shapes spec) made × All HasShortBody (known_from spec.tokens (known_from spec.tokens [] spec.constructors) made)
    added =
        fit_added spec.tokens (kinds declared c) made_type
        (types_apart spec declared sound types c (operands_known spec declared c accepted.met) (open_result spec declared c accepted.met))
        (known_from spec.tokens [] spec.constructors) (known_shapes spec) made
        (constructors_shaped spec.tokens [] [] spec.constructors tt before.agree) made_are made_fit before.short

    readable : All (IsReadable spec.tokens) (spec.constructors ++ made)
    readable =
        All-append (IsReadable spec.tokens) spec.constructors made before.constructors
        (made_readable spec declared c sound accepted.met patterns accepted.numbers fields accepted.plans)

    agree : BodiesAgree spec.tokens [] (spec.constructors ++ made)
    agree = bodies_append spec.tokens [] spec.constructors made before.agree added.0

    short : All HasShortBody (known_from spec.tokens [] (spec.constructors ++ made))
    short = subst (λ known. All HasShortBody known) (sym (known_append spec.tokens [] spec.constructors made)) added.1

    built : (new : Option (List ℕ)) → HasReadings (with_constructors (with_new_type spec new) made)
    built None = record { constructors = readable; agree = agree; short = short }
    built (Some t) = record { constructors = readable; agree = agree; short = short }

    -- with these constructors the description has readings
    pub built_readings : HasReadings (built_spec spec declared c)
    built_readings = built (new_type declared c.result)
