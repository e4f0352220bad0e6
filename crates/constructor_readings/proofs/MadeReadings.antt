-- The constructors that an accepted declaration makes can be read.
use Rattle.std.proofs.Common.{◌≡◌, ⊎_elim, ℕ, Bool, true, false, List, [], ◌∷◌, ◌++◌, map, All, Option, Some, None, slice_get, refl, sym, ap, ◌∙◌, subst}
use Rattle.std.specs.Prelude.{not, ◌&&◌}
use Rattle.std.proofs.lemmas.List.Elements.{All-nil, All-cons, All-head, All-tail, All-map, All-weaker, All-push, All-same}
use Rattle.sled_model.specs.declared.constructor.Constructor.{Constructor}
use Rattle.sled_model.specs.declared.constructor.OperandKind.{OperandKind}
use Rattle.sled_model.specs.declared.constructor.OperandKind.TheVariants as kind
use Rattle.sled_model.specs.declared.constructor.TypeId.{TypeId}
use Rattle.sled_model.specs.declared.pattern.Pattern.{Pattern}
use Rattle.sled_model.specs.declared.spec.Spec.{Spec}
use Rattle.sled_model.specs.Linear.{IsLinear}
use Rattle.sled_model.specs.Results.{operands_in}
use Rattle.sled_model.specs.Solved.{IsSolved}
use Rattle.sled_model.specs.SolvingOrder.{IsDetermined, is_among as is_number_among}
use Rattle.tree_meaning.specs.declared.scope.Meaning.{Meaning}
use Rattle.tree_meaning.specs.declared.scope.Meaning.TheVariants as meaning
use Rattle.tree_meaning.specs.Names.{is_among, are_distinct, are_new}
use Rattle.tree_meaning.specs.Bindings.{bound, word_binds}
use Rattle.tree_meaning.specs.Parts.{labels}
use Rattle.tree_meaning.specs.Patterns.{patterns_of, word_pattern}
use Rattle.tree_meaning.specs.Scopes.{Declared, meaning_of}
use Rattle.tree_meaning.proofs.Soundness.{found_all}
use Rattle.operand_meaning.specs.Operands.{operand_names, explicit_names}
use Rattle.operand_meaning.specs.Standing.{operands_stand, hidden_fields_stand, terms_stand}
use Rattle.operand_meaning.specs.Terms.{have_equations_in_range}
use Rattle.operand_meaning.proofs.ListFacts.{both_of}
use Rattle.constructor_scopes.specs.Bodies.{with_operands, with_member, first_of, body_of}
use Rattle.constructor_scopes.specs.Makings.{Made, names_behind, one_for_each, makings_by, makings}
use Rattle.constructor_scopes.proofs.BodySound.{as_many_meanings, inner, opcode_fresh, explicit_new}
use Rattle.constructor_meaning.specs.Conditions.{conditions, bodies, body_scope, kinds}
use Rattle.constructor_meaning.specs.Constructing.{Constructing}
use Rattle.constructor_meaning.specs.Sound.{IsSoundScope}
use Rattle.constructor_meaning.specs.Unmet.{first_unmet}
use Rattle.constructor_meaning.proofs.ReadLemmas.{local_once, operands_differ}
use Rattle.constructor_building.specs.Building.{constructor_of, constructors_of}
use Rattle.constructor_plans.specs.Named.{FieldsAreNamed, PatternsBindNothing}
use Rattle.constructor_plans.specs.Plans.{ArePlansUnmet}
use Rattle.constructor_plans.proofs.LinearOf.{IsConstructorOf, linear_of}
use Rattle.constructor_plans.proofs.MetConditions.{IsMet, met_of}
use Rattle.constructor_plans.proofs.SomePattern.{first_is}
use Rattle.match_meaning.specs.Readable.{SidesReadNothing, IsReadable}
use Rattle.constructor_readings.proofs.Nothing.{ReadsNothing}
use Rattle.constructor_readings.proofs.SolvedGrown.{all_by_both}
use Rattle.constructor_readings.proofs.TreeReadings.{sides_made, operand_made}
use Rattle.constructor_readings.proofs.TypedStands.{IsTypedName, typed_name, front_apart}
use Rattle.constructor_readings.proofs.WordReadings.{IsSilent, silent_meanings, word_reads, word_sides, locals_silent, member_unbound, member_operand}

-- ---- lists

-- what holds of each of one list holds of each of the other, made of the same
pub mapped_alike : {A B C : Type 0} (P : B → Type 0) (Q : C → Type 0) (f : A → B) (g : A → C) → ((x : A) → P (f x) → Q (g x)) → (xs : List A) → All P (map f xs) → All Q (map g xs)
mapped_alike P Q f g alike [] h = All-nil Q
mapped_alike P Q f g alike (x ∷ xs) h =
    All-cons Q (g x) (map g xs) (alike x (All-head P (f x) (map f xs) h)) (mapped_alike P Q f g alike xs (All-tail P (f x) (map f xs) h))

-- what is true of each member is true of each constructor that is made of one, and so of each where it is true of one of no member
made_each : (Q : Made → Type 0) (ns : List (List ℕ)) (ps : List Pattern) → All (λ (p : Pattern). (n : List ℕ) → Q (record { name = n; member = Some p })) ps → All Q (one_for_each ns ps)
made_each Q [] ps h = All-nil Q
made_each Q (n ∷ ns) [] h = All-nil Q
made_each Q (n ∷ ns) (p ∷ ps) h =
    All-cons Q (record { name = n; member = Some p }) (one_for_each ns ps) (All-head (λ (q : Pattern). (m : List ℕ) → Q (record { name = m; member = Some q })) p ps h n)
    (made_each Q ns ps (All-tail (λ (q : Pattern). (m : List ℕ) → Q (record { name = m; member = Some q })) p ps h))

pub made_by : (Q : Made → Type 0) (declared : Declared) (opcode : List ℕ) (o : Option Meaning) → ((n : List ℕ) → Q (record { name = n; member = None }))
    → ((ps : List Pattern) → o ≡ Some (meaning.Group ps) → All (λ (p : Pattern). (n : List ℕ) → Q (record { name = n; member = Some p })) ps) → All Q (makings_by declared opcode o)
made_by Q declared opcode (Some (meaning.Group ps)) lone group = made_each Q (names_behind declared opcode) ps (group ps refl)
made_by Q declared opcode _ lone group = All-cons Q (record { name = opcode; member = None }) [] (lone opcode) (All-nil Q)

-- ---- bodies

-- no side of a disjunction reads anything, and the operands of these kinds that are instances stand in the pattern
pub record IsRead (ks : List OperandKind) (p : Pattern) : Type 0 where
  pub sides : SidesReadNothing p
  pub typed : (k : ℕ) (t : TypeId) → slice_get ks k ≡ Some (kind.Typed t) → is_number_among (operands_in p) k ≡ true

module _ (spec : Spec) (declared : Declared) (c : Constructing) (sound : IsSoundScope spec declared) (unmet : first_unmet (conditions spec declared c) ≡ None) (nothing : PatternsBindNothing declared) where
  met : IsMet spec declared c
  met = met_of spec declared c unmet

  abbrev scope : Declared
  scope = with_operands declared c.operands

  abbrev Reads : Pattern → Type 0
  Reads p = IsRead (kinds declared c) p

  silent : All IsSilent declared.meanings
  silent = silent_meanings spec.tokens declared.meanings sound.sound nothing

  explicit : are_new declared.names (explicit_names c.operands) ≡ true
  explicit = explicit_new declared c.operands c.body (local_once spec declared c met.once)

  stands : operands_stand declared (bound scope c.body) c.operands c.equations ≡ true
  stands =
      (both_of (operands_stand declared (bound scope c.body) c.operands c.equations) (hidden_fields_stand declared (bound scope c.body) c.operands c.equations)
      (both_of (operands_stand declared (bound scope c.body) c.operands c.equations && hidden_fields_stand declared (bound scope c.body) c.operands c.equations)
      (terms_stand declared (bound scope c.body) (labels c.body) c.operands c.equations) met.stand).0).0

  names_apart : are_distinct (operand_names c.operands ++ labels c.body) ≡ true
  names_apart =
      (both_of (are_distinct (operand_names c.operands ++ labels c.body)) (are_new declared.names (explicit_names c.operands ++ labels c.body)) (local_once spec declared c met.once)).0

  -- in a scope in which what binds nothing reads nothing, and in which the operands stand
  module _ (d : Declared) (quiet : (w : List ℕ) → word_binds scope w ≡ false → ReadsNothing (word_pattern d w)) (sides : (w : List ℕ) → SidesReadNothing (word_pattern d w))
      (operand : (w : List ℕ) (k : ℕ) → meaning_of scope w ≡ Some (meaning.Operand k) → meaning_of d w ≡ Some (meaning.Operand k)) where
    abbrev ps : List Pattern
    ps = patterns_of d (labels c.body) c.body

    sides_in : SidesReadNothing (first_of ps)
    sides_in = first_is SidesReadNothing d (labels c.body) c.body met.single (sides_made d scope (labels c.body) quiet sides c.body met.sides)

    typed_in : (k : ℕ) (t : TypeId) → slice_get (kinds declared c) k ≡ Some (kind.Typed t) → is_number_among (operands_in (first_of ps)) k ≡ true
    typed_in k t at =
        let name = typed_name declared (bound scope c.body) c.equations c.operands met.operands (operands_differ spec declared c met.once) stands k t at in
        let w = name.0 in
        let Has = λ (p : Pattern). is_number_among (operands_in p) k ≡ true in
        let free : is_among (labels c.body) w ≡ false = front_apart (operand_names c.operands) (labels c.body) w names_apart name.1.named in
        ⊎_elim
        (λ label. let no = free in cc)
        (λ h. first_is Has d (labels c.body) c.body met.single h)
        (operand_made d scope (labels c.body) w k (operand w k name.1.stands) c.body met.sides name.1.bound)

    body_in : Reads (first_of ps)
    body_in = record { sides = sides_in; typed = typed_in }

  lone_in : Reads (first_of (patterns_of scope (labels c.body) c.body))
  lone_in =
      let local = locals_silent declared c.operands in
      body_in scope (word_reads scope silent local) (word_sides scope silent local) (λ w k is. is)

  member_in : (ps : List Pattern) → meaning_of declared c.opcode ≡ Some (meaning.Group ps) → (p : Pattern) → ReadsNothing p
      → Reads (first_of (patterns_of (with_member scope c.opcode (Some p)) (labels c.body) c.body))
  member_in ps group p reads =
      let inside = with_member scope c.opcode (Some p) in
      let fresh = opcode_fresh declared sound.local_names c.opcode ps group c.operands explicit in
      let many = as_many_meanings declared c.operands in
      let here : meaning_of scope c.opcode ≡ Some (meaning.Group ps) = inner declared sound.local_names c.operands c.opcode fresh ∙ group in
      let local : All IsSilent inside.local_meanings = All-push IsSilent scope.local_meanings (meaning.Pattern p) (locals_silent declared c.operands) reads in
      body_in inside
      (λ w unbound. word_reads inside silent local w (member_unbound scope many c.opcode ps here fresh p w unbound))
      (word_sides inside silent local)
      (member_operand scope many c.opcode ps here fresh p)

  group_silent : (ps : List Pattern) → meaning_of declared c.opcode ≡ Some (meaning.Group ps) → All ReadsNothing ps
  group_silent ps group =
      found_all IsSilent declared silent (All-same IsSilent declared.local_meanings [] sound.local_meanings (All-nil IsSilent)) c.opcode (meaning.Group ps) group

  pub bodies_read : All Reads (bodies declared c)
  bodies_read =
      let body = body_of scope c.opcode (labels c.body) c.body in
      All-map Reads body (makings declared c.opcode)
      (made_by (λ m. Reads (body m)) declared c.opcode (meaning_of declared c.opcode) (λ n. lone_in)
      (λ ps group. All-weaker ReadsNothing (λ (p : Pattern). (n : List ℕ) → Reads (body (record { name = n; member = Some p }))) (λ p reads n. member_in ps group p reads) ps (group_silent ps group)))

  -- ---- constructors

  abbrev made : List Constructor
  made = constructors_of spec declared c

  abbrev Reads_of : Constructor → Type 0
  Reads_of k = IsRead k.operands k.body

  made_read : All Reads_of made
  made_read =
      mapped_alike Reads Reads_of (body_of scope c.opcode (labels c.body) c.body) (constructor_of spec declared c) (λ m h. h) (makings declared c.opcode) bodies_read

  module _ (range : have_equations_in_range c.equations ≡ true) (named : FieldsAreNamed declared) (plans : ArePlansUnmet spec.tokens made None) where
    made_linear : All (IsLinear spec.tokens) made
    made_linear =
        mapped_alike (λ (p : Pattern). (k : Constructor) → IsConstructorOf declared c p k → IsLinear spec.tokens k) (IsLinear spec.tokens)
        (body_of (body_scope declared c) c.opcode (labels c.body) c.body) (constructor_of spec declared c)
        (λ m h. h (constructor_of spec declared c m) (record { operands = refl; equations = refl; body = refl })) (makings declared c.opcode)
        (linear_of spec declared c sound unmet range named nothing)

    abbrev IsPlanned : Constructor → Type 0
    IsPlanned k = IsDetermined k × IsSolved spec.tokens k

    abbrev IsLinearRead : Constructor → Type 0
    IsLinearRead k = IsLinear spec.tokens k × Reads_of k

    -- each constructor that the declaration makes can be read
    pub made_readable : All (IsReadable spec.tokens) made
    made_readable =
        all_by_both IsPlanned IsLinearRead (IsReadable spec.tokens)
        (λ k planned read. record { linear = read.0; determined = planned.0; solved = planned.1; sides = read.1.sides; typed = read.1.typed }) made
        (all_by_both IsDetermined (IsSolved spec.tokens) IsPlanned (λ k determined solved. (determined, solved)) made plans.0 plans.1)
        (all_by_both (IsLinear spec.tokens) Reads_of IsLinearRead (λ k linear read. (linear, read)) made made_linear made_read)
