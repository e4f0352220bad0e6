-- In the constructors that an accepted declaration makes each operand stands once.
use Rattle.std.proofs.Common.{◌≡◌, ◌≢◌, ◌⊎◌, ⊎_elim, ℕ, Bool, true, false, cond, List, [], ◌∷◌, ◌++◌, length, map, All, Option, Some, None, refl, sym, ap, ◌∙◌, subst}
use Rattle.std.specs.Prelude.{AllPairs, not, ◌&&◌, option_and_then}
use Rattle.std.specs.List.{filter_map, cons_option}
use Rattle.std.specs.Option.{option_map_or}
use Rattle.std.proofs.lemmas.List.{map-id}
use Rattle.std.proofs.lemmas.List.Elements.{All-nil, All-same, All-map, All-weaker, All-append, All-push}
use Rattle.sled_model.specs.declared.constructor.Constructor.{Constructor}
use Rattle.sled_model.specs.declared.pattern.Pattern.{Pattern}
use Rattle.sled_model.specs.declared.pattern.Pattern.TheVariants as pattern
use Rattle.sled_model.specs.declared.spec.Spec.{Spec}
use Rattle.sled_model.specs.Results.{operands_in}
use Rattle.tree_meaning.specs.declared.scope.Meaning.{Meaning}
use Rattle.tree_meaning.specs.declared.scope.Meaning.TheVariants as meaning
use Rattle.tree_meaning.specs.Names.{is_among, are_distinct, are_new}
use Rattle.tree_meaning.specs.Bindings.{is_binding, bound, word_binds}
use Rattle.tree_meaning.specs.Parts.{labels}
use Rattle.tree_meaning.specs.Patterns.{patterns_of, meaning_pattern, word_pattern}
use Rattle.tree_meaning.specs.Scopes.{Declared, meaning_of}
use Rattle.tree_meaning.proofs.Soundness.{found_all}
use Rattle.operand_meaning.specs.Operands.{operand_names, explicit_names}
use Rattle.operand_meaning.proofs.ListFacts.{both_of}
use Rattle.constructor_scopes.specs.Bodies.{with_operands, with_member, first_of, body_of}
use Rattle.constructor_scopes.specs.Makings.{Made, makings}
use Rattle.constructor_scopes.proofs.BodySound.{as_many_meanings, inner, opcode_fresh, explicit_new}
use Rattle.constructor_meaning.specs.Conditions.{conditions, bodies}
use Rattle.constructor_meaning.specs.Constructing.{Constructing}
use Rattle.constructor_meaning.specs.Sound.{IsSoundScope}
use Rattle.constructor_meaning.specs.Unmet.{first_unmet}
use Rattle.constructor_meaning.proofs.ReadLemmas.{local_once}
use Rattle.constructor_building.specs.Building.{constructor_of, constructors_of, new_type, with_new_type, with_constructors, built_spec}
use Rattle.constructor_plans.specs.Named.{PatternsBindNothing}
use Rattle.constructor_plans.proofs.MetConditions.{IsMet, met_of}
use Rattle.constructor_plans.proofs.PickLemmas.{picked_differ}
use Rattle.constructor_plans.proofs.SomePattern.{first_is}
use Rattle.constructor_plans.proofs.TreeFields.{names_distinct}
use Rattle.constructor_readings.specs.Accepted.{IsAccepted}
use Rattle.constructor_readings.proofs.MadeReadings.{mapped_alike, made_by}
use Rattle.constructor_readings.proofs.Nothing.{ReadsNothing}
use Rattle.constructor_readings.proofs.TreeReadings.{reads-Either}
use Rattle.constructor_readings.proofs.WordReadings.{IsSilent, silent_meanings, word_reads, locals_silent, member_meaning, member_unbound}
use Rattle.matchable_arms.specs.Once.{HasOperandsOnce, OperandsStandOnce}
use Rattle.matchable_arms.proofs.OperandNames.{as_operand, operand_number, one_name, labels_free}
use Rattle.matchable_arms.proofs.TreeOperands.{operands_are}

module _ (spec : Spec) (declared : Declared) (c : Constructing) (sound : IsSoundScope spec declared) (unmet : first_unmet (conditions spec declared c) ≡ None) (nothing : PatternsBindNothing declared) where
  met : IsMet spec declared c
  met = met_of spec declared c unmet

  abbrev scope : Declared
  scope = with_operands declared c.operands

  abbrev number : List ℕ → Option ℕ
  number = operand_number scope

  abbrev names : List (List ℕ)
  names = bound scope c.body

  -- each operand stands in the pattern once at most
  abbrev HasOnce : Pattern → Type 0
  HasOnce p = AllPairs (λ i j. i ≡ j → ⊥) (operands_in p)

  silent : All IsSilent declared.meanings
  silent = silent_meanings spec.tokens declared.meanings sound.sound nothing

  local : All IsSilent scope.local_meanings
  local = locals_silent declared c.operands

  explicit : are_new declared.names (explicit_names c.operands) ≡ true
  explicit = explicit_new declared c.operands c.body (local_once spec declared c met.once)

  names_apart : are_distinct (operand_names c.operands ++ labels c.body) ≡ true
  names_apart =
      (both_of (are_distinct (operand_names c.operands ++ labels c.body)) (are_new declared.names (explicit_names c.operands ++ labels c.body)) (local_once spec declared c met.once)).0

  numbers_differ : AllPairs (λ i j. i ≢ j) (filter_map number names)
  numbers_differ =
      picked_differ (λ (w : List ℕ). w) number number (λ w n e. e) (one_name declared spec.tokens sound.local_names sound.local_meanings sound.sound c.operands) names
      (ap are_distinct (map-id names) ∙ names_distinct scope c.body)

  -- ---- bodies

  -- in a scope in which what binds nothing reads nothing, and a word's operands are those of the name that it binds
  body_in : (d : Declared) → ((w : List ℕ) → word_binds scope w ≡ false → ReadsNothing (word_pattern d w))
      → ((w : List ℕ) → operands_in (word_pattern d w) ≡ filter_map number (cond (word_binds scope w) (w ∷ []) []))
      → HasOnce (first_of (patterns_of d (labels c.body) c.body))
  body_in d quiet word =
      let same : operands_in (first_of (patterns_of d (labels c.body) c.body)) ≡ filter_map number names =
      first_is (λ p. operands_in p ≡ filter_map number names) d (labels c.body) c.body met.single
      (operands_are d scope (labels c.body) quiet number word c.body met.sides met.binds
      (labels_free declared spec.tokens sound.local_names sound.local_meanings sound.sound c.operands c.body names_apart)) in
      subst (AllPairs (λ i j. i ≡ j → ⊥)) (sym same) numbers_differ

  word_case : (w : List ℕ) (o : Option Meaning) → ((m : Meaning) → o ≡ Some m → IsSilent m) → number w ≡ option_and_then as_operand o
      → operands_in (option_map_or meaning_pattern o pattern.Empty) ≡ filter_map number (cond (option_map_or is_binding o false) (w ∷ []) [])
  word_case w None quiet is = refl
  word_case w (Some (meaning.Class k)) quiet is = refl
  word_case w (Some (meaning.Field f)) quiet is = ap (λ n. cons_option n []) (sym is)
  word_case w (Some (meaning.Pattern p)) quiet is = (quiet (meaning.Pattern p) refl).1
  word_case w (Some (meaning.Group ps)) quiet is = (reads-Either ps (quiet (meaning.Group ps) refl)).1
  word_case w (Some (meaning.Type t)) quiet is = refl
  word_case w (Some (meaning.Operand k)) quiet is = ap (λ n. cons_option n []) (sym is)

  word_in : (w : List ℕ) → operands_in (word_pattern scope w) ≡ filter_map number (cond (word_binds scope w) (w ∷ []) [])
  word_in w = word_case w (meaning_of scope w) (found_all IsSilent scope silent local w) refl

  lone_in : HasOnce (first_of (patterns_of scope (labels c.body) c.body))
  lone_in = body_in scope (word_reads scope silent local) word_in

  module _ (ps : List Pattern) (group : meaning_of declared c.opcode ≡ Some (meaning.Group ps)) (p : Pattern) (reads : ReadsNothing p) where
    abbrev inside : Declared
    inside = with_member scope c.opcode (Some p)

    fresh : is_among scope.local_names c.opcode ≡ false
    fresh = opcode_fresh declared sound.local_names c.opcode ps group c.operands explicit

    many : length scope.local_names ≡ length scope.local_meanings
    many = as_many_meanings declared c.operands

    here : meaning_of scope c.opcode ≡ Some (meaning.Group ps)
    here = inner declared sound.local_names c.operands c.opcode fresh ∙ group

    quiet_inside : (w : List ℕ) → word_binds scope w ≡ false → ReadsNothing (word_pattern inside w)
    quiet_inside w unbound =
        word_reads inside silent (All-push IsSilent scope.local_meanings (meaning.Pattern p) local reads) w (member_unbound scope many c.opcode ps here fresh p w unbound)

    word_inside : (w : List ℕ) → operands_in (word_pattern inside w) ≡ filter_map number (cond (word_binds scope w) (w ∷ []) [])
    word_inside w = ⊎_elim
        (λ (same : meaning_of inside w ≡ meaning_of scope w). ap (λ o. operands_in (option_map_or meaning_pattern o pattern.Empty)) same ∙ word_in w)
        (λ (both : (meaning_of inside w ≡ Some (meaning.Pattern p)) × (meaning_of scope w ≡ Some (meaning.Group ps))).
        ap (λ o. operands_in (option_map_or meaning_pattern o pattern.Empty)) both.0 ∙ reads.1
        ∙ sym (ap (λ o. filter_map number (cond (option_map_or is_binding o false) (w ∷ []) [])) both.1))
        (member_meaning scope many c.opcode ps here fresh p w)

    member_in : HasOnce (first_of (patterns_of inside (labels c.body) c.body))
    member_in = body_in inside quiet_inside word_inside

  group_silent : (ps : List Pattern) → meaning_of declared c.opcode ≡ Some (meaning.Group ps) → All ReadsNothing ps
  group_silent ps group =
      found_all IsSilent declared silent (All-same IsSilent declared.local_meanings [] sound.local_meanings (All-nil IsSilent)) c.opcode (meaning.Group ps) group

  bodies_once : All HasOnce (bodies declared c)
  bodies_once =
      let body = body_of scope c.opcode (labels c.body) c.body in
      All-map HasOnce body (makings declared c.opcode)
      (made_by (λ m. HasOnce (body m)) declared c.opcode (meaning_of declared c.opcode) (λ n. lone_in)
      (λ ps group. All-weaker ReadsNothing (λ (p : Pattern). (n : List ℕ) → HasOnce (body (record { name = n; member = Some p }))) (λ p reads n. member_in ps group p reads) ps (group_silent ps group)))

  -- ---- constructors

  made_once : All HasOperandsOnce (constructors_of spec declared c)
  made_once = mapped_alike HasOnce HasOperandsOnce (body_of scope c.opcode (labels c.body) c.body) (constructor_of spec declared c) (λ m h. h) (makings declared c.opcode) bodies_once

  built : (new : Option (List ℕ)) → OperandsStandOnce spec → OperandsStandOnce (with_constructors (with_new_type spec new) (constructors_of spec declared c))
  built None before = All-append HasOperandsOnce spec.constructors (constructors_of spec declared c) before made_once
  built (Some t) before = All-append HasOperandsOnce spec.constructors (constructors_of spec declared c) before made_once

  -- with these constructors each operand stands once still
  pub built_once : OperandsStandOnce spec → OperandsStandOnce (built_spec spec declared c)
  built_once = built (new_type declared c.result)
