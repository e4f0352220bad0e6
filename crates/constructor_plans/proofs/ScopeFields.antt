-- The fields of names in the body of a constructor.
use Rattle.std.proofs.Common.{◌≡◌, ℕ, suc, ◌+◌, ◌⊎◌, inl, inr, Bool, true, false, cond, List, [], ◌∷◌, ◌++◌, length, map, All, Some, None, slice_get, refl, sym, ap, ◌∙◌, arith}
use Rattle.std.specs.Prelude.{Option, not, ◌||◌, nat_lt, bytes_eq, is_none, option_map, option_and_then}
use Rattle.std.specs.List.{list_all, filter_map, flat_map, cons_option, position_or_len}
use Rattle.std.specs.Option.{option_map_or, option_or}
use Rattle.std.proofs.lemmas.List.Elements.{All-nil, All-cons, All-head, All-tail}
use Rattle.std.proofs.lemmas.Slice.Eq.{bytes_eq-Decides}
use Rattle.token_bits.specs.declared.tokens.FieldId.{FieldId}
use Rattle.token_bits.proofs.Sound.{All-slice_get}
use Rattle.sled_parser.specs.declared.tree.OperandTree.{OperandTree}
use Rattle.sled_parser.specs.declared.tree.OperandTree.TheVariants.{Word, Extended, Typed}
use Rattle.sled_parser.specs.declared.tree.PatternTree.{PatternTree}
use Rattle.sled_model.specs.declared.constructor.TypeId.{TypeId}
use Rattle.sled_model.specs.declared.pattern.Pattern.{Pattern}
use Rattle.sled_model.specs.declared.pattern.Pattern.TheVariants as pattern
use Rattle.sled_model.specs.SolvingOrder.{bare_fields}
use Rattle.eq_solver.proofs.BareFields.{fields-Either}
use Rattle.tree_meaning.specs.declared.scope.Meaning.{Meaning}
use Rattle.tree_meaning.specs.declared.scope.Meaning.TheVariants as meaning
use Rattle.tree_meaning.specs.Bindings.{is_binding, word_binds}
use Rattle.tree_meaning.specs.Names.{is_among, are_new, position_of}
use Rattle.tree_meaning.specs.Parts.{parts, part_labels, labels}
use Rattle.tree_meaning.specs.Patterns.{meaning_pattern, word_pattern}
use Rattle.tree_meaning.specs.Scopes.{Declared, meaning_among, meaning_of, field_named, type_named, as_field, as_type}
use Rattle.tree_meaning.proofs.Soundness.{found_all}
use Rattle.operand_meaning.specs.Operands.{operand_name, explicit_names}
use Rattle.operand_meaning.proofs.ListFacts.{both_of, not_true, all-flat_map, all_weaker}
use Rattle.constructor_scopes.specs.Bodies.{if_typed, typed_from, typed_operands, with_operands, with_member}
use Rattle.constructor_scopes.proofs.BodySound.{as_many_meanings, inner}
use Rattle.constructor_scopes.proofs.MemberLemmas.{among_more, not_among}
use Rattle.constructor_plans.specs.Named.{BindsNothing, PatternsBindNothing}

-- ---- the number of the field of a name

abbrev pub field_number : Declared → List ℕ → Option ℕ
field_number declared w = option_map (λ (f : FieldId). f.0) (field_named declared w)

pub number_field : (o : Option FieldId) (n : ℕ) → option_map (λ (f : FieldId). f.0) o ≡ Some n → (f : FieldId) × (o ≡ Some f) × (f.0 ≡ n)
number_field None n is = cc
number_field (Some f) n is = let same : f.0 ≡ n = cc in (f, refl, same)

pub field_meaning : (m : Option Meaning) (f : FieldId) → option_and_then as_field m ≡ Some f → m ≡ Some (meaning.Field f)
field_meaning None f is = cc
field_meaning (Some (meaning.Field g)) f is = let same : g ≡ f = cc in ap (λ h. Some (meaning.Field h)) same
field_meaning (Some _) f is = cc

-- ---- one local name more

or_none : (o : Option Meaning) → option_or o None ≡ o
or_none None = refl
or_none (Some m) = refl

module _ (scope : Declared) (many : length scope.local_names ≡ length scope.local_meanings) (opcode : List ℕ) (ps : List Pattern)
    (group : meaning_of scope opcode ≡ Some (meaning.Group ps)) (fresh : is_among scope.local_names opcode ≡ false) (p : Pattern) where
  -- in the scope of a member a name stands for the same, or is the group's and stands for the member
  member_meaning : (w : List ℕ) → (meaning_of (with_member scope opcode (Some p)) w ≡ meaning_of scope w)
      ⊎ ((meaning_of (with_member scope opcode (Some p)) w ≡ Some (meaning.Pattern p)) × (meaning_of scope w ≡ Some (meaning.Group ps)))
  member_meaning w = by_test (bytes_eq w opcode) refl where
    more : (t : Bool) → bytes_eq w opcode ≡ t
        → meaning_of (with_member scope opcode (Some p)) w ≡ option_or (option_or (meaning_among scope.local_names scope.local_meanings w) (cond t (Some (meaning.Pattern p)) None)) (meaning_among scope.names scope.meanings w)
    more t is =
        ap (λ o. option_or o (meaning_among scope.names scope.meanings w))
        (among_more scope.local_names scope.local_meanings opcode (meaning.Pattern p) w many
        ∙ ap (λ b. option_or (meaning_among scope.local_names scope.local_meanings w) (cond b (Some (meaning.Pattern p)) None)) is)

    by_test : (t : Bool) → bytes_eq w opcode ≡ t → (meaning_of (with_member scope opcode (Some p)) w ≡ meaning_of scope w)
        ⊎ ((meaning_of (with_member scope opcode (Some p)) w ≡ Some (meaning.Pattern p)) × (meaning_of scope w ≡ Some (meaning.Group ps)))
    by_test false is = inl (more false is ∙ ap (λ o. option_or o (meaning_among scope.names scope.meanings w)) (or_none (meaning_among scope.local_names scope.local_meanings w)))
    by_test true is =
        let name : w ≡ opcode = (bytes_eq-Decides w opcode).0 is in
        let none : meaning_among scope.local_names scope.local_meanings w ≡ None =
        ap (meaning_among scope.local_names scope.local_meanings) name ∙ not_among scope.local_names scope.local_meanings opcode fresh in
        inr (more true is ∙ ap (λ o. option_or (option_or o (Some (meaning.Pattern p))) (meaning_among scope.names scope.meanings w)) none, ap (meaning_of scope) name ∙ group)

-- ---- the scope of the operands

mapped_each : {A B : Type 0} (P : B → Type 0) (f : A → B) → ((x : A) → P (f x)) → (xs : List A) → All P (map f xs)
mapped_each P f each [] = All-nil P
mapped_each P f each (x ∷ xs) = All-cons P (f x) (map f xs) (each x) (mapped_each P f each xs)

type_no_field : (m : Option Meaning) (t : TypeId) → option_and_then as_type m ≡ Some t → option_map (λ (f : FieldId). f.0) (option_and_then as_field m) ≡ None
type_no_field None t is = cc
type_no_field (Some (meaning.Type u)) t is = refl
type_no_field (Some _) t is = cc

none_bare : (ps : List Pattern) → All (λ p. bare_fields p ≡ []) ps → flat_map bare_fields ps ≡ []
none_bare [] h = refl
none_bare (p ∷ ps) h =
    let here = All-head (λ q. bare_fields q ≡ []) p ps h in
    let later = none_bare ps (All-tail (λ q. bare_fields q ≡ []) p ps h) in
    ap (λ fs. fs ++ flat_map bare_fields ps) here ∙ later

module _ (declared : Declared) (outside : declared.local_names ≡ []) where
  outer : (w : List ℕ) → meaning_of declared w ≡ meaning_among declared.names declared.meanings w
  outer w = ap (λ ns. option_or (meaning_among ns declared.local_meanings w) (meaning_among declared.names declared.meanings w)) outside

  -- a new name is no field's
  new_number : (w : List ℕ) → is_among declared.names w ≡ false → field_number declared w ≡ None
  new_number w new =
      ap (λ m. option_map (λ (f : FieldId). f.0) (option_and_then as_field m)) (outer w ∙ not_among declared.names declared.meanings w new)

  -- the labels are no fields' names, where they are new
  pub labels_free : (t : PatternTree) → are_new declared.names (labels t) ≡ true
      → list_all (λ u. list_all (λ l. is_none (field_number declared l)) (part_labels u)) (parts t) ≡ true
  labels_free t new =
      sym (all-flat_map (λ l. is_none (field_number declared l)) part_labels (parts t))
      ∙ all_weaker (λ l. not (is_among declared.names l)) (λ l. is_none (field_number declared l)) (labels t)
      (λ l h. ap is_none (new_number l (not_true (is_among declared.names l) h))) new

  module _ (w : List ℕ) where
    typed_case : (o : OperandTree) (k : ℕ) (t : Option TypeId) (rest : List (List ℕ × ℕ)) → ((x : TypeId) → t ≡ Some x → bytes_eq w (operand_name o) ≡ true → field_number declared w ≡ None)
        → (is_among (map (λ (x : List ℕ × ℕ). x.0) rest) w ≡ true → field_number declared w ≡ None)
        → is_among (map (λ (x : List ℕ × ℕ). x.0) (if_typed o k t ++ rest)) w ≡ true → field_number declared w ≡ None
    typed_case o k None rest here later among = later among
    typed_case o k (Some t) rest here later among = by_test (bytes_eq w (operand_name o)) refl among where
      by_test : (b : Bool) → bytes_eq w (operand_name o) ≡ b → (b || is_among (map (λ (x : List ℕ × ℕ). x.0) rest) w) ≡ true → field_number declared w ≡ None
      by_test true is h = here t refl is
      by_test false is h = later h

    of_type : (v : List ℕ) (t : TypeId) → type_named declared v ≡ Some t → bytes_eq w v ≡ true → field_number declared w ≡ None
    of_type v t named is =
        let same : w ≡ v = (bytes_eq-Decides w v).0 is in
        type_no_field (meaning_of declared w) t (ap (type_named declared) same ∙ named)

    of_new : (v : List ℕ) → is_among declared.names v ≡ false → bytes_eq w v ≡ true → field_number declared w ≡ None
    of_new v new is =
        let same : w ≡ v = (bytes_eq-Decides w v).0 is in
        new_number w (ap (is_among declared.names) same ∙ new)

    typed_number : (k : ℕ) (os : List OperandTree) → are_new declared.names (explicit_names os) ≡ true → is_among (map (λ (x : List ℕ × ℕ). x.0) (typed_from declared k os)) w ≡ true
        → field_number declared w ≡ None
    typed_number k [] new among = cc
    typed_number k (Word v ∷ os) new among =
        typed_case (Word v) k (type_named declared v) (typed_from declared (k + 1) os) (λ t named is. of_type v t named is) (typed_number (k + 1) os new) among
    typed_number k (Extended v ∷ os) new among = typed_number (k + 1) os new among
    typed_number k (Typed n r ∷ os) new among =
        let both = both_of (not (is_among declared.names n)) (are_new declared.names (explicit_names os)) new in
        typed_case (Typed n r) k (type_named declared r) (typed_from declared (k + 1) os) (λ t named is. of_new n (not_true (is_among declared.names n) both.0) is)
        (typed_number (k + 1) os both.1) among

  module _ (os : List OperandTree) (new : are_new declared.names (explicit_names os) ≡ true) where
    abbrev scope : Declared
    scope = with_operands declared os

    abbrev IsOperand : Meaning → Type 0
    IsOperand m = (k : ℕ) × (m ≡ meaning.Operand k)

    local_found : (o : Option ℕ) (m : Meaning) → option_and_then (slice_get scope.local_meanings) o ≡ Some m → IsOperand m
    local_found None m is = cc
    local_found (Some j) m is =
        All-slice_get IsOperand scope.local_meanings j m is (mapped_each IsOperand (λ (n : List ℕ × ℕ). meaning.Operand n.1) (λ n. (n.1, refl)) (typed_operands declared os))

    -- a name stands for what it stands for outside, or for an operand, and then it is no field's
    local_or_outer : (w : List ℕ) → (meaning_of scope w ≡ meaning_of declared w) ⊎ ((k : ℕ) × (meaning_of scope w ≡ Some (meaning.Operand k)) × (field_number declared w ≡ None))
    local_or_outer w = by_local (meaning_among scope.local_names scope.local_meanings w) refl where
      among : (m : Meaning) → meaning_among scope.local_names scope.local_meanings w ≡ Some m → is_among scope.local_names w ≡ true
      among m is = by_test (is_among scope.local_names w) refl where
        by_test : (t : Bool) → is_among scope.local_names w ≡ t → t ≡ true
        by_test true e = refl
        by_test false e = let none = not_among scope.local_names scope.local_meanings w e in cc

      by_local : (o : Option Meaning) → meaning_among scope.local_names scope.local_meanings w ≡ o
          → (meaning_of scope w ≡ meaning_of declared w) ⊎ ((k : ℕ) × (meaning_of scope w ≡ Some (meaning.Operand k)) × (field_number declared w ≡ None))
      by_local None is = inl (ap (λ o. option_or o (meaning_among declared.names declared.meanings w)) is ∙ sym (outer w))
      by_local (Some m) is =
          let operand = local_found (position_of scope.local_names w) m is in
          inr (operand.0, ap (λ o. option_or o (meaning_among declared.names declared.meanings w)) is ∙ ap Some operand.1, typed_number w 0 os new (among m is))

    module _ (nothing : PatternsBindNothing declared) where
      binds_nothing : (w : List ℕ) (m : Meaning) → meaning_of scope w ≡ Some m → BindsNothing m
      binds_nothing w m is =
          found_all BindsNothing scope nothing (mapped_each BindsNothing (λ (n : List ℕ × ℕ). meaning.Operand n.1) (λ n. tt) (typed_operands declared os)) w m is

      word_case : (w : List ℕ) (m : Option Meaning) → ((x : Meaning) → m ≡ Some x → BindsNothing x) → ((f : FieldId) → m ≡ Some (meaning.Field f) → field_number declared w ≡ Some f.0)
          → ((k : ℕ) → m ≡ Some (meaning.Operand k) → field_number declared w ≡ None)
          → bare_fields (option_map_or meaning_pattern m pattern.Empty) ≡ filter_map (field_number declared) (cond (option_map_or is_binding m false) (w ∷ []) [])
      word_case w None binds field operand = refl
      word_case w (Some (meaning.Class c)) binds field operand = refl
      word_case w (Some (meaning.Field f)) binds field operand = ap (λ o. cons_option o []) (sym (field f refl))
      word_case w (Some (meaning.Pattern p)) binds field operand = binds (meaning.Pattern p) refl
      word_case w (Some (meaning.Group ps)) binds field operand = fields-Either ps ∙ none_bare ps (binds (meaning.Group ps) refl)
      word_case w (Some (meaning.Type t)) binds field operand = refl
      word_case w (Some (meaning.Operand k)) binds field operand = ap (λ o. cons_option o []) (sym (operand k refl))

      number_of_field : (m : Option Meaning) (f : FieldId) → m ≡ Some (meaning.Field f) → option_map (λ (g : FieldId). g.0) (option_and_then as_field m) ≡ Some f.0
      number_of_field m f is = ap (λ o. option_map (λ (g : FieldId). g.0) (option_and_then as_field o)) is

      no_number : (m : Option Meaning) (k : ℕ) → m ≡ Some (meaning.Operand k) → option_map (λ (g : FieldId). g.0) (option_and_then as_field m) ≡ None
      no_number m k is = ap (λ o. option_map (λ (g : FieldId). g.0) (option_and_then as_field o)) is

      -- the bare fields of a word are those of the names that it binds
      pub word_fields : (w : List ℕ) → bare_fields (word_pattern scope w) ≡ filter_map (field_number declared) (cond (word_binds scope w) (w ∷ []) [])
      word_fields w = by_place (local_or_outer w) where
        by_place : (meaning_of scope w ≡ meaning_of declared w) ⊎ ((k : ℕ) × (meaning_of scope w ≡ Some (meaning.Operand k)) × (field_number declared w ≡ None))
            → bare_fields (word_pattern scope w) ≡ filter_map (field_number declared) (cond (word_binds scope w) (w ∷ []) [])
        by_place (inl same) =
            word_case w (meaning_of scope w) (binds_nothing w) (λ f is. number_of_field (meaning_of declared w) f (sym same ∙ is)) (λ k is. no_number (meaning_of declared w) k (sym same ∙ is))
        by_place (inr found) =
            word_case w (meaning_of scope w) (binds_nothing w) (λ f is. let both = found.1 in cc) (λ k is. found.2)

      module _ (opcode : List ℕ) (ps : List Pattern) (group : meaning_of declared opcode ≡ Some (meaning.Group ps)) (fresh : is_among scope.local_names opcode ≡ false)
          (p : Pattern) (bare : bare_fields p ≡ []) where
        -- the same where the group's name stands for one of its members
        pub member_fields : (w : List ℕ) → bare_fields (word_pattern (with_member scope opcode (Some p)) w) ≡ filter_map (field_number declared) (cond (word_binds scope w) (w ∷ []) [])
        member_fields w = by_place (member_meaning scope (as_many_meanings declared os) opcode ps (inner declared outside os opcode fresh ∙ group) fresh p w) where
          by_place : (meaning_of (with_member scope opcode (Some p)) w ≡ meaning_of scope w)
              ⊎ ((meaning_of (with_member scope opcode (Some p)) w ≡ Some (meaning.Pattern p)) × (meaning_of scope w ≡ Some (meaning.Group ps)))
              → bare_fields (word_pattern (with_member scope opcode (Some p)) w) ≡ filter_map (field_number declared) (cond (word_binds scope w) (w ∷ []) [])
          by_place (inl same) = ap (λ m. bare_fields (option_map_or meaning_pattern m pattern.Empty)) same ∙ word_fields w
          by_place (inr both) =
              ap (λ m. bare_fields (option_map_or meaning_pattern m pattern.Empty)) both.0 ∙ bare
              ∙ sym (ap (λ m. filter_map (field_number declared) (cond (option_map_or is_binding m false) (w ∷ []) [])) both.1)
