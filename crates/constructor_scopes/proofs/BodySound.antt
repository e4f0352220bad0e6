-- The bodies of the constructors that a declaration makes are sound.
use Rattle.std.proofs.Common.{◌≡◌, ℕ, ◌+◌, ◌<◌, ◌≤◌, Bool, true, false, List, [], ◌∷◌, ◌++◌, length, map, Option, Some, None, refl, sym, ap, ◌∙◌, subst, arith}
use Rattle.std.specs.Prelude.{All, not, bytes_eq, option_and_then}
use Rattle.std.specs.List.{list_all}
use Rattle.std.specs.Option.{option_or}
use Rattle.std.proofs.lemmas.List.{length-map}
use Rattle.std.proofs.lemmas.List.Elements.{All-nil, All-cons, All-head, All-tail, All-same, All-push, All-map, All-weaker}
use Rattle.std.proofs.lemmas.List.Folds.{list_all-append}
use Rattle.std.proofs.lemmas.Slice.Eq.{bytes_eq-Decides}
use Rattle.token_bits.specs.declared.tokens.Tokens.{Tokens}
use Rattle.sled_parser.specs.declared.tree.OperandTree.{OperandTree}
use Rattle.sled_parser.specs.declared.tree.OperandTree.TheVariants.{Word, Extended, Typed}
use Rattle.sled_parser.specs.declared.tree.PatternTree.{PatternTree}
use Rattle.sled_model.specs.declared.constructor.TypeId.{TypeId}
use Rattle.sled_model.specs.declared.pattern.Pattern.{Pattern}
use Rattle.sled_model.specs.declared.pattern.Pattern.TheVariants as pattern
use Rattle.sled_model.specs.Leaves.{AllLeaves, IsNoApplication}
use Rattle.tree_meaning.specs.declared.scope.Meaning.{Meaning}
use Rattle.tree_meaning.specs.declared.scope.Meaning.TheVariants as meaning
use Rattle.tree_meaning.specs.declared.parts.Site.TheVariants.{Body}
use Rattle.tree_meaning.specs.Names.{is_among, are_distinct, are_new}
use Rattle.tree_meaning.specs.Scopes.{Declared, meaning_among, meaning_of, type_named, as_type}
use Rattle.tree_meaning.specs.Parts.{are_known, numbers_fit, labels}
use Rattle.tree_meaning.specs.Patterns.{patterns_of}
use Rattle.tree_meaning.specs.Sound.{IsSoundPattern, IsSoundMeaning, IsSoundBodyLeaf, IsSoundBody, IsSoundLocalMeaning}
use Rattle.tree_meaning.proofs.Soundness.{and_split, AllLeaves-weaker, found_all, body_sound}
use Rattle.operand_meaning.specs.Operands.{operand_name, operand_names, explicit_names}
use Rattle.constructor_scopes.specs.declared.members.Member.{Member}
use Rattle.constructor_scopes.specs.Names.{have_local_names}
use Rattle.constructor_scopes.specs.Views.{made_for}
use Rattle.constructor_scopes.specs.Makings.{Made, names_behind, one_for_each, makings_by, makings}
use Rattle.constructor_scopes.specs.Bodies.{operand_type, if_typed, typed_from, typed_operands, with_operands, with_member, first_of, body_of, bodies_of}
use Rattle.constructor_scopes.proofs.MemberLemmas.{not_among, member_known, member_fits}

-- ---- the operands

module _ (declared : Declared) where
  below_case : (o : OperandTree) (k : ℕ) (t : Option TypeId) (rest : List (List ℕ × ℕ)) (n : ℕ) → k < n → All (λ (x : List ℕ × ℕ). x.1 < n) rest → All (λ (x : List ℕ × ℕ). x.1 < n) (if_typed o k t ++ rest)
  below_case o k None rest n below h = h
  below_case o k (Some t) rest n below h = All-cons (λ (x : List ℕ × ℕ). x.1 < n) (operand_name o, k) rest below h

  -- a typed operand is one of the operands
  pub typed_below : (k : ℕ) (os : List OperandTree) (n : ℕ) → k + length os ≤ n → All (λ (x : List ℕ × ℕ). x.1 < n) (typed_from declared k os)
  typed_below k [] n h = All-nil (λ (x : List ℕ × ℕ). x.1 < n)
  typed_below k (o ∷ os) n h =
      below_case o k (operand_type declared o) (typed_from declared (k + 1) os) n (omega arith) (typed_below (k + 1) os n (omega arith))

  -- and so their names stand for what is sound
  pub locals_sound : (tokens : Tokens) (os : List OperandTree) → All (IsSoundLocalMeaning tokens (length os)) (with_operands declared os).local_meanings
  locals_sound tokens os =
      All-map (IsSoundLocalMeaning tokens (length os)) (λ (x : List ℕ × ℕ). meaning.Operand x.1) (typed_operands declared os) (typed_below 0 os (length os) (omega arith))

  -- each of them has a meaning
  pub as_many_meanings : (os : List OperandTree) → length (with_operands declared os).local_names ≡ length (with_operands declared os).local_meanings
  as_many_meanings os =
      length-map (typed_operands declared os) (λ (x : List ℕ × ℕ). x.0) ∙ sym (length-map (typed_operands declared os) (λ (x : List ℕ × ℕ). meaning.Operand x.1))

-- ---- the opcode

not_true : (t : Bool) → not t ≡ true → t ≡ false
not_true true h = cc
not_true false h = refl

module _ (declared : Declared) (outside : declared.local_names ≡ []) where
  -- outside of a body a name stands for what was declared
  outer : (w : List ℕ) → meaning_of declared w ≡ meaning_among declared.names declared.meanings w
  outer w = ap (λ ns. option_or (meaning_among ns declared.local_meanings w) (meaning_among declared.names declared.meanings w)) outside

  -- and in one, what is not local
  pub inner : (os : List OperandTree) (w : List ℕ) → is_among (with_operands declared os).local_names w ≡ false → meaning_of (with_operands declared os) w ≡ meaning_of declared w
  inner os w fresh =
      ap (λ o. option_or o (meaning_among declared.names declared.meanings w)) (not_among (with_operands declared os).local_names (with_operands declared os).local_meanings w fresh)
      ∙ sym (outer w)

  module _ (opcode : List ℕ) (ps : List Pattern) (group : meaning_of declared opcode ≡ Some (meaning.Group ps)) where
    -- the group's name is no type's
    no_type : (w : List ℕ) (t : TypeId) → type_named declared w ≡ Some t → bytes_eq opcode w ≡ false
    no_type w t named = by_test (bytes_eq opcode w) refl where
      by_test : (b : Bool) → bytes_eq opcode w ≡ b → b ≡ false
      by_test false is = refl
      by_test true is =
          let same : opcode ≡ w = (bytes_eq-Decides opcode w).0 is in
          let none : type_named declared w ≡ None = ap (type_named declared) (sym same) ∙ ap (option_and_then as_type) group in cc

    -- and no new one
    no_new : (n : List ℕ) → is_among declared.names n ≡ false → bytes_eq opcode n ≡ false
    no_new n new = by_test (bytes_eq opcode n) refl where
      by_test : (b : Bool) → bytes_eq opcode n ≡ b → b ≡ false
      by_test false is = refl
      by_test true is =
          let same : opcode ≡ n = (bytes_eq-Decides opcode n).0 is in
          let none : meaning_of declared n ≡ None = outer n ∙ not_among declared.names declared.meanings n new in
          let some : meaning_of declared n ≡ Some (meaning.Group ps) = ap (meaning_of declared) (sym same) ∙ group in cc

    fresh_case : (o : OperandTree) (k : ℕ) (t : Option TypeId) (rest : List (List ℕ × ℕ)) → ((x : TypeId) → t ≡ Some x → bytes_eq opcode (operand_name o) ≡ false)
        → is_among (map (λ (x : List ℕ × ℕ). x.0) rest) opcode ≡ false → is_among (map (λ (x : List ℕ × ℕ). x.0) (if_typed o k t ++ rest)) opcode ≡ false
    fresh_case o k None rest differ h = h
    fresh_case o k (Some t) rest differ h = rw (differ t refl, h) refl

    fresh_from : (k : ℕ) (os : List OperandTree) → are_new declared.names (explicit_names os) ≡ true → is_among (map (λ (x : List ℕ × ℕ). x.0) (typed_from declared k os)) opcode ≡ false
    fresh_from k [] new = refl
    fresh_from k (Word w ∷ os) new = fresh_case (Word w) k (type_named declared w) (typed_from declared (k + 1) os) (no_type w) (fresh_from (k + 1) os new)
    fresh_from k (Extended w ∷ os) new = fresh_from (k + 1) os new
    fresh_from k (Typed n r ∷ os) new =
        let both = and_split (not (is_among declared.names n)) (are_new declared.names (explicit_names os)) new in
        fresh_case (Typed n r) k (type_named declared r) (typed_from declared (k + 1) os) (λ t is. no_new n (not_true (is_among declared.names n) both.0)) (fresh_from (k + 1) os both.1)

    -- a group's name is no typed operand's where the names before types are new
    pub opcode_fresh : (os : List OperandTree) → are_new declared.names (explicit_names os) ≡ true → is_among (with_operands declared os).local_names opcode ≡ false
    opcode_fresh os new = fresh_from 0 os new

  abbrev first_member : List Made → Option Pattern
  first_member [] = None
  first_member (m ∷ ms) = m.member

  -- where a declaration makes constructors of members, its opcode is a group's name
  group_of : (opcode : List ℕ) (o : Option Meaning) (ms : List Member) → map made_for ms ≡ makings_by declared opcode o → (ps : List Pattern) × (o ≡ Some (meaning.Group ps))
  group_of opcode (Some (meaning.Group ps)) ms is = (ps, refl)
  group_of opcode _ [] is = cc
  group_of opcode _ (m ∷ ms) is = let none : Some m.pattern ≡ None = ap first_member is in cc

  -- and so it is no typed operand's
  pub members_fresh : (opcode : List ℕ) (ms : List Member) → map made_for ms ≡ makings declared opcode → (os : List OperandTree) → are_new declared.names (explicit_names os) ≡ true
      → is_among (with_operands declared os).local_names opcode ≡ false
  members_fresh opcode ms is os new = let group = group_of opcode (meaning_of declared opcode) ms is in opcode_fresh opcode group.0 group.1 os new

-- the names before types are new, where the names of the declaration are such as its condition asks
pub explicit_new : (declared : Declared) (os : List OperandTree) (body : PatternTree) → have_local_names declared os body ≡ true → are_new declared.names (explicit_names os) ≡ true
explicit_new declared os body h =
    let is_new = λ (n : List ℕ). not (is_among declared.names n) in
    let all = (and_split (are_distinct (operand_names os ++ labels body)) (are_new declared.names (explicit_names os ++ labels body)) h).1 in
    (and_split (list_all is_new (explicit_names os)) (list_all is_new (labels body)) (sym (list_all-append is_new (explicit_names os) (labels body)) ∙ all)).0

-- ---- the constructors

-- what is true of each member is true of each constructor that is made of one
made_each : (Q : Made → Type 0) (ns : List (List ℕ)) (ps : List Pattern) → All (λ (p : Pattern). (n : List ℕ) → Q (record { name = n; member = Some p })) ps → All Q (one_for_each ns ps)
made_each Q [] ps h = All-nil Q
made_each Q (n ∷ ns) [] h = All-nil Q
made_each Q (n ∷ ns) (p ∷ ps) h =
    All-cons Q (record { name = n; member = Some p }) (one_for_each ns ps) (All-head (λ (q : Pattern). (m : List ℕ) → Q (record { name = m; member = Some q })) p ps h n)
    (made_each Q ns ps (All-tail (λ (q : Pattern). (m : List ℕ) → Q (record { name = m; member = Some q })) p ps h))

-- and of each where it is true of one that is of no member
made_by : (Q : Made → Type 0) (declared : Declared) (opcode : List ℕ) (o : Option Meaning) → ((n : List ℕ) → Q (record { name = n; member = None }))
    → ((ps : List Pattern) → o ≡ Some (meaning.Group ps) → All (λ (p : Pattern). (n : List ℕ) → Q (record { name = n; member = Some p })) ps) → All Q (makings_by declared opcode o)
made_by Q declared opcode (Some (meaning.Group ps)) lone group = made_each Q (names_behind declared opcode) ps (group ps refl)
made_by Q declared opcode _ lone group = All-cons Q (record { name = opcode; member = None }) [] (lone opcode) (All-nil Q)

module _ (tokens : Tokens) (declared : Declared) (outside : declared.local_names ≡ []) (empty : declared.local_meanings ≡ []) (sound : All (IsSoundMeaning tokens) declared.meanings)
    (opcode : List ℕ) where
  group_sound : (ps : List Pattern) → meaning_of declared opcode ≡ Some (meaning.Group ps) → All (IsSoundPattern tokens) ps
  group_sound ps group =
      (found_all (IsSoundMeaning tokens) declared sound (All-same (IsSoundMeaning tokens) declared.local_meanings [] empty (All-nil (IsSoundMeaning tokens))) opcode (meaning.Group ps) group).1

  -- the members are sound
  pub member_sound : All (λ (m : Made). (p : Pattern) → m.member ≡ Some p → IsSoundPattern tokens p) (makings declared opcode)
  member_sound =
      made_by (λ (m : Made). (p : Pattern) → m.member ≡ Some p → IsSoundPattern tokens p) declared opcode (meaning_of declared opcode) (λ n p none. cc)
      (λ ps group. All-weaker (IsSoundPattern tokens) (λ (q : Pattern). (n : List ℕ) → (p : Pattern) → Some q ≡ Some p → IsSoundPattern tokens p)
      (λ q h n p is. subst (IsSoundPattern tokens) (let same : q ≡ p = cc in same) h) ps (group_sound ps group))

  -- L is true of each body where it is true of each pattern of a scope with sound meanings, of whose local ones P is true
  module _ (L : Pattern → Type 0) (P : Meaning → Type 0)
      (patterns : (scope : Declared) → All (IsSoundMeaning tokens) scope.meanings → All P scope.local_meanings → (names : List (List ℕ)) (t : PatternTree)
      → are_known Body scope t ≡ true → numbers_fit tokens scope t ≡ true → All L (patterns_of scope names t))
      (no_bytes : L pattern.Empty) (stands : (p : Pattern) → IsSoundPattern tokens p → P (meaning.Pattern p))
      (os : List OperandTree) (local : All P (with_operands declared os).local_meanings)
      (fresh : (ps : List Pattern) → meaning_of declared opcode ≡ Some (meaning.Group ps) → is_among (with_operands declared os).local_names opcode ≡ false)
      (names : List (List ℕ)) (t : PatternTree) (known : are_known Body (with_operands declared os) t ≡ true) (fit : numbers_fit tokens (with_operands declared os) t ≡ true) where
    first_made : (ps : List Pattern) → All L ps → L (first_of ps)
    first_made [] h = no_bytes
    first_made (p ∷ ps) h = All-head L p ps h

    member_made : (ps : List Pattern) → meaning_of declared opcode ≡ Some (meaning.Group ps) → (p : Pattern) → IsSoundPattern tokens p
        → L (first_of (patterns_of (with_member (with_operands declared os) opcode (Some p)) names t))
    member_made ps group p h =
        let scope = with_operands declared os in
        let here : is_among scope.local_names opcode ≡ false = fresh ps group in
        let many : length scope.local_names ≡ length scope.local_meanings = as_many_meanings declared os in
        let is : meaning_of scope opcode ≡ Some (meaning.Group ps) = inner declared outside os opcode here ∙ group in
        first_made (patterns_of (with_member scope opcode (Some p)) names t)
        (patterns (with_member scope opcode (Some p)) sound (All-push P scope.local_meanings (meaning.Pattern p) local (stands p h)) names t
        (member_known scope many opcode ps is here p t ∙ known) (member_fits scope many opcode ps is here p tokens t ∙ fit))

    pub bodies_made : All L (bodies_of (with_operands declared os) opcode names t (makings declared opcode))
    bodies_made =
        let scope = with_operands declared os in
        All-map L (body_of scope opcode names t) (makings declared opcode)
        (made_by (λ (m : Made). L (body_of scope opcode names t m)) declared opcode (meaning_of declared opcode)
        (λ n. first_made (patterns_of scope names t) (patterns scope sound local names t known fit))
        (λ ps group. All-weaker (IsSoundPattern tokens) (λ (p : Pattern). (n : List ℕ) → L (first_of (patterns_of (with_member scope opcode (Some p)) names t)))
        (λ p h n. member_made ps group p h) ps (group_sound ps group)))

  module _ (os : List OperandTree)
      (fresh : (ps : List Pattern) → meaning_of declared opcode ≡ Some (meaning.Group ps) → is_among (with_operands declared os).local_names opcode ≡ false)
      (names : List (List ℕ)) (t : PatternTree) (known : are_known Body (with_operands declared os) t ≡ true) (fit : numbers_fit tokens (with_operands declared os) t ≡ true) where
    -- each body names no application, and no operand but these
    pub bodies_sound : All (IsSoundBody tokens (length os)) (bodies_of (with_operands declared os) opcode names t (makings declared opcode))
    bodies_sound =
        bodies_made (IsSoundBody tokens (length os)) (IsSoundLocalMeaning tokens (length os)) (λ scope all local. body_sound tokens (length os) scope all local Body)
        (record { operand = tt; known = tt; limit = tt }) (λ p h. h) os (locals_sound declared tokens os) fresh names t known fit

    alone : (p : Pattern) → IsSoundBodyLeaf tokens (length os) p → IsNoApplication p
    alone (pattern.Apply' k s arguments) h = absurd h.operand
    alone _ h = tt

    pub bodies_plain : All (AllLeaves IsNoApplication) (bodies_of (with_operands declared os) opcode names t (makings declared opcode))
    bodies_plain =
        All-weaker (IsSoundBody tokens (length os)) (AllLeaves IsNoApplication) (λ p h. AllLeaves-weaker (IsSoundBodyLeaf tokens (length os)) IsNoApplication alone p h)
        (bodies_of (with_operands declared os) opcode names t (makings declared opcode)) bodies_sound
