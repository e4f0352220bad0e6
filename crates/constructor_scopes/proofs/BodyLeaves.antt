-- The leaves of a constructor's body name what is known, of the operands only typed ones.
use Rattle.std.proofs.Common.{◌≡◌, ℕ, ◌+◌, true, false, List, [], ◌∷◌, ◌++◌, length, slice_get, Option, Some, None, refl, sym, ap, ◌∙◌, subst}
use Rattle.std.specs.Prelude.{All, IsSome, IsSomeAnd, is_some, option_and_then, option_map, if◌then◌else◌}
use Rattle.std.specs.List.{list_all, filter_map, cons_option}
use Rattle.std.specs.Option.{option_map_or}
use Rattle.std.proofs.lemmas.List.{append_assoc, length_push}
use Rattle.std.proofs.lemmas.List.Elements.{All-nil, All-cons, All-map, All-weaker}
use Rattle.token_bits.specs.declared.tokens.FieldId.{FieldId}
use Rattle.token_bits.specs.declared.tokens.Tokens.{Tokens}
use Rattle.sled_parser.specs.declared.tree.EqTree.{EqTree}
use Rattle.sled_parser.specs.declared.tree.OperandTree.{OperandTree}
use Rattle.sled_parser.specs.declared.tree.OperandTree.TheVariants.{Word, Extended, Typed}
use Rattle.sled_parser.specs.declared.tree.PatternTree.{PatternTree}
use Rattle.sled_model.specs.declared.constructor.TypeId.{TypeId}
use Rattle.sled_model.specs.declared.constructor.OperandKind.{OperandKind}
use Rattle.sled_model.specs.declared.constructor.OperandKind.TheVariants as kind
use Rattle.sled_model.specs.declared.pattern.Pattern.{Pattern}
use Rattle.sled_model.specs.declared.pattern.Pattern.TheVariants as pattern
use Rattle.sled_model.specs.Leaves.{AllLeaves, IsTyped}
use Rattle.sled_model.specs.Specs.{IsBodyLeaf}
use Rattle.sled_model.proofs.MeasureLaws.{AllLeaves-to_Either}
use Rattle.tree_meaning.specs.declared.scope.Meaning.{Meaning}
use Rattle.tree_meaning.specs.declared.scope.Meaning.TheVariants as meaning
use Rattle.tree_meaning.specs.declared.parts.Site.TheVariants.{Body}
use Rattle.tree_meaning.specs.Names.{is_among}
use Rattle.tree_meaning.specs.Scopes.{Declared, meaning_of, as_field, as_type}
use Rattle.tree_meaning.specs.Parts.{are_known, numbers_fit}
use Rattle.tree_meaning.specs.Patterns.{meaning_pattern}
use Rattle.tree_meaning.specs.Sound.{IsSoundLeaf, IsSoundPattern, IsSoundMeaning}
use Rattle.tree_meaning.proofs.Soundness.{and_split, AllLeaves-weaker, patterns_made}
use Rattle.operand_meaning.specs.Operands.{operand_name, declared_kind, operand_kind, operand_kinds, operands_are_known}
use Rattle.operand_meaning.specs.Terms.{sliced_names}
use Rattle.constructor_scopes.specs.Makings.{makings}
use Rattle.constructor_scopes.specs.Bodies.{operand_type, if_typed, typed_from, typed_operands, with_operands, bodies_of}
use Rattle.constructor_scopes.proofs.BodySound.{bodies_made}

-- ---- what names stand for

-- a name stands for something sound, or for a typed operand
abbrev pub IsTypedMeaning : Tokens → List OperandKind → Meaning → Type 0
IsTypedMeaning tokens kinds (meaning.Operand k) = IsSomeAnd (slice_get kinds k) IsTyped
IsTypedMeaning tokens kinds m = IsSoundMeaning tokens m

module _ (tokens : Tokens) (kinds : List OperandKind) where
  -- a leaf outside of a body may stand in it
  leaf : (p : Pattern) → IsSoundLeaf tokens p → IsBodyLeaf tokens kinds p
  leaf (pattern.Token c) h = record { class = h.known; field = tt; limit = tt; operand = tt; alone = tt }
  leaf (pattern.Limit f r l) h = record { class = tt; field = h.known; limit = h.limit; operand = tt; alone = tt }
  leaf (pattern.Bind f) h = record { class = tt; field = h.known; limit = tt; operand = tt; alone = tt }
  leaf (pattern.Operand k) h = absurd h.plain
  leaf (pattern.Apply' k s arguments) h = absurd h.plain
  leaf _ h = record { class = tt; field = tt; limit = tt; operand = tt; alone = tt }

  in_body : (p : Pattern) → IsSoundPattern tokens p → AllLeaves (IsBodyLeaf tokens kinds) p
  in_body p h = AllLeaves-weaker (IsSoundLeaf tokens) (IsBodyLeaf tokens kinds) leaf p h

  means : (m : Meaning) → IsTypedMeaning tokens kinds m → AllLeaves (IsBodyLeaf tokens kinds) (meaning_pattern m)
  means (meaning.Class c) h = record { class = h; field = tt; limit = tt; operand = tt; alone = tt }
  means (meaning.Field f) h = record { class = tt; field = h; limit = tt; operand = tt; alone = tt }
  means (meaning.Pattern p) h = in_body p h
  means (meaning.Group ps) h =
      AllLeaves-to_Either (IsBodyLeaf tokens kinds) ps (All-weaker (IsSoundPattern tokens) (AllLeaves (IsBodyLeaf tokens kinds)) in_body ps h.1)
  means (meaning.Type t) h = record { class = tt; field = tt; limit = tt; operand = tt; alone = tt }
  means (meaning.Operand k) h = record { class = tt; field = tt; limit = tt; operand = h; alone = tt }

  fields : (m : Meaning) (k : FieldId) → IsTypedMeaning tokens kinds m → as_field m ≡ Some k → IsSome (slice_get tokens.fields k.0)
  fields (meaning.Field f) k h is = let same : f ≡ k = cc in subst (λ (g : FieldId). IsSome (slice_get tokens.fields g.0)) same h
  fields _ k h is = cc

  declared_typed : (m : Meaning) → IsSoundMeaning tokens m → IsTypedMeaning tokens kinds m
  declared_typed (meaning.Operand k) h = absurd h
  declared_typed _ h = h

  module _ (declared : Declared) (outside : declared.local_names ≡ []) (empty : declared.local_meanings ≡ []) (sound : All (IsSoundMeaning tokens) declared.meanings)
      (opcode : List ℕ) (os : List OperandTree) (typed : All (λ (x : List ℕ × ℕ). IsSomeAnd (slice_get kinds x.1) IsTyped) (typed_operands declared os))
      (fresh : (ps : List Pattern) → meaning_of declared opcode ≡ Some (meaning.Group ps) → is_among (with_operands declared os).local_names opcode ≡ false)
      (names : List (List ℕ)) (t : PatternTree) (known : are_known Body (with_operands declared os) t ≡ true) (fit : numbers_fit tokens (with_operands declared os) t ≡ true) where
    -- each leaf of each body is one that a constructor's may have, with operands of these kinds
    pub bodies_leaves : All (AllLeaves (IsBodyLeaf tokens kinds)) (bodies_of (with_operands declared os) opcode names t (makings declared opcode))
    bodies_leaves =
        bodies_made tokens declared outside empty sound opcode (AllLeaves (IsBodyLeaf tokens kinds)) (IsTypedMeaning tokens kinds)
        (λ scope all local. patterns_made tokens (IsBodyLeaf tokens kinds) leaf (IsTypedMeaning tokens kinds) means fields scope
        (All-weaker (IsSoundMeaning tokens) (IsTypedMeaning tokens kinds) declared_typed scope.meanings all) local Body)
        (record { class = tt; field = tt; limit = tt; operand = tt; alone = tt }) (λ p h. h) os
        (All-map (IsTypedMeaning tokens kinds) (λ (x : List ℕ × ℕ). meaning.Operand x.1) (typed_operands declared os) typed) fresh names t known fit

-- ---- the kinds of the operands

at_end : (kinds : List OperandKind) (k : OperandKind) (more : List OperandKind) → slice_get (kinds ++ k ∷ more) (length kinds) ≡ Some k
at_end [] k more = refl
at_end (x ∷ kinds) k more = at_end kinds k more

module _ (declared : Declared) (kind_of : OperandTree → Option OperandKind)
    (agrees : (o : OperandTree) (t : TypeId) → operand_type declared o ≡ Some t → kind_of o ≡ Some (kind.Typed t)) where
  abbrev IsTypedIn : List OperandKind → List ℕ × ℕ → Type 0
  IsTypedIn kinds x = IsSomeAnd (slice_get kinds x.1) IsTyped

  kind_case : (o : OperandTree) (t : Option TypeId) (front : List OperandKind) (k : OperandKind) (more : List OperandKind) (rest : List (List ℕ × ℕ)) → operand_type declared o ≡ t → kind_of o ≡ Some k
      → All (IsTypedIn (front ++ k ∷ more)) rest → All (IsTypedIn (front ++ k ∷ more)) (if_typed o (length front) t ++ rest)
  kind_case o None front k more rest type is h = h
  kind_case o (Some t) front k more rest type is h =
      let typed : kind_of o ≡ Some (kind.Typed t) = agrees o t type in
      let same : kind.Typed t ≡ k = cc in
      let here : IsSomeAnd (slice_get (front ++ k ∷ more) (length front)) IsTyped =
      subst (λ (o : Option OperandKind). IsSomeAnd o IsTyped) (ap Some same ∙ sym (at_end front k more)) tt in
      All-cons (IsTypedIn (front ++ k ∷ more)) (operand_name o, length front) rest here h

  kinds_next : (y : Option OperandKind) (front : List OperandKind) (o : OperandTree) (os : List OperandTree) → kind_of o ≡ y → is_some y ≡ true
      → ((kinds : List OperandKind) → All (IsTypedIn (kinds ++ filter_map kind_of os)) (typed_from declared (length kinds) os))
      → All (IsTypedIn (front ++ cons_option y (filter_map kind_of os))) (if_typed o (length front) (operand_type declared o) ++ typed_from declared (length front + 1) os)
  kinds_next None front o os is some later = cc
  kinds_next (Some k) front o os is some later =
      let more = filter_map kind_of os in
      let one : All (IsTypedIn (front ++ k ∷ more)) (typed_from declared (length (front ++ k ∷ [])) os) =
      subst (λ (ks : List OperandKind). All (IsTypedIn ks) (typed_from declared (length (front ++ k ∷ [])) os)) (append_assoc front (k ∷ []) more) (later (front ++ k ∷ [])) in
      kind_case o (operand_type declared o) front k more (typed_from declared (length front + 1) os) refl is
      (subst (λ (n : ℕ). All (IsTypedIn (front ++ k ∷ more)) (typed_from declared n os)) (length_push front k) one)

  kinds_from : (front : List OperandKind) (os : List OperandTree) → list_all (λ o. is_some (kind_of o)) os ≡ true
      → All (IsTypedIn (front ++ filter_map kind_of os)) (typed_from declared (length front) os)
  kinds_from front [] known = All-nil (IsTypedIn (front ++ []))
  kinds_from front (o ∷ os) known =
      let both = and_split (is_some (kind_of o)) (list_all (λ x. is_some (kind_of x)) os) known in
      kinds_next (kind_of o) front o os refl both.0 (λ kinds. kinds_from kinds os both.1)

  -- where each operand is something, the kind of a typed one is that of its type
  pub typed_kinds : (os : List OperandTree) → list_all (λ o. is_some (kind_of o)) os ≡ true
      → All (λ (x : List ℕ × ℕ). IsSomeAnd (slice_get (filter_map kind_of os) x.1) IsTyped) (typed_operands declared os)
  typed_kinds os known = kinds_from [] os known

-- the kind that an operand has is that of its type, where it has one
kind_agrees : (declared : Declared) (equations : List EqTree) (o : OperandTree) (t : TypeId) → operand_type declared o ≡ Some t → operand_kind declared equations o ≡ Some (kind.Typed t)
kind_agrees declared equations (Word w) t is = by_meaning (meaning_of declared w) is where
  by_meaning : (m : Option Meaning) → option_and_then as_type m ≡ Some t
      → option_map_or declared_kind m (Some (if is_among (sliced_names equations) w then kind.Sliced else kind.Whole)) ≡ Some (kind.Typed t)
  by_meaning (Some (meaning.Type u)) is = cc
  by_meaning _ is = cc
kind_agrees declared equations (Extended w) t is = cc
kind_agrees declared equations (Typed n r) t is = ap (option_map kind.Typed) is

-- each typed operand of a declaration has a typed kind
pub operands_typed : (declared : Declared) (equations : List EqTree) (os : List OperandTree) → operands_are_known declared equations os ≡ true
    → All (λ (x : List ℕ × ℕ). IsSomeAnd (slice_get (operand_kinds declared equations os) x.1) IsTyped) (typed_operands declared os)
operands_typed declared equations os known = typed_kinds declared (operand_kind declared equations) (kind_agrees declared equations) os known
