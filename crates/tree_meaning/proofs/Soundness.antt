-- The patterns of a tree name no constructor, only declared classes and fields, and compare fields only with their values.
use Rattle.std.proofs.Common.{◌≡◌, ℕ, ◌+◌, ◌-◌, ◌^◌, ◌<◌, Bool, true, false, ◌&&◌, List, [], ◌∷◌, ◌++◌, Some, None, slice_get, map, nat_lt, refl, sym, subst, ◌∙◌, arith}
use Rattle.std.specs.Prelude.{Option, All, IsSome, is_some, option_and_then, unwrap_or}
use Rattle.std.specs.List.{flat_map, list_all}
use Rattle.std.specs.Option.{option_map_or, option_or}
use Rattle.std.proofs.lemmas.Bool.Decides.{nat_tests}
use Rattle.std.proofs.lemmas.List.Elements.{All-nil, All-cons, All-head, All-tail, All-append, All-map, All-weaker}
use Rattle.std.proofs.lemmas.List.Folds.{list_all-append}
use Rattle.token_bits.specs.declared.tokens.FieldId.{FieldId}
use Rattle.token_bits.specs.declared.tokens.Field.{Field}
use Rattle.token_bits.specs.declared.tokens.Tokens.{Tokens}
use Rattle.token_bits.specs.Tokens.{width_of}
use Rattle.token_bits.proofs.Sound.{All-slice_get}
use Rattle.sled_parser.specs.declared.tree.PatternTree.{PatternTree, Row_of-PatternTree, end_of-PatternTree, more_of-PatternTree}
use Rattle.sled_parser.specs.declared.tree.PatternTree.TheVariants.{Either', Chain', Both', Labelled', Loose', Group', Empty, Word, Limit, Apply}
use Rattle.sled_parser.specs.declared.tree.ValueTree.{ValueTree}
use Rattle.sled_model.specs.declared.pattern.Pattern.{Pattern, Row_of-Pattern, end_of-Pattern, more_of-Pattern}
use Rattle.sled_model.specs.declared.pattern.Pattern.TheVariants as pattern
use Rattle.sled_model.specs.declared.pattern.Argument.TheBlock.{hidden-the_row-Pattern-0}
use denote.Hole.Carrier.{hidden}
use Rattle.sled_model.specs.declared.pattern.Relation.{Relation}
use Rattle.sled_model.specs.Leaves.{AllLeaves, AllLeavesOfRow, NamesNoConstructor, HasLimitInField}
use Rattle.sled_model.proofs.MeasureLaws.{AllLeaves-to_Both, AllLeaves-to_Either, AllLeaves-to_Chain}
use Rattle.tree_meaning.specs.declared.scope.Meaning.{Meaning}
use Rattle.tree_meaning.specs.declared.scope.Meaning.TheVariants as meaning
use Rattle.tree_meaning.specs.declared.parts.Site.{Site}
use Rattle.tree_meaning.specs.Names.{position_of}
use Rattle.tree_meaning.specs.Scopes.{Declared, meaning_among, meaning_of, field_named, as_field}
use Rattle.tree_meaning.specs.Values.{value_numbers, value_count, all_fit}
use Rattle.tree_meaning.specs.Parts.{parts, row_parts, is_known_part, are_known, part_fits, numbers_fit}
use Rattle.tree_meaning.specs.Patterns.{patterns_of, row_patterns, choices, boxed, relation_of, label_number, meaning_pattern, word_pattern}
use Rattle.tree_meaning.specs.Sound.{IsSoundLeaf, IsSoundPattern, IsSoundMeaning, NamesKnown, NamesOperandBelow, IsSoundBodyLeaf, IsSoundBody, IsSoundLocalMeaning}

-- ---- lists

pub All-flat_map : {A B : Type 0} (P : B → Type 0) (f : A → List B) (xs : List A) → All (λ x. All P (f x)) xs → All P (flat_map f xs)
All-flat_map P f [] h = All-nil P
All-flat_map P f (x ∷ xs) h =
    All-append P (f x) (flat_map f xs) (All-head (λ y. All P (f y)) x xs h) (All-flat_map P f xs (All-tail (λ y. All P (f y)) x xs h))

-- what is true of each element that can be chosen is true of each that is
pub All-choices : {A : Type 0} (P : A → Type 0) (xss : List (List A)) → All (All P) xss → All (All P) (choices xss)
All-choices P [] h = All-cons (All P) [] [] (All-nil P) (All-nil (All P))
All-choices P (xs ∷ xss) h =
    let later = All-choices P xss (All-tail (All P) xs xss h) in
    All-flat_map (All P) (λ x. map (λ chosen. x ∷ chosen) (choices xss)) xs
    (All-weaker P (λ x. All (All P) (map (λ chosen. x ∷ chosen) (choices xss)))
    (λ x p. All-map (All P) (λ chosen. x ∷ chosen) (choices xss) (All-weaker (All P) (λ chosen. All P (x ∷ chosen)) (λ chosen q. All-cons P x chosen p q) (choices xss) later))
    xs (All-head (All P) xs xss h))

All-boxed : {A : Type 0} (P : A → Type 0) (xss : List (List A)) → All (All P) xss → All P (boxed xss)
All-boxed P [] h = All-nil P
All-boxed P (xs ∷ xss) h = All-head (All P) xs xss h

pub and_split : (s t : Bool) → (s && t) ≡ true → (s ≡ true) × (t ≡ true)
and_split true t h = (refl, h)
and_split false t h = cc

list_all-split : {A : Type 0} (p : A → Bool) (xs ys : List A) → list_all p (xs ++ ys) ≡ true → (list_all p xs ≡ true) × (list_all p ys ≡ true)
list_all-split p xs ys h = and_split (list_all p xs) (list_all p ys) (sym (list_all-append p xs ys) ∙ h)

All-from_list_all : {A : Type 0} (p : A → Bool) (xs : List A) → list_all p xs ≡ true → All (λ x. p x ≡ true) xs
All-from_list_all p [] h = All-nil (λ x. p x ≡ true)
All-from_list_all p (x ∷ xs) h =
    let both = and_split (p x) (list_all p xs) h in All-cons (λ y. p y ≡ true) x xs both.0 (All-from_list_all p xs both.1)

-- ---- leaves

module _ (P : Pattern → Type 0) where
  to_Loose : (p : Pattern) → AllLeaves P p → AllLeaves P (pattern.Loose p)
  unfolding hidden-the_row-Pattern-0 hidden
  to_Loose p h = (h, tt)

  to_Label : (l : ℕ) (p : Pattern) → AllLeaves P p → AllLeaves P (pattern.Label l p)
  unfolding hidden-the_row-Pattern-0 hidden
  to_Label l p h = (h, tt)

module _ (P Q : Pattern → Type 0) (weaker : (p : Pattern) → P p → Q p) where
  mutual
    -- leaves of which more is true
    pub AllLeaves-weaker : (p : Pattern) → AllLeaves P p → AllLeaves Q p
    AllLeaves-weaker (pattern.Label' l s p) h = of_row p h
    AllLeaves-weaker (pattern.Both' s ps) h = of_row ps h
    AllLeaves-weaker (pattern.Either' s ps) h = of_row ps h
    AllLeaves-weaker (pattern.Chain' s ps) h = of_row ps h
    AllLeaves-weaker (pattern.Loose' s p) h = of_row p h
    AllLeaves-weaker (pattern.Token c) h = weaker (pattern.Token c) h
    AllLeaves-weaker (pattern.Limit f r n) h = weaker (pattern.Limit f r n) h
    AllLeaves-weaker (pattern.Bind f) h = weaker (pattern.Bind f) h
    AllLeaves-weaker (pattern.Operand k) h = weaker (pattern.Operand k) h
    AllLeaves-weaker (pattern.Apply' k s arguments) h = weaker (pattern.Apply' k s arguments) h
    AllLeaves-weaker pattern.Empty h = weaker pattern.Empty h

    of_row : {n : _} (ps : Row_of-Pattern n) → AllLeavesOfRow P ps → AllLeavesOfRow Q ps
    of_row end_of-Pattern h = tt
    of_row (more_of-Pattern p ps) h = (AllLeaves-weaker p h.0, of_row ps h.1)

-- a sound pattern names no constructor
pub sound_plain : (tokens : Tokens) (p : Pattern) → IsSoundPattern tokens p → AllLeaves NamesNoConstructor p
sound_plain tokens p h = AllLeaves-weaker (IsSoundLeaf tokens) NamesNoConstructor (λ q s. s.plain) p h

-- and names only what was declared
pub sound_known : (tokens : Tokens) (p : Pattern) → IsSoundPattern tokens p → AllLeaves (NamesKnown tokens) p
sound_known tokens p h = AllLeaves-weaker (IsSoundLeaf tokens) (NamesKnown tokens) (λ q s. s.known) p h

-- and compares fields with their values
pub sound_limits : (tokens : Tokens) (p : Pattern) → IsSoundPattern tokens p → AllLeaves (HasLimitInField tokens) p
sound_limits tokens p h = AllLeaves-weaker (IsSoundLeaf tokens) (HasLimitInField tokens) (λ q s. s.limit) p h

-- a sound body names no application and no operand but the first n
pub body_operands : (tokens : Tokens) (n : ℕ) (p : Pattern) → IsSoundBody tokens n p → AllLeaves (NamesOperandBelow n) p
body_operands tokens n p h = AllLeaves-weaker (IsSoundBodyLeaf tokens n) (NamesOperandBelow n) (λ q s. s.operand) p h

pub body_known : (tokens : Tokens) (n : ℕ) (p : Pattern) → IsSoundBody tokens n p → AllLeaves (NamesKnown tokens) p
body_known tokens n p h = AllLeaves-weaker (IsSoundBodyLeaf tokens n) (NamesKnown tokens) (λ q s. s.known) p h

pub body_limits : (tokens : Tokens) (n : ℕ) (p : Pattern) → IsSoundBody tokens n p → AllLeaves (HasLimitInField tokens) p
body_limits tokens n p h = AllLeaves-weaker (IsSoundBodyLeaf tokens n) (HasLimitInField tokens) (λ q s. s.limit) p h

-- a sound pattern may stand in a body
pub body_leaf : (tokens : Tokens) (n : ℕ) (p : Pattern) → IsSoundLeaf tokens p → IsSoundBodyLeaf tokens n p
body_leaf tokens n (pattern.Token c) h = record { operand = tt; known = h.known; limit = tt }
body_leaf tokens n (pattern.Limit f r l) h = record { operand = tt; known = h.known; limit = h.limit }
body_leaf tokens n (pattern.Bind f) h = record { operand = tt; known = h.known; limit = tt }
body_leaf tokens n (pattern.Operand k) h = absurd h.plain
body_leaf tokens n (pattern.Label' l s p) h = record { operand = tt; known = tt; limit = tt }
body_leaf tokens n (pattern.Both' s ps) h = record { operand = tt; known = tt; limit = tt }
body_leaf tokens n (pattern.Either' s ps) h = record { operand = tt; known = tt; limit = tt }
body_leaf tokens n (pattern.Chain' s ps) h = record { operand = tt; known = tt; limit = tt }
body_leaf tokens n (pattern.Loose' s p) h = record { operand = tt; known = tt; limit = tt }
body_leaf tokens n (pattern.Apply' k s arguments) h = absurd h.plain
body_leaf tokens n pattern.Empty h = record { operand = tt; known = tt; limit = tt }

pub sound_in_body : (tokens : Tokens) (n : ℕ) (p : Pattern) → IsSoundPattern tokens p → IsSoundBody tokens n p
sound_in_body tokens n p h = AllLeaves-weaker (IsSoundLeaf tokens) (IsSoundBodyLeaf tokens n) (body_leaf tokens n) p h

-- ---- what names stand for

-- what is true of each meaning is true of what a name stands for
module _ (P : Meaning → Type 0) where
  at_place : (o : Option ℕ) (meanings : List Meaning) (m : Meaning) → option_and_then (slice_get meanings) o ≡ Some m → All P meanings → P m
  at_place None meanings m is all = cc
  at_place (Some k) meanings m is all = All-slice_get P meanings k m is all

  first_of : (o p : Option Meaning) (m : Meaning) → option_or o p ≡ Some m → (o ≡ Some m → P m) → (p ≡ Some m → P m) → P m
  first_of None p m is local outer = outer is
  first_of (Some x) p m is local outer = local is

  pub found_all : (declared : Declared) → All P declared.meanings → All P declared.local_meanings → (w : List ℕ) (m : Meaning) → meaning_of declared w ≡ Some m → P m
  found_all declared all local w m is =
      first_of (meaning_among declared.local_names declared.local_meanings w) (meaning_among declared.names declared.meanings w) m is
      (λ e. at_place (position_of declared.local_names w) declared.local_meanings m e local)
      (λ e. at_place (position_of declared.names w) declared.meanings m e all)

module _ (tokens : Tokens) where
  meaning_sound : (m : Meaning) → IsSoundMeaning tokens m → IsSoundPattern tokens (meaning_pattern m)
  meaning_sound (meaning.Class c) h = record { plain = tt; known = h; limit = tt }
  meaning_sound (meaning.Field f) h = record { plain = tt; known = h; limit = tt }
  meaning_sound (meaning.Pattern p) h = h
  meaning_sound (meaning.Group ps) h = AllLeaves-to_Either (IsSoundLeaf tokens) ps h.1
  meaning_sound (meaning.Type t) h = record { plain = tt; known = tt; limit = tt }
  meaning_sound (meaning.Operand k) h = absurd h

  field_known : (m : Meaning) (k : FieldId) → IsSoundMeaning tokens m → as_field m ≡ Some k → IsSome (slice_get tokens.fields k.0)
  field_known (meaning.Class c) k h is = cc
  field_known (meaning.Field f) k h is = let same : f ≡ k = cc in subst (λ (g : FieldId). IsSome (slice_get tokens.fields g.0)) same h
  field_known (meaning.Pattern p) k h is = cc
  field_known (meaning.Group ps) k h is = cc
  field_known (meaning.Type t) k h is = cc
  field_known (meaning.Operand i) k h is = cc

  below_width : (o : Option Field) (n : ℕ) → is_some o ≡ true → nat_lt n (option_map_or (λ (field : Field). 2 ^ (field.hi - field.lo + 1)) o 0) ≡ true → n < 2 ^ option_map_or width_of o 0
  below_width None n some below = cc
  below_width (Some field) n some below = lt_from (2 ^ (field.hi - field.lo + 1)) below where
    lt_from : (m : ℕ) → nat_lt n m ≡ true → n < m
    lt_from m h = grind (arith, nat_tests)

  limit_sound : (k : FieldId) (r : Relation) (n : ℕ) → IsSome (slice_get tokens.fields k.0) → nat_lt n (value_count tokens k) ≡ true → IsSoundLeaf tokens (pattern.Limit k r n)
  limit_sound k r n known below = record { plain = tt; known = known; limit = below_width (slice_get tokens.fields k.0) n known below }

  module _ (n : ℕ) where
    -- what may stand outside a body may stand in it
    pub local_of : (m : Meaning) → IsSoundMeaning tokens m → IsSoundLocalMeaning tokens n m
    local_of (meaning.Class c) h = h
    local_of (meaning.Field f) h = h
    local_of (meaning.Pattern p) h = h
    local_of (meaning.Group ps) h = h
    local_of (meaning.Type t) h = h
    local_of (meaning.Operand k) h = absurd h

    local_sound : (m : Meaning) → IsSoundLocalMeaning tokens n m → IsSoundBody tokens n (meaning_pattern m)
    local_sound (meaning.Operand k) h = record { operand = h; known = tt; limit = tt }
    local_sound (meaning.Class c) h = sound_in_body tokens n (pattern.Token c) (meaning_sound (meaning.Class c) h)
    local_sound (meaning.Field f) h = sound_in_body tokens n (pattern.Bind f) (meaning_sound (meaning.Field f) h)
    local_sound (meaning.Pattern p) h = sound_in_body tokens n p h
    local_sound (meaning.Group ps) h = sound_in_body tokens n (pattern.Either ps) (meaning_sound (meaning.Group ps) h)
    local_sound (meaning.Type t) h = record { operand = tt; known = tt; limit = tt }

    local_field : (m : Meaning) (k : FieldId) → IsSoundLocalMeaning tokens n m → as_field m ≡ Some k → IsSome (slice_get tokens.fields k.0)
    local_field (meaning.Class c) k h is = cc
    local_field (meaning.Field f) k h is = field_known (meaning.Field f) k h is
    local_field (meaning.Pattern p) k h is = cc
    local_field (meaning.Group ps) k h is = cc
    local_field (meaning.Type t) k h is = cc
    local_field (meaning.Operand i) k h is = cc

  -- ---- trees

  -- L is true of each leaf that a tree makes, where P is true of each meaning and L of each leaf that a meaning makes
  module _ (L : Pattern → Type 0) (weaker : (p : Pattern) → IsSoundLeaf tokens p → L p) (P : Meaning → Type 0)
      (means : (m : Meaning) → P m → AllLeaves L (meaning_pattern m))
      (fields : (m : Meaning) (k : FieldId) → P m → as_field m ≡ Some k → IsSome (slice_get tokens.fields k.0))
      (declared : Declared) (sound : All P declared.meanings) (local : All P declared.local_meanings) where
    option_made : (o : Option Meaning) → ((m : Meaning) → o ≡ Some m → P m) → AllLeaves L (option_map_or meaning_pattern o pattern.Empty)
    option_made None h = weaker pattern.Empty (record { plain = tt; known = tt; limit = tt })
    option_made (Some m) h = means m (h m refl)

    option_field : (o : Option Meaning) (k : FieldId) → ((m : Meaning) → o ≡ Some m → P m) → option_and_then as_field o ≡ Some k → IsSome (slice_get tokens.fields k.0)
    option_field None k h is = cc
    option_field (Some m) k h is = fields m k (h m refl) is

    limits_made : (o : Option FieldId) (r : Relation) (v : ValueTree) → ((k : FieldId) → o ≡ Some k → IsSome (slice_get tokens.fields k.0))
        → is_some o ≡ true → option_map_or (λ k. all_fit tokens k v) o true ≡ true
        → All (AllLeaves L) (map (λ n. pattern.Limit (unwrap_or o (record { 0 = 0 })) r n) (value_numbers v))
    limits_made None r v known some fit = cc
    limits_made (Some k) r v known some fit =
        All-map (AllLeaves L) (λ n. pattern.Limit k r n) (value_numbers v)
        (All-weaker (λ n. nat_lt n (value_count tokens k) ≡ true) (λ n. AllLeaves L (pattern.Limit k r n))
        (λ n below. weaker (pattern.Limit k r n) (limit_sound k r n (known k refl) below))
        (value_numbers v) (All-from_list_all (λ n. nat_lt n (value_count tokens k)) (value_numbers v) fit))

    module _ (site : Site) (names : List (List ℕ)) where
      mutual
        pub patterns_made : (t : PatternTree) → are_known site declared t ≡ true → numbers_fit tokens declared t ≡ true → All (AllLeaves L) (patterns_of declared names t)
        patterns_made (Either' s ts) known fit =
            let chosen = choices (row_patterns declared names ts) in
            All-map (AllLeaves L) pattern.Either chosen
            (All-weaker (All (AllLeaves L)) (λ ps. AllLeaves L (pattern.Either ps)) (AllLeaves-to_Either L) chosen
            (All-choices (AllLeaves L) (row_patterns declared names ts) (rows_made ts known fit)))
        patterns_made (Chain' s ts) known fit =
            let chosen = choices (row_patterns declared names ts) in
            All-map (AllLeaves L) pattern.Chain chosen
            (All-weaker (All (AllLeaves L)) (λ ps. AllLeaves L (pattern.Chain ps)) (AllLeaves-to_Chain L) chosen
            (All-choices (AllLeaves L) (row_patterns declared names ts) (rows_made ts known fit)))
        patterns_made (Both' s ts) known fit =
            let chosen = choices (row_patterns declared names ts) in
            All-map (AllLeaves L) pattern.Both chosen
            (All-weaker (All (AllLeaves L)) (λ ps. AllLeaves L (pattern.Both ps)) (AllLeaves-to_Both L) chosen
            (All-choices (AllLeaves L) (row_patterns declared names ts) (rows_made ts known fit)))
        patterns_made (Labelled' l s t) known fit =
            let inner = boxed (row_patterns declared names t) in
            All-map (AllLeaves L) (pattern.Label (label_number names l)) inner
            (All-weaker (AllLeaves L) (λ p. AllLeaves L (pattern.Label (label_number names l) p)) (to_Label L (label_number names l)) inner
            (All-boxed (AllLeaves L) (row_patterns declared names t) (rows_made t known fit)))
        patterns_made (Loose' s t) known fit =
            let inner = boxed (row_patterns declared names t) in
            All-map (AllLeaves L) pattern.Loose inner
            (All-weaker (AllLeaves L) (λ p. AllLeaves L (pattern.Loose p)) (to_Loose L) inner
            (All-boxed (AllLeaves L) (row_patterns declared names t) (rows_made t known fit)))
        patterns_made (Group' s t) known fit = All-boxed (AllLeaves L) (row_patterns declared names t) (rows_made t known fit)
        patterns_made Empty known fit = All-cons (AllLeaves L) pattern.Empty [] (option_made None (λ m is. cc)) (All-nil (AllLeaves L))
        patterns_made (Word w) known fit =
            All-cons (AllLeaves L) (word_pattern declared w) [] (option_made (meaning_of declared w) (found_all P declared sound local w)) (All-nil (AllLeaves L))
        patterns_made (Limit f r v) known fit =
            let some = and_split (is_some (field_named declared f)) true known in
            let fits = and_split (option_map_or (λ k. all_fit tokens k v) (field_named declared f) true) true fit in
            limits_made (field_named declared f) (relation_of r) v (λ k is. option_field (meaning_of declared f) k (found_all P declared sound local f) is) some.0 fits.0
        patterns_made (Apply k arguments) known fit = All-cons (AllLeaves L) pattern.Empty [] (option_made None (λ m is. cc)) (All-nil (AllLeaves L))

        rows_made : {n : _} (ts : Row_of-PatternTree n) → list_all (is_known_part site declared) (row_parts ts) ≡ true → list_all (part_fits tokens declared) (row_parts ts) ≡ true
            → All (All (AllLeaves L)) (row_patterns declared names ts)
        rows_made end_of-PatternTree known fit = All-nil (All (AllLeaves L))
        rows_made (more_of-PatternTree t ts) known fit =
            let k = list_all-split (is_known_part site declared) (parts t) (row_parts ts) known in
            let f = list_all-split (part_fits tokens declared) (parts t) (row_parts ts) fit in
            All-cons (All (AllLeaves L)) (patterns_of declared names t) (row_patterns declared names ts) (patterns_made t k.0 f.0) (rows_made ts k.1 f.1)

  -- the patterns of a tree whose names are known and whose numbers fit are sound; where no name is local, `All-nil` is `local`
  pub patterns_sound : (declared : Declared) → All (IsSoundMeaning tokens) declared.meanings → All (IsSoundMeaning tokens) declared.local_meanings
      → (site : Site) (names : List (List ℕ)) (t : PatternTree) → are_known site declared t ≡ true → numbers_fit tokens declared t ≡ true
      → All (IsSoundPattern tokens) (patterns_of declared names t)
  patterns_sound declared sound local = patterns_made (IsSoundLeaf tokens) (λ p h. h) (IsSoundMeaning tokens) meaning_sound field_known declared sound local

  -- those of a body with n operands name no operand but these
  pub body_sound : (n : ℕ) (declared : Declared) → All (IsSoundMeaning tokens) declared.meanings → All (IsSoundLocalMeaning tokens n) declared.local_meanings
      → (site : Site) (names : List (List ℕ)) (t : PatternTree) → are_known site declared t ≡ true → numbers_fit tokens declared t ≡ true
      → All (IsSoundBody tokens n) (patterns_of declared names t)
  body_sound n declared sound local =
      patterns_made (IsSoundBodyLeaf tokens n) (body_leaf tokens n) (IsSoundLocalMeaning tokens n) (local_sound n) (local_field n) declared
      (All-weaker (IsSoundMeaning tokens) (IsSoundLocalMeaning tokens n) (local_of n) declared.meanings sound) local
