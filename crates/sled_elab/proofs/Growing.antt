-- What names stand for stays sound where classes, fields and types are added.
use Rattle.std.proofs.Common.{◌≡◌, ℕ, zero, suc, ◌<◌, ◌≤◌, ◌^◌, List, [], ◌∷◌, ◌++◌, length, All, IsSome, slice_get, refl, sym, subst, arith}
use Rattle.std.specs.Option.{option_map_or}
use Rattle.std.proofs.lemmas.List.Elements.{All-weaker}
use Rattle.token_bits.specs.declared.tokens.Tokens.{Tokens}
use Rattle.token_bits.specs.Tokens.{width_of}
use Rattle.sled_model.specs.declared.pattern.Pattern.{Pattern}
use Rattle.sled_model.specs.declared.pattern.Pattern.TheVariants as pattern
use Rattle.sled_model.specs.declared.spec.Spec.{Spec}
use Rattle.sled_model.specs.Leaves.{HasLimitInField}
use Rattle.tree_meaning.specs.declared.scope.Meaning.{Meaning}
use Rattle.tree_meaning.specs.declared.scope.Meaning.TheVariants as meaning
use Rattle.tree_meaning.specs.Sound.{NamesKnown, IsSoundLeaf, IsSoundPattern, IsSoundMeaning}
use Rattle.tree_meaning.proofs.Soundness.{AllLeaves-weaker}
use Rattle.constructor_meaning.specs.Sound.{NamesKnownType}

-- what stands at a place stands there in a longer list
pub slice_get-front : {A : Type 0} (xs ys : List A) (k : ℕ) → IsSome (slice_get xs k) → slice_get (xs ++ ys) k ≡ slice_get xs k
slice_get-front [] ys k h = cc
slice_get-front (x ∷ xs) ys zero h = refl
slice_get-front (x ∷ xs) ys (suc k) h = slice_get-front xs ys k h

-- each place of the one list that holds something holds the same in the other
abbrev pub IsKept : {A : Type 0} → List A → List A → Type 0
IsKept xs ys = (k : ℕ) → IsSome (slice_get xs k) → slice_get ys k ≡ slice_get xs k

pub some_kept : {A : Type 0} (xs ys : List A) (k : ℕ) → IsKept xs ys → IsSome (slice_get xs k) → IsSome (slice_get ys k)
some_kept xs ys k kept h = rw (kept k h) h

module _ (before later : Tokens) (classes : IsKept before.classes later.classes) (fields : IsKept before.fields later.fields) where
  known_kept : (p : Pattern) → NamesKnown before p → NamesKnown later p
  known_kept (pattern.Token c) h = some_kept before.classes later.classes c.0 classes h
  known_kept (pattern.Limit f r n) h = some_kept before.fields later.fields f.0 fields h
  known_kept (pattern.Bind f) h = some_kept before.fields later.fields f.0 fields h
  known_kept _ h = tt

  limit_kept : (p : Pattern) → NamesKnown before p → HasLimitInField before p → HasLimitInField later p
  limit_kept (pattern.Limit f r n) known h = subst (λ o. n < 2 ^ option_map_or width_of o 0) (sym (fields f.0 known)) h
  limit_kept _ known h = tt

  leaf_kept : (p : Pattern) → IsSoundLeaf before p → IsSoundLeaf later p
  leaf_kept p s = record { plain = s.plain; known = known_kept p s.known; limit = limit_kept p s.known s.limit }

  pattern_kept : (p : Pattern) → IsSoundPattern before p → IsSoundPattern later p
  pattern_kept p h = AllLeaves-weaker (IsSoundLeaf before) (IsSoundLeaf later) leaf_kept p h

  meaning_kept : (m : Meaning) → IsSoundMeaning before m → IsSoundMeaning later m
  meaning_kept (meaning.Class c) h = some_kept before.classes later.classes c.0 classes h
  meaning_kept (meaning.Field f) h = some_kept before.fields later.fields f.0 fields h
  meaning_kept (meaning.Pattern p) h = pattern_kept p h
  meaning_kept (meaning.Group ps) h = (h.0, All-weaker (IsSoundPattern before) (IsSoundPattern later) pattern_kept ps h.1)
  meaning_kept (meaning.Type t) h = h
  meaning_kept (meaning.Operand k) h = h

  pub meanings_kept : (ms : List Meaning) → All (IsSoundMeaning before) ms → All (IsSoundMeaning later) ms
  meanings_kept ms h = All-weaker (IsSoundMeaning before) (IsSoundMeaning later) meaning_kept ms h

module _ (before later : Spec) (more : length before.type_names ≤ length later.type_names) where
  type_kept : (m : Meaning) → NamesKnownType before m → NamesKnownType later m
  type_kept (meaning.Class c) h = tt
  type_kept (meaning.Field f) h = tt
  type_kept (meaning.Pattern p) h = tt
  type_kept (meaning.Group ps) h = tt
  type_kept (meaning.Type t) h = omega (arith, h)
  type_kept (meaning.Operand k) h = tt

  pub types_kept : (ms : List Meaning) → All (NamesKnownType before) ms → All (NamesKnownType later) ms
  types_kept ms h = All-weaker (NamesKnownType before) (NamesKnownType later) type_kept ms h
