-- Leaves of patterns, and constructors over a description that grows.
use Rattle.std.proofs.Common.{◌≡◌, ℕ, zero, suc, ◌+◌, ◌<◌, ◌≤◌, ◌^◌, List, [], ◌∷◌, ◌++◌, length, slice_get, All, IsSome, IfSome, is_some, Option, Some, None, refl, sym, ap, ◌∙◌, subst, arith}
use Rattle.std.specs.Option.{option_map_or}
use Rattle.std.proofs.lemmas.Option.{IfSome_then}
use Rattle.std.proofs.lemmas.List.Elements.{All-weaker}
use Rattle.token_bits.specs.declared.tokens.FieldId.{FieldId}
use Rattle.token_bits.specs.declared.tokens.Tokens.{Tokens}
use Rattle.token_bits.specs.Tokens.{width_of}
use Rattle.sled_model.specs.declared.constructor.TypeId.{TypeId}
use Rattle.sled_model.specs.declared.constructor.OperandKind.{OperandKind}
use Rattle.sled_model.specs.declared.constructor.OperandKind.TheVariants.{Plain, Extended, Typed, Whole, Sliced}
use Rattle.sled_model.specs.declared.constructor.Constructor.{Constructor}
use Rattle.sled_model.specs.declared.pattern.Pattern.{Pattern, Row_of-Pattern, end_of-Pattern, more_of-Pattern}
use Rattle.sled_model.specs.declared.pattern.Pattern.TheVariants.{Token, Limit, Bind, Operand, Label', Both', Either', Chain', Loose', Apply', Empty}
use Rattle.sled_model.specs.Leaves.{AllLeaves, AllLeavesOfRow}
use Rattle.sled_model.specs.Measures.{width_at}
use Rattle.sled_model.specs.Specs.{IsKnownKind, IsBodyLeaf, IsConstructorOf}

pub slice_get-front : {A : Type 0} (xs ys : List A) (k : ℕ) → k < length xs → slice_get (xs ++ ys) k ≡ slice_get xs k
slice_get-front [] ys k h = absurd (omega arith)
slice_get-front (x ∷ xs) ys zero h = refl
slice_get-front (x ∷ xs) ys (suc k) h = slice_get-front xs ys k (omega arith)

pub known_below : {A : Type 0} (xs : List A) (k : ℕ) → IsSome (slice_get xs k) → k < length xs
known_below [] k h = cc
known_below (x ∷ xs) zero h = omega arith
known_below (x ∷ xs) (suc k) h = let less = known_below xs k h in omega arith

module _ (P Q : Pattern → Type 0) (f : (p : Pattern) → P p → Q p) where
  mutual
    -- what is asked of the leaves, weakened
    pub AllLeaves-weaker : (p : Pattern) → AllLeaves P p → AllLeaves Q p
    AllLeaves-weaker (Token c) h = f (Token c) h
    AllLeaves-weaker (Limit g r n) h = f (Limit g r n) h
    AllLeaves-weaker (Bind g) h = f (Bind g) h
    AllLeaves-weaker (Operand k) h = f (Operand k) h
    AllLeaves-weaker (Label' l s p) h = AllLeavesOfRow-weaker p h
    AllLeaves-weaker (Both' s ps) h = AllLeavesOfRow-weaker ps h
    AllLeaves-weaker (Either' s ps) h = AllLeavesOfRow-weaker ps h
    AllLeaves-weaker (Chain' s ps) h = AllLeavesOfRow-weaker ps h
    AllLeaves-weaker (Loose' s p) h = AllLeavesOfRow-weaker p h
    AllLeaves-weaker (Apply' k s arguments) h = f (Apply' k s arguments) h
    AllLeaves-weaker Empty h = f Empty h

    AllLeavesOfRow-weaker : {n : _} (ps : Row_of-Pattern n) → AllLeavesOfRow P ps → AllLeavesOfRow Q ps
    AllLeavesOfRow-weaker end_of-Pattern h = tt
    AllLeavesOfRow-weaker (more_of-Pattern p ps) h = (AllLeaves-weaker p h.0, AllLeavesOfRow-weaker ps h.1)

-- tokens t and n types become tokens u and m types: what was known is still the same
pub record Grows (t u : Tokens) (n m : ℕ) : Type 0 where
  pub classes : (k : ℕ) → k < length t.classes → slice_get u.classes k ≡ slice_get t.classes k
  pub fields : (k : ℕ) → k < length t.fields → slice_get u.fields k ≡ slice_get t.fields k
  pub more : length t.fields ≤ length u.fields
  pub types : n ≤ m

module _ (t u : Tokens) (n m : ℕ) (grows : Grows t u n m) where
  kind_kept : (kind : OperandKind) → IsKnownKind t n kind → IsKnownKind u m kind
  kind_kept (Plain f) h = let more = grows.more in omega arith
  kind_kept (Extended f) h = let more = grows.more in omega arith
  kind_kept (Typed k) h = let more = grows.types in omega arith
  kind_kept Whole h = tt
  kind_kept Sliced h = tt

  field_is : (f : FieldId) → IsSome (slice_get t.fields f.0) → slice_get u.fields f.0 ≡ slice_get t.fields f.0
  field_is f h = grows.fields f.0 (known_below t.fields f.0 h)

  field_kept : (f : FieldId) → IsSome (slice_get t.fields f.0) → IsSome (slice_get u.fields f.0)
  field_kept f h = ap is_some (field_is f h) ∙ h

  leaf_kept : (kinds : List OperandKind) (p : Pattern) → IsBodyLeaf t kinds p → IsBodyLeaf u kinds p
  leaf_kept kinds (Token c) h = record { class = ap is_some (grows.classes c.0 (known_below t.classes c.0 h.class)) ∙ h.class; field = tt; limit = tt; operand = tt; alone = tt }
  leaf_kept kinds (Limit f r limit) h = record {
    class = tt;
    field = field_kept f h.field;
    limit = subst (λ w. limit < 2 ^ w) (sym (ap (λ o. option_map_or width_of o 0) (field_is f h.field))) h.limit;
    operand = tt;
    alone = tt;
  }
  leaf_kept kinds (Bind f) h = record { class = tt; field = field_kept f h.field; limit = tt; operand = tt; alone = tt }
  leaf_kept kinds (Operand k) h = record { class = tt; field = tt; limit = tt; operand = h.operand; alone = tt }
  leaf_kept kinds (Label' l s p) h = record { class = tt; field = tt; limit = tt; operand = tt; alone = tt }
  leaf_kept kinds (Both' s ps) h = record { class = tt; field = tt; limit = tt; operand = tt; alone = tt }
  leaf_kept kinds (Either' s ps) h = record { class = tt; field = tt; limit = tt; operand = tt; alone = tt }
  leaf_kept kinds (Chain' s ps) h = record { class = tt; field = tt; limit = tt; operand = tt; alone = tt }
  leaf_kept kinds (Loose' s p) h = record { class = tt; field = tt; limit = tt; operand = tt; alone = tt }
  leaf_kept kinds (Apply' k s arguments) h = absurd h.alone
  leaf_kept kinds Empty h = record { class = tt; field = tt; limit = tt; operand = tt; alone = tt }

  constructor_kept : (c : Constructor) → IsConstructorOf t n c → IsConstructorOf u m c
  constructor_kept c h = record {
    names = h.names;
    operands = All-weaker (IsKnownKind t n) (IsKnownKind u m) kind_kept c.operands h.operands;
    result = IfSome_then c.result h.result (λ k less. let more = grows.types in omega arith);
    body = AllLeaves-weaker (IsBodyLeaf t c.operands) (IsBodyLeaf u c.operands) (leaf_kept c.operands) c.body h.body;
  }

  pub constructors_kept : (cs : List Constructor) → All (IsConstructorOf t n) cs → All (IsConstructorOf u m) cs
  constructors_kept cs h = All-weaker (IsConstructorOf t n) (IsConstructorOf u m) constructor_kept cs h
