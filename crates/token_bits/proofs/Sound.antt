-- What is known of a field and its class.
use Rattle.std.proofs.Common.{◌≡◌, ℕ, ◌<◌, ◌≤◌, List, slice_get, Some, All, subst}
use Rattle.std.specs.Option.{IsSomeAnd}
use Rattle.std.proofs.lemmas.List.Elements.{All-get_or}
use Rattle.std.proofs.lemmas.Option.{get_or_from_slice_get, slice_get_within}
use Rattle.token_bits.specs.declared.tokens.Class.{Class}
use Rattle.token_bits.specs.declared.tokens.Field.{Field}
use Rattle.token_bits.specs.declared.tokens.FieldId.{FieldId}
use Rattle.token_bits.specs.declared.tokens.Tokens.{Tokens}
use Rattle.token_bits.specs.Tokens.{IsWidth, IsFieldOf, AreTokens}

-- what all have, the one that is found has
pub All-slice_get : {A : Type 0} (P : A → Type 0) (xs : List A) (i : ℕ) (x : A) → slice_get xs i ≡ Some x → All P xs → P x
All-slice_get P xs i x e h = subst P (get_or_from_slice_get xs i x x e) (All-get_or P xs i x (slice_get_within xs i x e) h)

module _ (tokens : Tokens) (sound : AreTokens tokens) where
  pub class_sound : (k : ℕ) (class : Class) → slice_get tokens.classes k ≡ Some class → IsWidth class.width
  class_sound k class e = All-slice_get (λ (c : Class). IsWidth c.width) tokens.classes k class e sound.widths

  pub field_sound : (f : FieldId) (field : Field) (class : Class) → slice_get tokens.fields f.0 ≡ Some field → slice_get tokens.classes field.class.0 ≡ Some class
      → (field.lo ≤ field.hi) × (field.hi < class.width)
  field_sound f field class known of =
      let h = All-slice_get (IsFieldOf tokens.classes) tokens.fields f.0 field known sound.fields in
      (h.0, subst (λ o. IsSomeAnd o (λ (c : Class). field.hi < c.width)) of h.1)
