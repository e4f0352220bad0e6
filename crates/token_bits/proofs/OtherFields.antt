-- A field that shares no bit with the one that a value is put into reads as before.
use Rattle.std.proofs.Common.{◌≡◌, ℕ, ◌+◌, ◌<◌, ◌≤◌, ◌⊎◌, inl, inr, cond, List, length, take, drop, slice_get, Option, Some, None, sym, ap, ◌∙◌, subst, arith}
use Rattle.std.specs.Option.{IsSomeAnd}
use Rattle.std.specs.Int.{bit_at}
use Rattle.std.proofs.lemmas.Bool.{le-leb}
use Rattle.token_bits.specs.declared.tokens.Class.{Class}
use Rattle.token_bits.specs.declared.tokens.Field.{Field}
use Rattle.token_bits.specs.declared.tokens.FieldId.{FieldId}
use Rattle.token_bits.specs.declared.tokens.Tokens.{Tokens}
use Rattle.token_bits.specs.Tokens.{byte_count, number_of, in_order, token, value_at, AreTokens, IsFieldOf}
use Rattle.token_bits.specs.Put.{IsOutside, IsPut}
use Rattle.token_bits.proofs.BitsLemmas.{same_bits_of}
use Rattle.token_bits.proofs.PutLemmas.{token_len-known, value_at-known, token_number-known}
use Rattle.token_bits.proofs.Sound.{All-slice_get, field_sound}
use Rattle.token_bits.proofs.TokensWithin.{value_at_within}

-- the token where all its bytes exist
pub token_exists : (class : Class) (bytes : List ℕ) (i : ℕ) → i + byte_count class ≤ length bytes → token class bytes i ≡ Some (number_of (in_order class.order (take (byte_count class) (drop i bytes))))
token_exists class bytes i room = ap (λ b. cond b (Some (number_of (in_order class.order (take (byte_count class) (drop i bytes))))) None) (le-leb (i + byte_count class) (length bytes) room)

some_of : {A : Type 0} (P : A → Type 0) (o : Option A) → IsSomeAnd o P → (x : A) × (o ≡ Some x)
some_of P None h = absurd h
some_of P (Some x) h = (x, let e : Some x ≡ Some x = cc in e)

module _ (tokens : Tokens) (f g : FieldId) (field other : Field) (sound : AreTokens tokens) (known : slice_get tokens.fields f.0 ≡ Some field) (known' : slice_get tokens.fields g.0 ≡ Some other)
    (one_class : other.class ≡ field.class) (apart : (other.hi < field.lo) ⊎ (field.hi < other.lo)) where
  outside : (j : ℕ) → (other.hi < field.lo) ⊎ (field.hi < other.lo) → other.lo ≤ j → j ≤ other.hi → IsOutside tokens f j
  outside j (inl low) from to = subst (λ o. IsSomeAnd o (λ (x : Field). (j < x.lo) ⊎ (x.hi < j))) (sym known) (inl (omega arith))
  outside j (inr high) from to = subst (λ o. IsSomeAnd o (λ (x : Field). (j < x.lo) ⊎ (x.hi < j))) (sym known) (inr (omega arith))

  pub other_field : (value i : ℕ) (old new : List ℕ) → IsPut tokens f value old new i → value_at tokens g new i ≡ value_at tokens g old i
  other_field value i old new h =
      let found = some_of (λ (c : Class). field.hi < c.width) (slice_get tokens.classes field.class.0) (All-slice_get (IsFieldOf tokens.classes) tokens.fields f.0 field known sound.fields).1 in
      let class = found.0 in let of = found.1 in
      let of' : slice_get tokens.classes other.class.0 ≡ Some class = ap (λ (k : _). slice_get tokens.classes k) (ap (λ c. c.0) one_class) ∙ of in
      let order = (field_sound tokens sound g other class known' of').0 in
      let room : i + byte_count class ≤ length new = subst (λ (n : ℕ). i + n ≤ length new) (token_len-known tokens f field class known of) (value_at_within tokens f new i value h.reads) in
      let was = token_exists class old i (omega (arith, h.len)) in
      let is = token_exists class new i room in
      let n = number_of (in_order class.order (take (byte_count class) (drop i old))) in
      let m = number_of (in_order class.order (take (byte_count class) (drop i new))) in
      value_at-known tokens g other class known' of' new i m is
      ∙ ap Some (same_bits_of other.lo other.hi m n order (λ j from to.
      ap (λ x. bit_at x j) (sym (token_number-known tokens f field class known of new i m is)) ∙ h.others j (outside j apart from to)
      ∙ ap (λ x. bit_at x j) (token_number-known tokens f field class known of old i n was)))
      ∙ sym (value_at-known tokens g other class known' of' old i n was)
