-- What putting a value into a field does.
use Rattle.std.proofs.Common.{ℕ, ◌≡◌, ◌+◌, ◌^◌, ◌<◌, ◌≤◌, ◌⊎◌, cond, List, ◌++◌, length, take, drop, slice_get, Some, None, sym, ap, ◌∙◌, subst, option_and_then, unwrap_or, arith}
use Rattle.std.specs.Option.{option_map, option_map_or, IsSomeAnd}
use Rattle.std.specs.Int.{bit_at}
use Rattle.std.proofs.Math.Seq.{take-append_seam, drop-append_seam}
use Rattle.std.proofs.lemmas.Bool.{le-leb}
use Rattle.std.proofs.lemmas.List.{append_assoc, length-take, length-drop, length-append}
use Rattle.token_bits.specs.declared.tokens.Class.{Class}
use Rattle.token_bits.specs.declared.tokens.Field.{Field}
use Rattle.token_bits.specs.declared.tokens.FieldId.{FieldId}
use Rattle.token_bits.specs.declared.tokens.Tokens.{Tokens}
use Rattle.token_bits.specs.Tokens.{byte_count, number_of, in_order, bits_of, token, class_of, token_len, value_at, width_of, AreTokens}
use Rattle.token_bits.specs.Bytes.{number_bytes, with_bits}
use Rattle.token_bits.specs.Put.{token_number, IsOutside, IsPut}
use Rattle.token_bits.proofs.NumberLemmas.{length-number_bytes, number_of-bytes, width_bytes}
use Rattle.token_bits.proofs.BitsLemmas.{with_bits_below, with_bits_reads, with_bits_others}
use Rattle.token_bits.proofs.Sound.{class_sound, field_sound}

-- three lists in a row, cut where they meet
module _ (a b c : List ℕ) (i k : ℕ) (first : length a ≡ i) (second : length b ≡ k) where
  first_part : take i ((a ++ b) ++ c) ≡ a
  first_part = ap (take i) (append_assoc a b c) ∙ ap (λ n. take n (a ++ (b ++ c))) (sym first) ∙ take-append_seam a (b ++ c)

  second_part : take k (drop i ((a ++ b) ++ c)) ≡ b
  second_part =
      ap (λ xs. take k (drop i xs)) (append_assoc a b c) ∙ ap (λ n. take k (drop n (a ++ (b ++ c)))) (sym first) ∙ ap (take k) (drop-append_seam a (b ++ c))
      ∙ ap (λ n. take n (b ++ c)) (sym second) ∙ take-append_seam b c

  third_part : drop (i + k) ((a ++ b) ++ c) ≡ c
  third_part = ap (λ n. drop n ((a ++ b) ++ c)) (sym (let e : length (a ++ b) ≡ i + k = length-append a b ∙ omega arith in e)) ∙ drop-append_seam (a ++ b) c

-- the bytes with the token at i written anew
module _ (class : Class) (old new : List ℕ) (i m : ℕ) (room : i + byte_count class ≤ length old) (fits : m < 256 ^ byte_count class)
    (written : new ≡ (take i old ++ number_bytes class.order (byte_count class) m) ++ drop (i + byte_count class) old) where
  front_len : length (take i old) ≡ i
  front_len = length-take i old ∙ omega arith

  written_len : length new ≡ length old
  written_len =
      omega (
        arith,
        ap length written,
        length-append (take i old ++ number_bytes class.order (byte_count class) m) (drop (i + byte_count class) old),
        length-append (take i old) (number_bytes class.order (byte_count class) m),
        front_len,
        length-number_bytes class.order (byte_count class) m,
        length-drop (i + byte_count class) old,
      )

  written_before : take i new ≡ take i old
  written_before = ap (take i) written ∙ first_part (take i old) (number_bytes class.order (byte_count class) m) (drop (i + byte_count class) old) i (byte_count class) front_len (length-number_bytes class.order (byte_count class) m)

  written_behind : drop (i + byte_count class) new ≡ drop (i + byte_count class) old
  written_behind = ap (drop (i + byte_count class)) written ∙ third_part (take i old) (number_bytes class.order (byte_count class) m) (drop (i + byte_count class) old) i (byte_count class) front_len (length-number_bytes class.order (byte_count class) m)

  written_token : token class new i ≡ Some m
  written_token =
      ap (λ b. cond b (Some (number_of (in_order class.order (take (byte_count class) (drop i new))))) None) (le-leb (i + byte_count class) (length new) (omega (arith, written_len)))
      ∙ ap (λ bytes. Some (number_of (in_order class.order bytes)))
      (ap (λ xs. take (byte_count class) (drop i xs)) written
      ∙ second_part (take i old) (number_bytes class.order (byte_count class) m) (drop (i + byte_count class) old) i (byte_count class) front_len (length-number_bytes class.order (byte_count class) m))
      ∙ ap Some (number_of-bytes class.order (byte_count class) m fits)

-- what is read of a token whose field and class are known
module _ (tokens : Tokens) (f : FieldId) (field : Field) (class : Class) (known : slice_get tokens.fields f.0 ≡ Some field) (of : slice_get tokens.classes field.class.0 ≡ Some class) where
  pub class_of-known : class_of tokens f ≡ Some class
  class_of-known = ap (option_and_then (λ (g : Field). slice_get tokens.classes g.class.0)) known ∙ of

  pub token_len-known : token_len tokens f ≡ byte_count class
  token_len-known = ap (λ o. option_map_or byte_count o 0) class_of-known

  pub value_at-known : (bytes : List ℕ) (i n : ℕ) → token class bytes i ≡ Some n → value_at tokens f bytes i ≡ Some (bits_of field.lo field.hi n)
  value_at-known bytes i n is =
      ap (option_and_then (λ (g : Field). option_and_then (λ (c : Class). option_map (bits_of g.lo g.hi) (token c bytes i)) (slice_get tokens.classes g.class.0))) known
      ∙ ap (option_and_then (λ (c : Class). option_map (bits_of field.lo field.hi) (token c bytes i))) of ∙ ap (option_map (bits_of field.lo field.hi)) is

  pub token_number-known : (bytes : List ℕ) (i n : ℕ) → token class bytes i ≡ Some n → token_number tokens f bytes i ≡ n
  token_number-known bytes i n is = ap (λ o. option_map_or (λ (c : Class). unwrap_or (token c bytes i) 0) o 0) class_of-known ∙ ap (λ o. unwrap_or o 0) is

  pub outside-known : (j : ℕ) → IsOutside tokens f j → (j < field.lo) ⊎ (field.hi < j)
  outside-known j h = subst (λ o. IsSomeAnd o (λ (g : Field). (j < g.lo) ⊎ (g.hi < j))) known h

  pub put_is : (value i n : ℕ) (old new : List ℕ) → field.lo ≤ field.hi → value < 2 ^ width_of field → i + byte_count class ≤ length old → token class old i ≡ Some n
      → with_bits field.lo field.hi value n < 256 ^ byte_count class
      → new ≡ (take i old ++ number_bytes class.order (byte_count class) (with_bits field.lo field.hi value n)) ++ drop (i + byte_count class) old
      → IsPut tokens f value old new i
  put_is value i n old new order small room was fits written =
      let m = with_bits field.lo field.hi value n in
      let now : token class new i ≡ Some m = written_token class old new i m room fits written in
      record {
        len = written_len class old new i m room fits written;
        reads = value_at-known new i m now ∙ ap Some (with_bits_reads field.lo field.hi order value small n);
        others = λ j h. ap (λ x. bit_at x j) (token_number-known new i m now) ∙ with_bits_others field.lo field.hi value n order small j (outside-known j h)
            ∙ ap (λ x. bit_at x j) (sym (token_number-known old i n was));
        before = written_before class old new i m room fits written;
        behind = ap (λ c. drop (i + c) new) token_len-known ∙ written_behind class old new i m room fits written ∙ ap (λ c. drop (i + c) old) (sym token_len-known);
      }

  -- the same, of a field whose tokens are sound
  module _ (sound : AreTokens tokens) (value : ℕ) (fits : IsSomeAnd (slice_get tokens.fields f.0) (λ (g : Field). value < 2 ^ width_of g)) (n : ℕ) (whole : n < 2 ^ class.width) where
    small : value < 2 ^ width_of field
    small = subst (λ o. IsSomeAnd o (λ (g : Field). value < 2 ^ width_of g)) known fits

    pub put_fits : with_bits field.lo field.hi value n < 2 ^ class.width
    put_fits = let bits = field_sound tokens sound f field class known of in with_bits_below field.lo field.hi bits.0 value small n class.width bits.1 whole

    pub put_sound : (i m : ℕ) (old new : List ℕ) → i + token_len tokens f ≤ length old → token class old i ≡ Some n → m ≡ with_bits field.lo field.hi value n
        → new ≡ (take i old ++ number_bytes class.order (byte_count class) m) ++ drop (i + byte_count class) old → IsPut tokens f value old new i
    put_sound i m old new room was is written =
        put_is value i n old new (field_sound tokens sound f field class known of).0 small (subst (λ (k : ℕ). i + k ≤ length old) token_len-known room) was
        (subst (λ (b : ℕ). with_bits field.lo field.hi value n < b) (width_bytes class.width (class_sound tokens sound field.class.0 class of)) put_fits)
        (written ∙ ap (λ x. (take i old ++ number_bytes class.order (byte_count class) x) ++ drop (i + byte_count class) old) is)
