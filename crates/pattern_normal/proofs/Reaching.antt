-- Alternatives of single tokens.
use Rattle.std.proofs.Common.{◌≡◌, ℕ, ◌+◌, ◌≤◌, ◌↔◌, Bool, true, false, cond, List, [], ◌∷◌, length, map, refl, ap, sym, ◌∙◌, nat_le, Option, Some, None, slice_get, take, drop, subst, option_and_then, unwrap_or, All, arith}
use Rattle.std.specs.Option.{option_map, option_map_or}
use Rattle.std.proofs.lemmas.Bool.{le-leb, leb-true}
use Rattle.std.proofs.lemmas.List.Elements.{All-weaker}
use Rattle.std.proofs.lemmas.Option.{option_and_then_some}
use Rattle.bit_cases.specs.Bits.{Meets}
use Rattle.bit_cases.specs.declared.byte_case.ByteCase.{ByteCase}
use Rattle.bit_cases.proofs.MeetsTest.{meets-true, meets-from, same_bool}
use Rattle.token_bits.specs.declared.tokens.Tokens.{Tokens}
use Rattle.token_bits.specs.declared.tokens.Class.{Class}
use Rattle.token_bits.specs.declared.tokens.Field.{Field}
use Rattle.token_bits.specs.declared.tokens.ClassId.{ClassId}
use Rattle.token_bits.specs.declared.tokens.FieldId.{FieldId}
use Rattle.token_bits.specs.Tokens.{token, byte_count, bits_of, number_of, in_order, value_at, class_of, token_len}
use Rattle.sled_model.specs.declared.raw.Match.{Match}
use Rattle.sled_model.specs.declared.raw.RawEntry.TheVariants.{Value}
use Rattle.sled_model.specs.Measures.{class_len}
use Rattle.sled_model.specs.Results.{Meaning, results_from, one_match, class_results, bind_results}
use Rattle.pattern_normal.specs.declared.skeleton.Spot.{Spot}
use Rattle.pattern_normal.specs.declared.skeleton.Spot.TheVariants as spot
use Rattle.pattern_normal.specs.declared.alternative.Alternative.{Alternative}
use Rattle.pattern_normal.specs.Skeletons.{read_spot}
use Rattle.pattern_normal.specs.Alternatives.{is_met, seen, shown, ended, reaching, IsBetween, StandFor}

module _ (tokens : Tokens) (w : List ℕ) where
  pub shown-reaching : (bits : ByteCase) (spots : List Spot) (end : ℕ) → bits.len ≡ end → (Meets bits.mask bits.value bits.len w ↔ (end ≤ length w))
      → shown tokens w (record { bits = bits; loose = false; spots = spots } ∷ []) ≡ reaching tokens spots end w
  shown-reaching bits spots end len g =
      let r : Alternative = record { bits = bits; loose = false; spots = spots } in
      let f = λ (n : ℕ). (let a : Match = record { binds = map (read_spot tokens w) spots; len = n; loose = false } in a) in
      ap (λ t. map (seen tokens w) (cond t (r ∷ []) [])) (same_bool (is_met w r) (nat_le end (length w))
      (λ e. le-leb end (length w) (g.0 (meets-true bits.mask bits.value bits.len w e))) (λ e. meets-from bits.mask bits.value bits.len w (g.1 (leb-true end (length w) e))))
      ∙ (elim (nat_le end (length w)) as (λ t. map (seen tokens w) (cond t (r ∷ []) []) ≡ cond t (f end ∷ []) []) [ true ↦ ap (λ n. f n ∷ []) len | false ↦ refl ])

  class_shown : (c : ClassId) (class : Class) (at : ℕ) → slice_get tokens.classes c.0 ≡ Some class
      → reaching tokens [] (at + byte_count class) w ≡ map (ended at) (class_results tokens c w at)
  class_shown c class at e =
      let n : ℕ = number_of (in_order class.order (take (byte_count class) (drop at w))) in
      (elim (nat_le (at + byte_count class) (length w)) as (λ t. cond t (record { binds = []; len = at + byte_count class; loose = false } ∷ []) [] ≡ map (ended at) (results_from (cond t (Some n) None) (λ k. one_match [] (byte_count class))))
      [ true ↦ refl | false ↦ refl ])
      ∙ ap (λ o. map (ended at) (results_from o (λ k. results_from (token k w at) (λ m. one_match [] (byte_count k))))) (sym e)

  bind_shown : (f : FieldId) (field : Field) (class : Class) (at : ℕ) → slice_get tokens.fields f.0 ≡ Some field → slice_get tokens.classes field.class.0 ≡ Some class → token_len tokens f ≡ byte_count class
      → reaching tokens (spot.Value f at ∷ []) (at + byte_count class) w ≡ map (ended at) (bind_results tokens f w at)
  bind_shown f field class at e d t =
      let n : ℕ = number_of (in_order class.order (take (byte_count class) (drop at w))) in
      let v : value_at tokens f w at ≡ option_map (bits_of field.lo field.hi) (token class w at) =
      ap (λ o. option_and_then (λ (k : Field). option_and_then (λ (c : Class). option_map (bits_of k.lo k.hi) (token c w at)) (slice_get tokens.classes k.class.0)) o) e
      ∙ ap (option_and_then (λ (c : Class). option_map (bits_of field.lo field.hi) (token c w at))) d in
      let P = λ (o : Option ℕ) (len : ℕ) (b : Bool). (let q : Type 0 = cond b (record { binds = Value f (unwrap_or o 0) at ∷ []; len = at + byte_count class; loose = false } ∷ []) []
      ≡ map (ended at) (results_from o (λ value. one_match (Value f value at ∷ []) len)) in q) in
      let T = nat_le (at + byte_count class) (length w) in
      subst (λ o. P o (token_len tokens f) T) (sym v)
      (subst (λ len. P (option_map (bits_of field.lo field.hi) (token class w at)) len T) (sym t)
      (elim T as (λ b. P (option_map (bits_of field.lo field.hi) (cond b (Some n) None)) (byte_count class) b) [ true ↦ refl | false ↦ refl ]))

  empty_shown : (at : ℕ) → at ≤ length w → reaching tokens [] (at + 0) w ≡ map (ended at) (one_match [] 0)
  empty_shown at l = ap (λ t. cond t (record { binds = []; len = at + 0; loose = false } ∷ []) []) (le-leb (at + 0) (length w) (omega arith))

module _ (tokens : Tokens) (at : ℕ) (cs : List Alternative) where
  -- what stands for one token
  stand_reaching : (m : Meaning) (spots : List Spot) (len : ℕ) → ((w : List ℕ) → at ≤ length w → reaching tokens spots (at + len) w ≡ map (ended at) (m w at))
      → (at + len ≤ 32 → (ts : Tokens) (w : List ℕ) → shown ts w cs ≡ reaching ts spots (at + len) w) → All (λ (a : Alternative). a.bits.len ≡ at + len) cs → length cs ≤ 1 → StandFor tokens m 1 len at cs
  stand_reaching m spots len e says ends count = record {
    covers = λ fits w bytes reaches. says fits tokens w ∙ e w reaches;
    ends = All-weaker (λ (a : Alternative). a.bits.len ≡ at + len) (IsBetween at (at + len)) (λ a is. (omega (arith, is), omega (arith, is))) cs ends;
    count = count;
  }

  pub stand_empty : (at ≤ 32 → (ts : Tokens) (w : List ℕ) → shown ts w cs ≡ reaching ts [] at w) → All (λ (a : Alternative). a.bits.len ≡ at) cs → length cs ≤ 1
      → StandFor tokens (λ window i. one_match [] 0) 1 0 at cs
  stand_empty says ends count =
      let e : at + 0 ≡ at = omega arith in
      stand_reaching (λ window i. one_match [] 0) [] 0 (λ w l. empty_shown tokens w at l) (λ fits ts w. says (omega (arith, fits)) ts w ∙ ap (λ k. reaching ts [] k w) (sym e))
      (All-weaker (λ (a : Alternative). a.bits.len ≡ at) (λ (a : Alternative). a.bits.len ≡ at + 0) (λ a is. omega (arith, is)) cs ends) count

  pub stand_class : (c : ClassId) (class : Class) → slice_get tokens.classes c.0 ≡ Some class
      → (at + byte_count class ≤ 32 → (ts : Tokens) (w : List ℕ) → shown ts w cs ≡ reaching ts [] (at + byte_count class) w) → All (λ (a : Alternative). a.bits.len ≡ at + byte_count class) cs → length cs ≤ 1
      → StandFor tokens (class_results tokens c) 1 (class_len tokens c) at cs
  stand_class c class e says ends count =
      let same : byte_count class ≡ class_len tokens c = ap (λ o. option_map_or byte_count o 0) (sym e) in
      subst (λ len. StandFor tokens (class_results tokens c) 1 len at cs) same (stand_reaching (class_results tokens c) [] (byte_count class) (λ w l. class_shown tokens w c class at e) says ends count)

  pub stand_bind : (f : FieldId) (class : Class) → class_of tokens f ≡ Some class
      → (at + byte_count class ≤ 32 → (ts : Tokens) (w : List ℕ) → shown ts w cs ≡ reaching ts (spot.Value f at ∷ []) (at + byte_count class) w) → All (λ (a : Alternative). a.bits.len ≡ at + byte_count class) cs → length cs ≤ 1
      → StandFor tokens (bind_results tokens f) 1 (token_len tokens f) at cs
  stand_bind f class e says ends count =
      let same : token_len tokens f ≡ byte_count class = ap (λ o. option_map_or byte_count o 0) e in
      subst (λ len. StandFor tokens (bind_results tokens f) 1 len at cs) (sym same)
      (option_and_then_some (λ (field : Field). slice_get tokens.classes field.class.0) (slice_get tokens.fields f.0) class e
      (λ field is d. stand_reaching (bind_results tokens f) (spot.Value f at ∷ []) (byte_count class) (λ w l. bind_shown tokens w f field class at is d same) says ends count))
