-- Alternatives of a field's relation to a limit.
use Rattle.std.proofs.Common.{◌≡◌, ℕ, ◌+◌, ◌/◌, ◌^◌, ◌≤◌, ◌<◌, Bool, true, false, cond, not, List, [], ◌∷◌, length, map, filter, refl, ap, sym, ◌∙◌, nat_le, nat_eq, Some, None, take, drop, All, arith, count_ones, replicate, inl, inr, Result, Ok, Err, IfOk}
use Rattle.std.specs.Option.{option_map_or}
use Rattle.std.proofs.lemmas.Bool.{cases_lt, le-leb, leb-true, eqb-true, lt-ltb, ltb-true}
use Rattle.std.proofs.Math.Nat.{mod-lt}
use Rattle.std.proofs.lemmas.List.{length-map}
use Rattle.std.proofs.lemmas.List.Elements.{All-nil, All-cons, All-head, All-tail}
use Rattle.std.proofs.lemmas.Nat.{zero_from_ones, pow_pos}
use Rattle.bit_cases.specs.declared.byte_case.ByteCase.{ByteCase}
use Rattle.bit_cases.proofs.MeetsTest.{same_bool}
use Rattle.token_bits.specs.declared.tokens.Tokens.{Tokens}
use Rattle.token_bits.specs.declared.tokens.Class.{Class}
use Rattle.token_bits.specs.declared.tokens.Field.{Field}
use Rattle.token_bits.specs.Tokens.{byte_count, width_of, bits_of, number_of, in_order}
use Rattle.sled_model.specs.declared.pattern.Relation.{Relation}
use Rattle.sled_model.specs.declared.pattern.Relation.TheVariants.{Equal, Differs, Below, AtMost, Above, AtLeast}
use Rattle.sled_model.specs.declared.raw.Match.{Match}
use Rattle.sled_model.specs.Measures.{limit_weight}
use Rattle.sled_model.specs.Results.{one_match, has_relation}
use Rattle.relation_cases.specs.Cases.{is_met as bits_met, field_is}
use Rattle.pattern_normal.specs.declared.alternative.Alternative.{Alternative}
use Rattle.pattern_normal.specs.Alternatives.{is_met, seen, shown, reaching, AreLimitsOf, plain_alternative}

-- ---- conditions that all end at one place

module _ (tokens : Tokens) (w : List ℕ) (end : ℕ) where
  abbrev the_match : Match
  the_match = record { binds = []; len = end; loose = false }

  plain_shown : (bs : List ByteCase) → All (λ (b : ByteCase). b.len ≡ end) bs → shown tokens w (map plain_alternative bs) ≡ replicate (length (filter (λ b. bits_met w b) bs)) the_match
  plain_shown [] h = refl
  plain_shown (b ∷ bs) h =
      let f = λ (n : ℕ). (let a : Match = record { binds = []; len = n; loose = false } in a) in
      let rest = filter (is_met w) (map plain_alternative bs) in let met = filter (λ c. bits_met w c) bs in
      let ih = plain_shown bs (All-tail (λ (c : ByteCase). c.len ≡ end) b bs h) in
      elim (bits_met w b) as (λ t. map (seen tokens w) (cond t (plain_alternative b ∷ rest) rest) ≡ replicate (length (cond t (b ∷ met) met)) the_match)
      [ true ↦ ap (λ n. f n ∷ map (seen tokens w) rest) (All-head (λ (c : ByteCase). c.len ≡ end) b bs h) ∙ ap (λ z. the_match ∷ z) ih | false ↦ ih ]

plain_ends : (end : ℕ) (bs : List ByteCase) → All (λ (b : ByteCase). b.len ≡ end) bs → All (λ (a : Alternative). a.bits.len ≡ end) (map plain_alternative bs)
plain_ends end [] h = All-nil (λ (a : Alternative). a.bits.len ≡ end)
plain_ends end (b ∷ bs) h = All-cons (λ (a : Alternative). a.bits.len ≡ end) (plain_alternative b) (map plain_alternative bs) (All-head (λ (c : ByteCase). c.len ≡ end) b bs h) (plain_ends end bs (All-tail (λ (c : ByteCase). c.len ≡ end) b bs h))

module _ (class : Class) (field : Field) (relation : Relation) (limit at : ℕ) where
  test : ℕ → Bool
  test value = has_relation relation value limit

  pub limits_of_plain : (bs : List ByteCase) → ((w : List ℕ) → All (λ byte. byte < 256) w → length (filter (λ b. bits_met w b) bs) ≡ cond (field_is class field (λ value. has_relation relation value limit) at w) 1 0)
      → All (λ (b : ByteCase). b.len ≡ at + byte_count class) bs → length bs ≡ limit_weight (width_of field) relation limit → AreLimitsOf class field relation limit at (map plain_alternative bs)
  limits_of_plain bs met ends count = record {
    shown = λ tokens w bytes. plain_shown tokens w (at + byte_count class) bs ends
        ∙ ap (λ n. replicate n (the_match tokens w (at + byte_count class))) (met w bytes)
        ∙ (elim (field_is class field (λ value. has_relation relation value limit) at w) as (λ t. replicate (cond t 1 0) (the_match tokens w (at + byte_count class)) ≡ cond t (one_match [] (at + byte_count class)) [])
        [ true ↦ refl | false ↦ refl ]);
    ends = plain_ends (at + byte_count class) bs ends;
    count = rw (length-map bs plain_alternative) (omega (arith, count));
  }

-- ---- a limit that no value of the field reaches

positive_ones : (n : ℕ) → 0 < n → 1 ≤ count_ones n
positive_ones n h = elim (cases_lt 0 (count_ones n)) [
  | inl some ↦ omega (arith, some)
  | inr none ↦ (let z : n ≡ 0 = zero_from_ones n (omega (arith, none)) in absurd (omega (arith, z, h)))
]

not_equal : (v limit : ℕ) → v < limit → nat_eq v limit ≡ false
not_equal v limit l = same_bool (nat_eq v limit) false (λ e. absurd (omega (arith, l, eqb-true v limit e))) (λ e. absurd (cc))

beyond_holds : (relation : Relation) (v limit : ℕ) → v < limit → has_relation relation 0 limit ≡ true → has_relation relation v limit ≡ true
beyond_holds Equal v limit l h = absurd (omega (arith, l, eqb-true 0 limit h))
beyond_holds Differs v limit l h = ap not (not_equal v limit l)
beyond_holds Below v limit l h = lt-ltb v limit l
beyond_holds AtMost v limit l h = le-leb v limit (omega (arith, l))
beyond_holds Above v limit l h = absurd (omega (arith, ltb-true limit 0 h))
beyond_holds AtLeast v limit l h = absurd (omega (arith, l, leb-true limit 0 h))

beyond_weight : (relation : Relation) (w limit : ℕ) → 0 < w → 0 < limit → has_relation relation 0 limit ≡ true → 1 ≤ limit_weight w relation limit
beyond_weight Equal w limit p l h = omega arith
beyond_weight Differs w limit p l h = omega (arith, p)
beyond_weight Below w limit p l h = positive_ones limit l
beyond_weight AtMost w limit p l h = positive_ones (limit + 1) (omega arith)
beyond_weight Above w limit p l h = absurd (omega (arith, ltb-true limit 0 h))
beyond_weight AtLeast w limit p l h = absurd (omega (arith, l, leb-true limit 0 h))

pub IfOk-three : {X Y : Type 0} (r : Result X Y) (P Q R S : X → Type 0) → ((x : X) → P x → Q x → R x → S x) → IfOk r P → IfOk r Q → IfOk r R → IfOk r S
IfOk-three (Ok x) P Q R S f p q s = f x p q s
IfOk-three (Err e) P Q R S f p q s = tt

module _ (class : Class) (field : Field) (relation : Relation) (limit at : ℕ) where
  pub limits_beyond : (cs : List Alternative) → 2 ^ width_of field ≤ limit → has_relation relation 0 limit ≡ true → at + byte_count class ≤ 32
      → (at + byte_count class ≤ 32 → (tokens : Tokens) (w : List ℕ) → shown tokens w cs ≡ reaching tokens [] (at + byte_count class) w)
      → All (λ (a : Alternative). a.bits.len ≡ at + byte_count class) cs → length cs ≤ 1 → AreLimitsOf class field relation limit at cs
  limits_beyond cs beyond holds fits says ends count =
      let positive : 0 < 2 ^ width_of field = pow_pos (width_of field) in
      record {
        shown = λ tokens w bytes.
            let n : ℕ = number_of (in_order class.order (take (byte_count class) (drop at w))) in
            let v = bits_of field.lo field.hi n in
            let small : v < 2 ^ width_of field = mod-lt (n / 2 ^ field.lo) positive in
            let m : Match = record { binds = []; len = at + byte_count class; loose = false } in
            says fits tokens w
            ∙ (elim (nat_le (at + byte_count class) (length w)) as (λ t. cond t (m ∷ []) [] ≡ cond (option_map_or (λ number. has_relation relation (bits_of field.lo field.hi number) limit) (cond t (Some n) None) false) (m ∷ []) [])
            [ true ↦ ap (λ t. cond t (m ∷ []) []) (sym (beyond_holds relation v limit (omega (arith, small, beyond)) holds)) | false ↦ refl ]);
        ends = ends;
        count = let h = beyond_weight relation (width_of field) limit (omega arith) (omega (arith, positive, beyond)) holds in omega (arith, h, count);
      }
