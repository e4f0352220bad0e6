-- A block as a case.
use Rattle.std.proofs.Common.{◌≡◌, ℕ, ◌+◌, ◌-◌, ◌*◌, ◌/◌, ◌^◌, ◌<◌, ◌≤◌, List, length, take, drop, get_or, Bool, true, false, nat_eq, nat_le, Some, None, inl, inr, sym, ap, ◌∙◌, arith, bit_and}
use Rattle.std.specs.Prelude.{if◌then◌else◌}
use Rattle.std.specs.List.{All}
use Rattle.std.specs.Option.{option_map_or}
use Rattle.std.proofs.Math.Nat.{pow-le-pow_right}
use Rattle.std.proofs.lemmas.Bool.{cases_lt, le-leb, lt-leb, eq-eqb, eqb-true}
use Rattle.std.proofs.lemmas.List.{get_or-take, length-take}
use Rattle.bit_cases.specs.Bits.{MeetsAt, AreUnder}
use Rattle.bit_cases.proofs.MeetsTest.{same_bool}
use Rattle.token_bits.specs.declared.tokens.Class.{Class}
use Rattle.token_bits.specs.declared.tokens.Field.{Field}
use Rattle.token_bits.specs.Tokens.{IsWidth, byte_count, width_of, bits_of, number_of, in_order}
use Rattle.relation_cases.specs.declared.blocks.Block.{Block}
use Rattle.relation_cases.specs.Blocks.{is_in, IsBlock}
use Rattle.relation_cases.specs.Cases.{field_is, byte_at}
use Rattle.relation_cases.proofs.Spelled.{token_fits, window_byte, agrees_from, agrees_to}
use Rattle.relation_cases.proofs.FieldBits.{masked_from, masked_to, value_under, value_fits}

whole_bytes : (w : ℕ) → IsWidth w → 8 * (w / 8) ≡ w
whole_bytes w (inl e) = omega arith
whole_bytes w (inr (inl e)) = omega arith
whole_bytes w (inr (inr e)) = omega arith

four_bytes : (w : ℕ) → IsWidth w → w / 8 ≤ 4
four_bytes w (inl e) = omega arith
four_bytes w (inr (inl e)) = omega arith
four_bytes w (inr (inr e)) = omega arith

-- the mask and the value spell what the block asks for
pub record AsksFor (class : Class) (field : Field) (block : Block) (mask value : List ℕ) : Type 0 where
  pub width : IsWidth class.width
  pub order : field.lo ≤ field.hi
  pub within : field.hi < class.width
  pub is_block : IsBlock (width_of field) block
  pub len : length mask ≡ byte_count class
  pub masks : (k : ℕ) → k < byte_count class → get_or mask k 0 ≡ byte_at class.order (byte_count class) (2 ^ (field.hi + 1) - 2 ^ (field.lo + block.free)) k
  pub values : (k : ℕ) → k < byte_count class → get_or value k 0 ≡ byte_at class.order (byte_count class) (block.top * 2 ^ (field.lo + block.free)) k

-- the first bytes of two arrays that spell the mask and the value
pub asked : (class : Class) (field : Field) (block : Block) (count m v : ℕ) (mask value : List ℕ) → IsWidth class.width → field.lo ≤ field.hi → field.hi < class.width
    → IsBlock (width_of field) block → count ≡ byte_count class → m ≡ 2 ^ (field.hi + 1) - 2 ^ (field.lo + block.free) → v ≡ block.top * 2 ^ (field.lo + block.free) → length mask ≡ 4
    → ((k : ℕ) → k < byte_count class → get_or mask k 0 ≡ byte_at class.order (byte_count class) m k) → ((k : ℕ) → k < byte_count class → get_or value k 0 ≡ byte_at class.order (byte_count class) v k)
    → AsksFor class field block (take count mask) (take count value)
asked class field block count m v mask value width order within is_block is m_is v_is len masks values =
    let w = whole_bytes class.width width in let few = four_bytes class.width width in record {
      width = width;
      order = order;
      within = within;
      is_block = is_block;
      len = omega (arith, length-take count mask);
      masks = λ k l. get_or-take count mask k 0 (omega arith) ∙ masks k l ∙ ap (λ n. byte_at class.order (byte_count class) n k) m_is;
      values = λ k l. get_or-take count value k 0 (omega arith) ∙ values k l ∙ ap (λ n. byte_at class.order (byte_count class) n k) v_is;
    }

module _ (class : Class) (field : Field) (block : Block) (mask value : List ℕ) (a : AsksFor class field block mask value) where
  fits : block.top * 2 ^ (field.lo + block.free) < 2 ^ (8 * byte_count class)
  fits =
      let h = value_fits field.lo field.hi block.free a.order a.is_block.free block.top a.is_block.top in
      let w = whole_bytes class.width a.width in let i = a.within in
      omega (arith, pow-le-pow_right {n = 2} (omega arith) {i = field.hi + 1} {j = 8 * byte_count class} (omega arith))

  pub asked_under : AreUnder mask value
  asked_under k l =
      let h : k < byte_count class = omega (arith, a.len) in
      ap (λ x. bit_and x (get_or mask k 0)) (a.values k h) ∙ ap (bit_and (byte_at class.order (byte_count class) (block.top * 2 ^ (field.lo + block.free)) k)) (a.masks k h)
      ∙ agrees_from class.order (byte_count class) (block.top * 2 ^ (field.lo + block.free)) (2 ^ (field.hi + 1) - 2 ^ (field.lo + block.free)) (block.top * 2 ^ (field.lo + block.free)) fits fits
      (value_under field.lo field.hi block.free a.order a.is_block.free block.top a.is_block.top) k h
      ∙ sym (a.values k h)

  module _ (at : ℕ) (window : List ℕ) (bytes : All (λ b. b < 256) window) where
    met_inside : (b : Bool) → at + byte_count class ≤ length window → (b ≡ true → MeetsAt at mask value window) → (MeetsAt at mask value window → b ≡ true)
        → b ≡ is_in (bits_of field.lo field.hi (number_of (in_order class.order (take (byte_count class) (drop at window))))) block
    met_inside b le to from =
        let count = byte_count class in let n = number_of (in_order class.order (take count (drop at window))) in
        let m = 2 ^ (field.hi + 1) - 2 ^ (field.lo + block.free) in let v = block.top * 2 ^ (field.lo + block.free) in
        let here : (k : ℕ) → k < count → get_or window (at + k) 0 ≡ byte_at class.order count n k = window_byte window at count bytes le class.order in
        let few = token_fits window at count bytes le class.order in
        same_bool b (nat_eq (bits_of field.lo field.hi n / 2 ^ block.free) block.top)
        (λ t. eq-eqb _ _ (masked_to field.lo field.hi block.free a.order a.is_block.free n block.top (agrees_to class.order count n m v few fits (λ k l.
        ap (λ x. bit_and x (byte_at class.order count m k)) (sym (here k l)) ∙ ap (bit_and (get_or window (at + k) 0)) (sym (a.masks k l)) ∙ (to t).1 k (omega (arith, a.len)) ∙ a.values k l))))
        (λ t. from (
          omega (arith, a.len),
          λ k g. let l : k < count = omega (arith, a.len) in
              ap (λ x. bit_and x (get_or mask k 0)) (here k l) ∙ ap (bit_and (byte_at class.order count n k)) (a.masks k l)
              ∙ agrees_from class.order count n m v few fits (masked_from field.lo field.hi block.free a.order a.is_block.free n block.top (eqb-true _ _ t)) k l ∙ sym (a.values k l),
        ))

    pub asked_met : (b : Bool) → (b ≡ true → MeetsAt at mask value window) → (MeetsAt at mask value window → b ≡ true) → b ≡ field_is class field (λ v. is_in v block) at window
    asked_met b to from =
        let count = byte_count class in let n = number_of (in_order class.order (take count (drop at window))) in
        elim (cases_lt (length window) (at + count)) [
          | inl lt ↦ (let none : nat_le (at + count) (length window) ≡ false = lt-leb (at + count) (length window) lt in
              same_bool b false (λ t. absurd (omega (arith, (to t).0, a.len))) (λ e. cc)
              ∙ sym (ap (λ t. option_map_or (λ number. is_in (bits_of field.lo field.hi number) block) (if t then Some n else None) false) none))
          | inr le ↦ met_inside b le to from
              ∙ sym (ap (λ t. option_map_or (λ number. is_in (bits_of field.lo field.hi number) block) (if t then Some n else None) false) (le-leb (at + count) (length window) le))
        ]
