-- What each byte of a case says of the test.
use Rattle.std.proofs.Common.{◌≡◌, ◌≢◌, ℕ, ◌<◌, ◌≤◌, ◌/◌, ◌%◌, ◌^◌, Bool, true, false, List, length, slice_get, slice_index, Option, Some, None, refl, sym, ap, ◌∙◌, arith, bit_and}
use Rattle.std.specs.Option.{option_map}
use Rattle.bit_cases.specs.Bits.{Meets, AgreesAt}
use Rattle.bit_cases.specs.declared.byte_case.ByteCase.{ByteCase}
use Rattle.bit_cases.proofs.MeetsTest.{meets-true, meets-from}
use Rattle.std.proofs.Common.{inl, inr}
use Rattle.std.proofs.lemmas.Bool.{cases_lt}
use Rattle.std.specs.Int.Bits.{and_zero_r}
use Rattle.std.proofs.lemmas.Option.{slice_get-get_or, get_or_from_slice_get}
use Rattle.decision_tree.specs.Window.{bits_of}
use Rattle.decision_tree.specs.Graph.{is_met}

by_false : (t : Bool) → (t ≡ true → ⊥) → t ≡ false
by_false true f = absurd (f refl)
by_false false f = refl

-- the byte that was asked for
pub whole_byte : (w : List ℕ) (k b : ℕ) → Some b ≡ bits_of k 0 8 w → ((x : ℕ) → slice_get w k ≡ Some x → x < 2 ^ 8) → slice_get w k ≡ Some b
whole_byte w k b e fits = by (slice_get w k) e fits
  where
    by : (o : Option ℕ) → Some b ≡ option_map (λ x. x / 2 ^ 0 % 2 ^ 8) o → ((x : ℕ) → o ≡ Some x → x < 2 ^ 8) → o ≡ Some b
    by None e fits = cc
    by (Some x) e fits = ap Some (small x (fits x refl)) ∙ sym e
      where
        small : (x : ℕ) → x < 2 ^ 8 → x ≡ x / 2 ^ 0 % 2 ^ 8
        small x h = omega (arith, h)

nothing_asked : (b m v : ℕ) → m ≡ 0 → bit_and v m ≡ v → bit_and b m ≡ v
nothing_asked b m v z u = ap (bit_and b) z ∙ and_zero_r b ∙ sym (and_zero_r v) ∙ ap (bit_and v) (sym z) ∙ u

absent : (w : List ℕ) (k : ℕ) → k < length w → None ≡ bits_of k 0 8 w → ⊥
absent w k h e = let there = slice_get-get_or w k 0 h in
    let other : None ≡ Some (slice_index w k / 2 ^ 0 % 2 ^ 8) = e ∙ ap (option_map (λ x. x / 2 ^ 0 % 2 ^ 8)) there in cc

module _ (c : ByteCase) (w : List ℕ) where
  unmet : (Meets c.mask c.value c.len w → ⊥) → is_met w c ≡ false
  unmet f = by_false (is_met w c) (λ e. f (meets-true c.mask c.value c.len w e))

  pub met_all : c.len ≤ length w → ((j : ℕ) → j < c.len → AgreesAt c.mask c.value w j) → is_met w c ≡ true
  met_all l h = meets-from c.mask c.value c.len w (
    l,
    λ k b. elim (cases_lt k c.len) [
      | inl lt ↦ h k lt
      | inr ge ↦ (
          let none : slice_index c.mask k ≡ 0 = c.short k b ge in
          let under : bit_and (slice_index c.value k) (slice_index c.mask k) ≡ slice_index c.value k = c.under_mask k b in
          nothing_asked (slice_index w k) (slice_index c.mask k) (slice_index c.value k) none under
          )
    ],
  )

  pub met_short : (k : ℕ) → k < c.len → None ≡ bits_of k 0 8 w → is_met w c ≡ false
  met_short k h e = unmet (λ m. absent w k (omega (arith, m.0)) e)

  pub met_apart : (k : ℕ) (b : ℕ) → k < c.len → Some b ≡ bits_of k 0 8 w → ((x : ℕ) → slice_get w k ≡ Some x → x < 2 ^ 8) → bit_and b (slice_index c.mask k) ≢ slice_index c.value k → is_met w c ≡ false
  met_apart k b h e fits n = unmet (λ m.
      let byte : slice_get w k ≡ Some b = whole_byte w k b e fits in
      let at : slice_index w k ≡ b = get_or_from_slice_get w k b 0 byte in
      n (ap (λ x. bit_and x (slice_index c.mask k)) (sym at) ∙ m.1 k (omega (arith, c.at_most_32))))

pub agrees_byte : (w mask value : List ℕ) (k b : ℕ) → slice_get w k ≡ Some b → bit_and b (slice_index mask k) ≡ slice_index value k → AgreesAt mask value w k
agrees_byte w mask value k b at e = ap (λ x. bit_and x (slice_index mask k)) (get_or_from_slice_get w k b 0 at) ∙ e
