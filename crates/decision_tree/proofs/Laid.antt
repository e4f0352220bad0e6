-- A run of bits laid over a byte, and windows made of functions.
use Rattle.std.proofs.Common.{◌≡◌, ◌≢◌, ℕ, ◌*◌, ◌/◌, ◌%◌, ◌^◌, ◌<◌, ◌≤◌, Bool, true, false, cond, eqb, List, length, map, slice_get, slice_index, Some, None, refl, sym, ap, ◌∙◌, arith, bit_and, bit_or}
use Rattle.std.specs.Int.{bit_at}
use Rattle.std.specs.Int.RustNames.{bit_xor}
use Rattle.std.specs.List.{range_with_len}
use Rattle.std.specs.Option.{option_map}
use Rattle.std.proofs.lemmas.Nat.{pow_pos}
use Rattle.std.proofs.lemmas.Bool.{eqb-true, eq-eqb}
use Rattle.std.proofs.lemmas.Option.{slice_get-get_or, slice_get_past}
use Rattle.std.proofs.lemmas.Nat.Bits.{bit_at_and, bit_at_or, bit_at_xor, bit_at-lt, bit_at-zero, same_from_bits, and_high}
use Rattle.std.proofs.lemmas.List.FromFn.{length-map-range_with_len, get_or-map-range_with_len}
use Rattle.std.proofs.Math.Nat.{mul-div_cancel, mod-eq_of_lt}
use Rattle.bit_cases.specs.declared.byte_case.ByteCase.{ByteCase}
use Rattle.decision_tree.specs.Window.{bits_of, block}
use Rattle.decision_tree.specs.Graph.{is_met}
use Rattle.decision_tree.proofs.Asked.{met_all}

-- the byte p, but x in the bits of the run b
abbrev pub laid : ℕ → ℕ → ℕ → ℕ
laid p b x = bit_or (bit_xor p (bit_and p b)) x

module _ (p b x : ℕ) (under : bit_and x b ≡ x) where
  -- its run is x
  pub laid_run : bit_and (laid p b x) b ≡ x
  laid_run = same_from_bits (bit_and (laid p b x) b) x (λ i. bit i)
    where
      bit : (i : ℕ) → bit_at (bit_and (laid p b x) b) i ≡ bit_at x i
      bit i = let u = simp bit_at_and at (ap (λ n. bit_at n i) under) in let d = bit_at-lt p i in let e = bit_at-lt b i in let f = bit_at-lt x i in
          simp (bit_at_and, bit_at_or, bit_at_xor) (omega (arith, u, d, e, f))

  -- a run e among bits t, of which none is in b, stays
  pub laid_other : (t e : ℕ) → bit_and e t ≡ e → bit_and t b ≡ 0 → bit_and (laid p b x) e ≡ bit_and p e
  laid_other t e among apart = same_from_bits (bit_and (laid p b x) e) (bit_and p e) (λ i. bit i)
    where
      bit : (i : ℕ) → bit_at (bit_and (laid p b x) e) i ≡ bit_at (bit_and p e) i
      bit i = let u = simp bit_at_and at (ap (λ n. bit_at n i) under) in let s = simp bit_at_and at (ap (λ n. bit_at n i) among) in let a = simp bit_at_and at (ap (λ n. bit_at n i) apart) in let z = bit_at-zero i in
          let d = bit_at-lt p i in let f = bit_at-lt b i in let g = bit_at-lt x i in let h = bit_at-lt t i in let k = bit_at-lt e i in
          simp (bit_at_and, bit_at_or, bit_at_xor) (omega (arith, u, s, a, z, d, f, g, h, k))

  -- what has the bits v under the mask m has them still, where x is as v wants it
  pub laid_met : (m v : ℕ) → bit_and p m ≡ v → bit_and v b ≡ bit_and x m → bit_and (laid p b x) m ≡ v
  laid_met m v met stays = same_from_bits (bit_and (laid p b x) m) v (λ i. bit i)
    where
      bit : (i : ℕ) → bit_at (bit_and (laid p b x) m) i ≡ bit_at v i
      bit i = let u = simp bit_at_and at (ap (λ n. bit_at n i) under) in let s = simp bit_at_and at (ap (λ n. bit_at n i) met) in let a = simp bit_at_and at (ap (λ n. bit_at n i) stays) in
          let d = bit_at-lt p i in let f = bit_at-lt b i in let g = bit_at-lt x i in let h = bit_at-lt m i in let k = bit_at-lt v i in
          simp (bit_at_and, bit_at_or, bit_at_xor) (omega (arith, u, s, a, d, f, g, h, k))

same_factor : (a b n : ℕ) → 0 < n → a * n ≡ b * n → a ≡ b
same_factor a b n some e = sym (mul-div_cancel a some) ∙ ap (λ z. z / n) e ∙ mul-div_cancel b some

-- the value of a run, by its bits
pub run_value : (y v s w : ℕ) → bit_and y (block s w) ≡ v * 2 ^ s → y / 2 ^ s % 2 ^ w ≡ v
run_value y v s w e = same_factor (y / 2 ^ s % 2 ^ w) v (2 ^ s) (pow_pos s) (sym (and_high y w s) ∙ e)

pub same_run : (y z s w : ℕ) → bit_and y (block s w) ≡ bit_and z (block s w) → y / 2 ^ s % 2 ^ w ≡ z / 2 ^ s % 2 ^ w
same_run y z s w e = same_factor (y / 2 ^ s % 2 ^ w) (z / 2 ^ s % 2 ^ w) (2 ^ s) (pow_pos s) (sym (and_high y w s) ∙ e ∙ and_high z w s)

small_mod : (v n : ℕ) → v < n → v % n ≡ v
small_mod v n h = mod-eq_of_lt h

pub value_under : (v s w : ℕ) → v < 2 ^ w → bit_and (v * 2 ^ s) (block s w) ≡ v * 2 ^ s
value_under v s w h = and_high (v * 2 ^ s) w s ∙ ap (λ z. z * 2 ^ s) (ap (λ z. z % 2 ^ w) (mul-div_cancel v (pow_pos s)) ∙ small_mod v (2 ^ w) h)

-- ---- windows

-- the window whose byte at each place the function gives
abbrev pub window_of : (ℕ → ℕ) → ℕ → List ℕ
window_of f n = map f (range_with_len 0 n)

module _ (f : ℕ → ℕ) (n : ℕ) where
  pub window_length : length (window_of f n) ≡ n
  window_length = length-map-range_with_len f 0 n

  pub window_at : (j : ℕ) → j < n → slice_index (window_of f n) j ≡ f j
  window_at j h = get_or-map-range_with_len f 0 n j j 0 h (omega arith)

  window_in : (j : ℕ) → j < n → slice_get (window_of f n) j ≡ Some (f j)
  window_in j h = slice_get-get_or (window_of f n) j 0 (omega (arith, h, window_length)) ∙ ap Some (window_at j h)

  pub bits_in : (byte shift width : ℕ) → byte < n → bits_of byte shift width (window_of f n) ≡ Some (f byte / 2 ^ shift % 2 ^ width)
  bits_in byte shift width h = ap (option_map (λ b. b / 2 ^ shift % 2 ^ width)) (window_in byte h)

  pub bits_out : (byte shift width : ℕ) → n ≤ byte → bits_of byte shift width (window_of f n) ≡ None
  bits_out byte shift width h = ap (option_map (λ b. b / 2 ^ shift % 2 ^ width)) (slice_get_past (window_of f n) byte (omega (arith, h, window_length)))

-- the bytes are as the case wants them
abbrev pub Suits : (ℕ → ℕ) → ByteCase → Type 0
Suits f c = (j : ℕ) → j < c.len → bit_and (f j) (slice_index c.mask j) ≡ slice_index c.value j

pub suits_met : (f : ℕ → ℕ) (n : ℕ) (c : ByteCase) → c.len ≤ n → Suits f c → is_met (window_of f n) c ≡ true
suits_met f n c long suits = met_all c (window_of f n) (omega (arith, long, window_length f n))
    (λ j h. ap (λ (y : ℕ). bit_and y (slice_index c.mask j)) (window_at f n j (omega (arith, h, long))) ∙ suits j h)

-- one byte changed
abbrev pub changed : (ℕ → ℕ) → ℕ → ℕ → ℕ → ℕ
changed f byte y j = cond (eqb j byte) y (f j)

by_false : (t : Bool) → (t ≡ true → ⊥) → t ≡ false
by_false true g = absurd (g refl)
by_false false g = refl

pub changed_same : (f : ℕ → ℕ) (byte y : ℕ) → changed f byte y byte ≡ y
changed_same f byte y = ap (λ t. cond t y (f byte)) (eq-eqb byte byte refl)

pub changed_other : (f : ℕ → ℕ) (byte y j : ℕ) → j ≢ byte → changed f byte y j ≡ f j
changed_other f byte y j ne = ap (λ t. cond t y (f j)) (by_false (eqb j byte) (λ e. ne (eqb-true j byte e)))
