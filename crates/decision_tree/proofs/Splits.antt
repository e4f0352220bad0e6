-- One test splits the cases that are left.
use Rattle.std.proofs.Common.{All, ◌≡◌, ℕ, zero, suc, ◌+◌, ◌-◌, ◌*◌, ◌/◌, ◌%◌, ◌^◌, ◌<◌, ◌≤◌, Bool, true, false, cond, List, [], ◌∷◌, length, drop, slice_get, slice_index, Option, Some, None, refl, sym, ap, ◌∙◌, subst, arith, bit_and, bit_or, inl, inr, if◌then◌else◌}
use Rattle.std.specs.List.{find, filter}
use Rattle.std.specs.Option.{option_map, option_map_or}
use Rattle.std.proofs.lemmas.Nat.{pow_pos, pow_below}
use Rattle.std.proofs.Common.{true≢false, get_or-set_same, get_or-set_other}
use Rattle.std.proofs.lemmas.Nat.{mul-le}
use Rattle.std.proofs.lemmas.Bool.{cases_lt, cases_eq, leb-true, le-leb, eqb-true, eq-eqb}
use Rattle.std.proofs.lemmas.Option.{slice_get_within, get_or_from_slice_get}
use Rattle.bit_cases.specs.declared.byte_case.ByteCase.{ByteCase}
use Rattle.bit_cases.proofs.MeetsTest.{meets-true, meets-from}
use Rattle.std.proofs.lemmas.Nat.Bits.{bit_at_and, bit_at_or, bit_at-zero, same_from_bits, and_high}
use Rattle.std.specs.Int.{bit_at}
use Rattle.decision_tree.specs.declared.node.CaseNo.{CaseNo}
use Rattle.decision_tree.specs.Window.{bits_of}
use Rattle.decision_tree.specs.Graph.{is_met, is_met_at, case_no}
use Rattle.decision_tree.specs.Building.{Each, first_among, IsLike, IsLikeAt, Fits, IsSureAt, block, stays, stays_at, kept, tested_more}

pub power_le : (a b : ℕ) → a ≤ b → 2 ^ a ≤ 2 ^ b
power_le a b h = elim (cases_lt a b) [
  | inl l ↦ (let p = pow_below a b l in omega (arith, p))
  | inr g ↦ (let e : a ≡ b = omega arith in omega (arith, ap (λ n. 2 ^ n) e))
]

pub power_grows : (s w : ℕ) → 2 ^ s ≤ 2 ^ (w + s)
power_grows s w = power_le s (w + s) (omega arith)

pub block_fits : (s w : ℕ) → s + w ≤ 8 → 2 ^ (w + s) - 2 ^ s < 256
block_fits s w h = let a : 2 ^ (w + s) ≤ 2 ^ 8 = power_le (w + s) 8 (omega arith) in let b : 0 < 2 ^ s = pow_pos s in omega (arith, a, b)

-- ---- lists

-- the rest of a list from a place on
pub drop_at : (xs : List ℕ) (i k : ℕ) → slice_get xs i ≡ Some k → drop i xs ≡ k ∷ drop (suc i) xs
drop_at [] i k e = cc
drop_at (x ∷ xs) zero k e = ap (λ (y : ℕ). y ∷ xs) (let f : Some x ≡ Some k = e in cc)
drop_at (x ∷ xs) (suc i) k e = drop_at xs i k e

pub drop_past : (xs : List ℕ) (i : ℕ) → slice_get xs i ≡ None → drop i xs ≡ []
drop_past [] zero e = refl
drop_past [] (suc i) e = refl
drop_past (x ∷ xs) zero e = cc
drop_past (x ∷ xs) (suc i) e = drop_past xs i e

pub none_past : {X : Type 0} (xs : List X) (k : ℕ) → slice_get xs k ≡ None → length xs ≤ k
none_past [] k e = omega arith
none_past (x ∷ xs) zero e = absurd (let f : Some x ≡ None = e in cc)
none_past (x ∷ xs) (suc k) e = let h = none_past xs k e in omega (arith, h)

pub all_at : (n : ℕ) (xs : List ℕ) → All (λ k. k < n) xs → (i k : ℕ) → slice_get xs i ≡ Some k → k < n
all_at n xs h i k e = subst (λ x. x < n) (get_or_from_slice_get xs i k 0 e) (h i 0 (slice_get_within xs i k e))

pub each_at : (P : ℕ → Type 0) (xs : List ℕ) → Each P xs → (i k : ℕ) → slice_get xs i ≡ Some k → P k
each_at P [] h i k e = absurd (let f : None ≡ Some k = e in cc)
each_at P (x ∷ xs) h zero k e = subst P (let f : Some x ≡ Some k = e in cc) h.0
each_at P (x ∷ xs) h (suc i) k e = each_at P xs h.1 i k e

-- what holds of all that pass
pub each_filter : (P Q : ℕ → Type 0) (test : ℕ → Bool) → ((k : ℕ) → test k ≡ true → P k → Q k) → (ks : List ℕ) → Each P ks → Each Q (filter test ks)
each_filter P Q test h [] e = tt
each_filter P Q test h (k ∷ ks) e = by (test k) (λ t. h k t e.0) (each_filter P Q test h ks e.1)
  where
    by : (b : Bool) → (b ≡ true → Q k) → Each Q (filter test ks) → Each Q (cond b (k ∷ filter test ks) (filter test ks))
    by true q rest = (q refl, rest)
    by false q rest = rest

-- the first stays the first, where all that go do not pass
pub find_filter : (met test : ℕ → Bool) → ((k : ℕ) → test k ≡ false → met k ≡ false) → (ks : List ℕ) → find met ks ≡ find met (filter test ks)
find_filter met test h [] = refl
find_filter met test h (k ∷ ks) = by (test k) (h k) (find_filter met test h ks)
  where
    by : (b : Bool) → (b ≡ false → met k ≡ false) → find met ks ≡ find met (filter test ks) → cond (met k) (Some k) (find met ks) ≡ find met (cond b (k ∷ filter test ks) (filter test ks))
    by true out rest = ap (cond (met k) (Some k)) rest
    by false out rest = ap (λ t. cond t (Some k) (find met ks)) (out refl) ∙ rest

-- ---- bits

module _ (w m v t : ℕ) where
  -- one more run was tested
  pub like_more : (k : ℕ) → bit_and w (bit_and m t) ≡ bit_and v t → bit_and v k ≡ bit_and (bit_and w k) m → bit_and w (bit_and m (bit_or t k)) ≡ bit_and v (bit_or t k)
  like_more k p q = same_from_bits (bit_and w (bit_and m (bit_or t k))) (bit_and v (bit_or t k)) (λ i.
      let a = simp bit_at_and at (ap (λ x. bit_at x i) p) in let b = simp bit_at_and at (ap (λ x. bit_at x i) q) in
      simp (bit_at_and, bit_at_or) (omega arith))

  -- a window that meets the case has the run as the case wants it
  pub run_met : (k : ℕ) → bit_and w m ≡ v → bit_and v k ≡ bit_and (bit_and w k) m
  run_met k p = same_from_bits (bit_and v k) (bit_and (bit_and w k) m) (λ i.
      let a = simp bit_at_and at (ap (λ x. bit_at x i) p) in
      simp bit_at_and (omega arith))

  -- where all bits were tested, the window has them
  pub all_tested : bit_and w (bit_and m t) ≡ bit_and v t → bit_and m t ≡ m → bit_and v m ≡ v → bit_and w m ≡ v
  all_tested p q r = same_from_bits (bit_and w m) v (λ i.
      let a = simp bit_at_and at (ap (λ x. bit_at x i) p) in let b = simp bit_at_and at (ap (λ x. bit_at x i) q) in
      let c = simp bit_at_and at (ap (λ x. bit_at x i) r) in
      simp (bit_at_and, bit_at_or) (omega arith))

-- nothing is asked of the byte
zero_like : (w m v t : ℕ) → m ≡ 0 → bit_and v m ≡ v → bit_and w (bit_and m t) ≡ bit_and v t
zero_like w m v t z u = same_from_bits (bit_and w (bit_and m t)) (bit_and v t) (λ i.
    let a = simp bit_at-zero at (ap (λ x. bit_at x i) z) in let b = simp bit_at_and at (ap (λ x. bit_at x i) u) in
    simp bit_at_and (omega arith))

pub value_fits : (v s : ℕ) → v < 256 → s ≤ 8 → v * 2 ^ s < 65536
value_fits v s h k = let p : 2 ^ s ≤ 2 ^ 8 = power_le s 8 k in let q : v * 2 ^ s ≤ 255 * 256 = mul-le v (2 ^ s) 255 256 (omega arith) p in omega (arith, q)

-- ---- a case that is sure

pub sure_met : (cases : List ByteCase) (k : ℕ) (tested : List ℕ) (least : ℕ) (window : List ℕ) → k < length cases → least ≤ length window
    → IsLikeAt cases tested window k → IsSureAt cases tested least k → is_met_at cases window k ≡ true
sure_met cases k tested least window h long like sure = by (slice_get cases k) refl
  where
    by : (o : Option ByteCase) → slice_get cases k ≡ o → option_map_or (is_met window) o false ≡ true
    by None e = absurd (let past = none_past cases k e in omega (arith, past))
    by (Some c) e = let s = sure c e in let l = like c e in
        meets-from c.mask c.value c.len window (omega (arith, s.long), λ j b. all_tested (slice_index window j) (slice_index c.mask j) (slice_index c.value j) (slice_index tested j) (l j b) (s.all j b) (c.under_mask j b))

module _ (cases : List ByteCase) (left tested : List ℕ) (least : ℕ) (window : List ℕ) (fits : Fits cases left tested least window) where
  -- the chain begins
  pub chain_start : (i : ℕ) → ((k : ℕ) → slice_get left i ≡ Some k → (k < length cases) × IsSureAt cases tested least k)
      → option_map case_no (slice_get left i) ≡ first_among cases (drop i left) window
  chain_start i sure = by (slice_get left i) refl
    where
      by : (o : Option ℕ) → slice_get left i ≡ o → option_map case_no o ≡ first_among cases (drop i left) window
      by None e = ap (λ ks. first_among cases ks window) (sym (drop_past left i e))
      by (Some k) e = let s = sure k e in
          let met : is_met_at cases window k ≡ true = sure_met cases k tested least window s.0 fits.long (each_at (IsLikeAt cases tested window) left fits.like i k e) s.1 in
          ap (λ t. option_map case_no (cond t (Some k) (find (is_met_at cases window) (drop (suc i) left)))) (sym met) ∙ ap (λ ks. first_among cases ks window) (sym (drop_at left i k e))

  -- one more check stands before it
  pub chain_more : (i k : ℕ) (walk : ℕ → Option CaseNo) (here on : ℕ) → slice_get left i ≡ Some k → walk here ≡ Some (case_no k) → walk on ≡ first_among cases (drop (suc i) left) window
      → walk (if is_met_at cases window k then here else on) ≡ first_among cases (drop i left) window
  chain_more i k walk here on e y n = by (is_met_at cases window k) ∙ ap (λ ks. first_among cases ks window) (sym (drop_at left i k e))
    where
      by : (t : Bool) → walk (cond t here on) ≡ option_map case_no (cond t (Some k) (find (is_met_at cases window) (drop (suc i) left)))
      by true = y
      by false = n

-- ---- a test

module _ (tested window : List ℕ) (byte shift width : ℕ) (within : byte < length tested) (c : ByteCase) where
  -- the byte is there: its bits are as the case wants them
  more_there : (b : ℕ) → slice_index window byte ≡ b → byte < 32 → bit_and (slice_index c.value byte) (block shift width) ≡ bit_and (b / 2 ^ shift % 2 ^ width * 2 ^ shift) (slice_index c.mask byte)
      → IsLike tested window c → IsLike (tested_more byte shift width tested) window c
  more_there b at h e like j k = elim (cases_eq j byte) [
    | inl same ↦ (
        let new : slice_index (tested_more byte shift width tested) byte ≡ bit_or (slice_index tested byte) (block shift width) = get_or-set_same tested byte (bit_or (slice_index tested byte) (block shift width)) 0 within in
        let run : bit_and (slice_index c.value byte) (block shift width) ≡ bit_and (bit_and (slice_index window byte) (block shift width)) (slice_index c.mask byte)
        = e ∙ ap (λ x. bit_and x (slice_index c.mask byte)) (sym (and_high b width shift) ∙ ap (λ x. bit_and x (block shift width)) (sym at)) in
        rw (same, new) (like_more (slice_index window byte) (slice_index c.mask byte) (slice_index c.value byte) (slice_index tested byte) (block shift width) (like byte h) run))
    | inr ne ↦ (rw get_or-set_other (like j k))
  ]

  -- the window and the case end before the byte
  more_short : c.len ≤ byte → IsLike tested window c → IsLike (tested_more byte shift width tested) window c
  more_short l like j k = elim (cases_eq j byte) [
    | inl same ↦ (zero_like (slice_index window j) (slice_index c.mask j) (slice_index c.value j) (slice_index (tested_more byte shift width tested) j) (c.short j k (omega arith)) (c.under_mask j k))
    | inr ne ↦ (rw get_or-set_other (like j k))
  ]

by_false : (t : Bool) → (t ≡ true → ⊥) → t ≡ false
by_false true f = absurd (f refl)
by_false false f = refl

module _ (cases : List ByteCase) (window : List ℕ) (byte shift width : ℕ) (below : byte < 32) where
  goes_unmet : (o : Option ℕ) → slice_get window byte ≡ o → (c : ByteCase) → stays byte shift width (option_map (λ b. b / 2 ^ shift % 2 ^ width) o) c ≡ false → is_met window c ≡ false
  goes_unmet None at c e = by_false (is_met window c) (λ m.
      let met = meets-true c.mask c.value c.len window m in let past = none_past window byte at in
      true≢false (sym (le-leb c.len byte (omega (arith, met.0, past))) ∙ e))
  goes_unmet (Some b) at c e = by_false (is_met window c) (λ m.
      let met = meets-true c.mask c.value c.len window m in
      let here : slice_index window byte ≡ b = get_or_from_slice_get window byte b 0 at in
      let run = run_met (slice_index window byte) (slice_index c.mask byte) (slice_index c.value byte) 0 (block shift width) (met.1 byte below) in
      let wanted : bit_and (slice_index c.value byte) (block shift width) ≡ bit_and (b / 2 ^ shift % 2 ^ width * 2 ^ shift) (slice_index c.mask byte)
      = run ∙ ap (λ x. bit_and (bit_and x (block shift width)) (slice_index c.mask byte)) here ∙ ap (λ x. bit_and x (slice_index c.mask byte)) (and_high b width shift) in
      true≢false (sym (eq-eqb _ _ wanted) ∙ e))

  module _ (link : Option ℕ) (takes : bits_of byte shift width window ≡ link) where
    pub goes_unmet_at : (k : ℕ) → stays_at cases byte shift width link k ≡ false → is_met_at cases window k ≡ false
    goes_unmet_at k = by (slice_get cases k)
      where
        by : (o : Option ByteCase) → option_map_or (stays byte shift width link) o false ≡ false → option_map_or (is_met window) o false ≡ false
        by None e = refl
        by (Some c) e = goes_unmet (slice_get window byte) refl c (ap (λ l. stays byte shift width l c) takes ∙ e)

module _ (cases : List ByteCase) (tested window : List ℕ) (byte shift width : ℕ) (within : byte < length tested) (below : byte < 32) where
  -- which cases are left behind the link that the window takes
  stays_like : (o : Option ℕ) → slice_get window byte ≡ o → (c : ByteCase) → stays byte shift width (option_map (λ b. b / 2 ^ shift % 2 ^ width) o) c ≡ true
      → IsLike tested window c → IsLike (tested_more byte shift width tested) window c
  stays_like None at c e like = more_short tested window byte shift width within c (leb-true c.len byte e) like
  stays_like (Some b) at c e like = more_there tested window byte shift width within c b (get_or_from_slice_get window byte b 0 at) below (eqb-true _ _ e) like

  module _ (link : Option ℕ) (takes : bits_of byte shift width window ≡ link) where
    stays_like_at : (k : ℕ) → stays_at cases byte shift width link k ≡ true → IsLikeAt cases tested window k → IsLikeAt cases (tested_more byte shift width tested) window k
    stays_like_at k e like c at = stays_like (slice_get window byte) refl c (ap (λ l. stays byte shift width l c) takes ∙ ap (λ o. option_map_or (stays byte shift width link) o false) (sym at) ∙ e) (like c at)

    -- the first case that the window meets is left behind the link that it takes
    pub first_kept : (ks : List ℕ) → first_among cases ks window ≡ first_among cases (kept cases byte shift width link ks) window
    first_kept ks = ap (option_map case_no) (find_filter (is_met_at cases window) (stays_at cases byte shift width link) (goes_unmet_at cases window byte shift width below link takes) ks)

    -- and what is known of the window there
    pub fits_kept : (least most : ℕ) (ks : List ℕ) → most ≤ length window → Fits cases ks tested least window
        → Fits cases (kept cases byte shift width link ks) (tested_more byte shift width tested) most window
    fits_kept least most ks l fits = record {
      long = l;
      like = each_filter (IsLikeAt cases tested window) (IsLikeAt cases (tested_more byte shift width tested) window) (stays_at cases byte shift width link) stays_like_at ks fits.like;
    }
