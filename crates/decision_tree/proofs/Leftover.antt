-- The cases that are left behind the tests of a path, each with a window that meets it and takes their links.
use Rattle.std.proofs.Common.{◌≡◌, ℕ, zero, suc, ◌+◌, ◌*◌, ◌/◌, ◌%◌, ◌^◌, ◌<◌, ◌≤◌, inl, inr, max, Bool, true, false, cond, List, [], ◌∷◌, length, slice_get, slice_index, Option, Some, None, refl, sym, ap, ◌∙◌, subst, arith, bit_and, bit_or, get_or-set_same, get_or-set_other}
use Rattle.std.specs.List.{filter, range_with_len}
use Rattle.std.specs.Option.{option_map_or}
use Rattle.std.specs.Int.{bit_at}
use Rattle.std.proofs.lemmas.Bool.{cases_eq, leb-true, eqb-true}
use Rattle.std.proofs.lemmas.Nat.Bits.{bit_at_and, bit_at_or, bit_at-lt, same_from_bits}
use Rattle.bit_cases.specs.declared.byte_case.ByteCase.{ByteCase}
use Rattle.decision_tree.specs.Window.{bits_of, block, tested_more}
use Rattle.decision_tree.specs.Graph.{is_met, is_met_at}
use Rattle.decision_tree.specs.Paths.{Passed, passing, TakesAll, IsLeft}
use Rattle.decision_tree.specs.Building.{Each, stays, stays_at, kept, Place, least_behind, Has, IsOpenTest}
use Rattle.decision_tree.proofs.Splits.{each_filter, goes_unmet_at}
use Rattle.decision_tree.proofs.Ruled.{has_filter}
use Rattle.decision_tree.proofs.Laid.{laid, laid_run, laid_other, laid_met, run_value, same_run, value_under, window_of, bits_in, bits_out, Suits, suits_met, changed, changed_same, changed_other}

-- the case ends before the byte of each short link
abbrev pub Ends : ℕ → Option ℕ → ByteCase → Type 0
Ends byte None c = c.len ≤ byte
Ends byte (Some value) c = Unit {0}

abbrev pub EndsBefore : List Passed → ByteCase → Type 0
EndsBefore [] c = Unit {0}
EndsBefore (s ∷ passed) c = Ends s.byte s.link c × EndsBefore passed c

-- a window of the least length that meets the case, and takes the link of each test
pub record HasWindow (cases : List ByteCase) (passed : List Passed) (least k : ℕ) : Type 0 where
  pub case_met : ByteCase
  pub at : slice_get cases k ≡ Some case_met
  pub bytes : ℕ → ℕ
  pub suits : Suits bytes case_met
  pub takes : TakesAll passed (window_of bytes (max least case_met.len))
  pub ends_before : EndsBefore passed case_met

pub is_left : (cases : List ByteCase) (passed : List Passed) (least k : ℕ) → HasWindow cases passed least k → IsLeft cases passed k
is_left cases passed least k w = record {
  window = window_of w.bytes (max least w.case_met.len);
  met = ap (λ o. option_map_or (is_met (window_of w.bytes (max least w.case_met.len))) o false) w.at ∙ suits_met w.bytes (max least w.case_met.len) w.case_met (omega arith) w.suits;
  takes = w.takes;
}

-- the byte of a test that was passed is below the least length, and its bits count as tested; that of a short link is not below
abbrev pub StepOk : ℕ → List ℕ → ℕ → ℕ → ℕ → Option ℕ → Type 0
StepOk least tested byte shift width None = least ≤ byte
StepOk least tested byte shift width (Some value) = (byte < least) × (bit_and (block shift width) (slice_index tested byte) ≡ block shift width)

abbrev pub StepsOk : ℕ → List ℕ → List Passed → Type 0
StepsOk least tested [] = Unit {0}
StepsOk least tested (s ∷ passed) = StepOk least tested s.byte s.shift s.width s.link × StepsOk least tested passed

some_same : {X : Type 0} (o : Option X) (x y : X) → o ≡ Some x → o ≡ Some y → x ≡ y
some_same o x y e f = let g : Some x ≡ Some y = sym e ∙ f in cc

among_more : (e t b : ℕ) → bit_and e t ≡ e → bit_and e (bit_or t b) ≡ e
among_more e t b h = same_from_bits (bit_and e (bit_or t b)) e (λ i. bit i)
  where
    bit : (i : ℕ) → bit_at (bit_and e (bit_or t b)) i ≡ bit_at e i
    bit i = let u = simp bit_at_and at (ap (λ n. bit_at n i) h) in let d = bit_at-lt e i in let f = bit_at-lt t i in let g = bit_at-lt b i in simp (bit_at_and, bit_at_or) (omega (arith, u, d, f, g))

among_new : (t b : ℕ) → bit_and b (bit_or t b) ≡ b
among_new t b = same_from_bits (bit_and b (bit_or t b)) b (λ i. bit i)
  where
    bit : (i : ℕ) → bit_at (bit_and b (bit_or t b)) i ≡ bit_at b i
    bit i = let f = bit_at-lt t i in let g = bit_at-lt b i in simp (bit_at_and, bit_at_or) (omega (arith, f, g))

module _ (tested : List ℕ) (byte shift width : ℕ) (within : byte < length tested) where
  under_more : (j e : ℕ) → bit_and e (slice_index tested j) ≡ e → bit_and e (slice_index (tested_more byte shift width tested) j) ≡ e
  under_more j e h = elim (cases_eq j byte) [
    | inl same ↦ subst (λ i. bit_and e (slice_index (tested_more byte shift width tested) i) ≡ e) (sym same)
        (ap (bit_and e) (get_or-set_same tested byte (bit_or (slice_index tested byte) (block shift width)) 0 within) ∙ among_more e (slice_index tested byte) (block shift width) (subst (λ i. bit_and e (slice_index tested i) ≡ e) same h))
    | inr ne ↦ ap (bit_and e) (get_or-set_other tested byte j (bit_or (slice_index tested byte) (block shift width)) 0 ne) ∙ h
  ]

  new_under : bit_and (block shift width) (slice_index (tested_more byte shift width tested) byte) ≡ block shift width
  new_under = ap (bit_and (block shift width)) (get_or-set_same tested byte (bit_or (slice_index tested byte) (block shift width)) 0 within) ∙ among_new (slice_index tested byte) (block shift width)

least_grows : (byte : ℕ) (link : Option ℕ) (least : ℕ) → least ≤ least_behind byte link least
least_grows byte None least = omega arith
least_grows byte (Some value) least = omega arith

least_before : (byte : ℕ) (link : Option ℕ) (least b : ℕ) → least ≤ b → byte < b → least_behind byte link least ≤ b
least_before byte None least b h k = h
least_before byte (Some value) least b h k = omega (arith, h, k)

module _ (cases : List ByteCase) (p : Place) (byte shift width : ℕ) (asks : IsOpenTest cases p byte shift width) (long : length p.tested ≡ 32) where
  below : byte < 32
  below = omega (arith, asks.in_case, asks.case_left.at_most_32)

  within : byte < length p.tested
  within = omega (arith, below, long)

  step_behind : (link : Option ℕ) (b s w : ℕ) (l : Option ℕ) → StepOk p.least p.tested b s w l → Ends b l asks.case_left → StepOk (least_behind byte link p.least) (tested_more byte shift width p.tested) b s w l
  step_behind link b s w None ok end = least_before byte link p.least b ok (omega (arith, asks.in_case, end))
  step_behind link b s w (Some value) ok end = (omega (arith, ok.0, least_grows byte link p.least), under_more p.tested byte shift width within b (block s w) ok.1)

  pub steps_behind : (link : Option ℕ) (passed : List Passed) → StepsOk p.least p.tested passed → EndsBefore passed asks.case_left → StepsOk (least_behind byte link p.least) (tested_more byte shift width p.tested) passed
  steps_behind link [] ok end = tt
  steps_behind link (s ∷ passed) ok end = (step_behind link s.byte s.shift s.width s.link ok.0 end.0, steps_behind link passed ok.1 end.1)

  -- the new test
  pub step_new : (link : Option ℕ) → (link ≡ None → p.least ≤ byte) → StepOk (least_behind byte link p.least) (tested_more byte shift width p.tested) byte shift width link
  step_new None short = short refl
  step_new (Some value) short = (omega arith, new_under p.tested byte shift width within)

  -- the bytes with the bits of the test changed to the value
  abbrev laid_bytes : ℕ → (ℕ → ℕ) → ℕ → ℕ
  laid_bytes value bytes = changed bytes byte (laid (bytes byte) (block shift width) (value * 2 ^ shift))

  suits_laid : (value : ℕ) → value < 2 ^ width → (c : ByteCase) (bytes : ℕ → ℕ) → stays byte shift width (Some value) c ≡ true → Suits bytes c → Suits (laid_bytes value bytes) c
  suits_laid value small c bytes stay suits j h = elim (cases_eq j byte) [
    | inl same ↦ subst (λ i. bit_and (laid_bytes value bytes i) (slice_index c.mask i) ≡ slice_index c.value i) (sym same)
        (ap (λ (y : ℕ). bit_and y (slice_index c.mask byte)) (changed_same bytes byte _)
        ∙ laid_met (bytes byte) (block shift width) (value * 2 ^ shift) (value_under value shift width small) (slice_index c.mask byte) (slice_index c.value byte)
        (subst (λ i. bit_and (bytes i) (slice_index c.mask i) ≡ slice_index c.value i) same (suits j h)) (eqb-true _ _ stay))
    | inr ne ↦ ap (λ (y : ℕ). bit_and y (slice_index c.mask j)) (changed_other bytes byte _ j ne) ∙ suits j h
  ]

  -- a link that was taken is taken still, by a longer window
  taken_still : (value : ℕ) → value < 2 ^ width → (bytes : ℕ → ℕ) (n m b s w : ℕ) (l : Option ℕ) → StepOk p.least p.tested b s w l → p.least ≤ n → p.least ≤ m → (l ≡ None → m ≤ b)
      → bits_of b s w (window_of bytes n) ≡ l → bits_of b s w (window_of (laid_bytes value bytes) m) ≡ l
  taken_still value small bytes n m b s w None ok h k before takes = bits_out (laid_bytes value bytes) m b s w (before refl)
  taken_still value small bytes n m b s w (Some u) ok h k before takes =
      bits_in (laid_bytes value bytes) m b s w (omega (arith, ok.0, k)) ∙ ap Some same ∙ sym (bits_in bytes n b s w (omega (arith, ok.0, h))) ∙ takes
    where
      same : laid_bytes value bytes b / 2 ^ s % 2 ^ w ≡ bytes b / 2 ^ s % 2 ^ w
      same = elim (cases_eq b byte) [
        | inl e ↦ same_run (laid_bytes value bytes b) (bytes b) s w (subst (λ i. bit_and (laid_bytes value bytes i) (block s w) ≡ bit_and (bytes i) (block s w)) (sym e)
            (ap (λ (y : ℕ). bit_and y (block s w)) (changed_same bytes byte _)
            ∙ laid_other (bytes byte) (block shift width) (value * 2 ^ shift) (value_under value shift width small) (slice_index p.tested byte) (block s w)
            (subst (λ i. bit_and (block s w) (slice_index p.tested i) ≡ block s w) e ok.1) asks.untested))
        | inr ne ↦ ap (λ (y : ℕ). y / 2 ^ s % 2 ^ w) (changed_other bytes byte _ b ne)
      ]

  all_taken : (value : ℕ) → value < 2 ^ width → (bytes : ℕ → ℕ) (c : ByteCase) (passed : List Passed) → StepsOk p.least p.tested passed → EndsBefore passed asks.case_left → EndsBefore passed c
      → TakesAll passed (window_of bytes (max p.least c.len)) → TakesAll passed (window_of (laid_bytes value bytes) (max (max p.least (byte + 1)) c.len))
  all_taken value small bytes c [] ok first end takes = tt
  all_taken value small bytes c (s ∷ passed) ok first end takes = (
    taken_still value small bytes (max p.least c.len) (max (max p.least (byte + 1)) c.len) s.byte s.shift s.width s.link ok.0 (omega arith) (omega arith)
        (λ e. before s.byte s.shift s.width s.link e ok.0 first.0 end.0) takes.0,
    all_taken value small bytes c passed ok.1 first.1 end.1 takes.1,
  )
    where
      before : (b t w : ℕ) (l : Option ℕ) → l ≡ None → StepOk p.least p.tested b t w l → Ends b l asks.case_left → Ends b l c → max (max p.least (byte + 1)) c.len ≤ b
      before b t w None e o f g = omega (arith, o, f, g, asks.in_case)
      before b t w (Some u) e o f g = absurd (let x : Some u ≡ None = e in cc)

  stays_here : (link : Option ℕ) (k : ℕ) (c : ByteCase) → slice_get cases k ≡ Some c → stays_at cases byte shift width link k ≡ true → stays byte shift width link c ≡ true
  stays_here link k c at e = ap (λ o. option_map_or (stays byte shift width link) o false) (sym at) ∙ e

  -- a case that stays behind the link has a window there
  pub window_behind : (link : Option ℕ) → (link ≡ None → p.least ≤ byte) → ((v : ℕ) → link ≡ Some v → v < 2 ^ width) → (passed : List Passed) → StepsOk p.least p.tested passed → EndsBefore passed asks.case_left
      → (k : ℕ) → stays_at cases byte shift width link k ≡ true → HasWindow cases passed p.least k → HasWindow cases (passing byte shift width link ∷ passed) (least_behind byte link p.least) k
  window_behind None short small passed ok first k e w =
      let ends : w.case_met.len ≤ byte = leb-true w.case_met.len byte (stays_here None k w.case_met w.at e) in
      record {
        case_met = w.case_met;
        at = w.at;
        bytes = w.bytes;
        suits = w.suits;
        takes = (bits_out w.bytes (max p.least w.case_met.len) byte shift width (omega (arith, ends, short refl)), w.takes);
        ends_before = (ends, w.ends_before);
      }
  window_behind (Some value) short small passed ok first k e w =
      let fits : value < 2 ^ width = small value refl in let c : ByteCase = w.case_met in
      record {
        case_met = w.case_met;
        at = w.at;
        bytes = laid_bytes value w.bytes;
        suits = suits_laid value fits w.case_met w.bytes (stays_here (Some value) k w.case_met w.at e) w.suits;
        takes = (
          bits_in (laid_bytes value w.bytes) (max (max p.least (byte + 1)) w.case_met.len) byte shift width (omega arith)
              ∙ ap Some (ap (λ (y : ℕ). y / 2 ^ shift % 2 ^ width) (changed_same w.bytes byte _) ∙ run_value (laid (w.bytes byte) (block shift width) (value * 2 ^ shift)) value shift width
              (laid_run (w.bytes byte) (block shift width) (value * 2 ^ shift) (value_under value shift width fits))),
          all_taken value fits w.bytes w.case_met passed ok first w.ends_before w.takes,
        );
        ends_before = (tt, w.ends_before);
      }

  stays_true : (link : Option ℕ) (k : ℕ) (window : List ℕ) → is_met_at cases window k ≡ true → bits_of byte shift width window ≡ link → (b : Bool) → stays_at cases byte shift width link k ≡ b → stays_at cases byte shift width link k ≡ true
  stays_true link k window met takes true e = e
  stays_true link k window met takes false e = absurd (let f : true ≡ false = sym met ∙ goes_unmet_at cases window byte shift width below link takes k e in cc)

  -- a case that is left there is kept
  pub covered : (link : Option ℕ) (passed : List Passed) → ((j : ℕ) → IsLeft cases passed j → Has j p.left) → (j : ℕ) → IsLeft cases (passing byte shift width link ∷ passed) j → Has j (kept cases byte shift width link p.left)
  covered link passed covers j left = has_filter (stays_at cases byte shift width link) j p.left
      (stays_true link j left.window left.met left.takes.0 (stays_at cases byte shift width link j) refl)
      (covers j (record { window = left.window; met = left.met; takes = left.takes.1 }))

-- ---- numbers in order

abbrev pub Ascends : List ℕ → Type 0
Ascends [] = Unit {0}
Ascends (k ∷ ks) = Each (λ j. k < j) ks × Ascends ks

pub ascends_filter : (test : ℕ → Bool) (ks : List ℕ) → Ascends ks → Ascends (filter test ks)
ascends_filter test [] h = tt
ascends_filter test (k ∷ ks) h = by (test k) (each_filter (λ j. k < j) (λ j. k < j) test (λ j e x. x) ks h.0) (ascends_filter test ks h.1)
  where
    by : (b : Bool) → Each (λ j. k < j) (filter test ks) → Ascends (filter test ks) → Ascends (cond b (k ∷ filter test ks) (filter test ks))
    by true first rest = (first, rest)
    by false first rest = rest

each_has : (k : ℕ) (ks : List ℕ) → Each (λ j. k < j) ks → (j : ℕ) → Has j ks → k < j
each_has k [] h j m = absurd m
each_has k (x ∷ ks) h j (inl e) = omega (arith, e, h.0)
each_has k (x ∷ ks) h j (inr m) = each_has k ks h.1 j m

pub first_least : (ks : List ℕ) (k j : ℕ) → Ascends ks → slice_get ks 0 ≡ Some k → Has j ks → k ≤ j
first_least [] k j a e h = absurd h
first_least (x ∷ ks) k j a e (inl same) = let f : Some x ≡ Some k = e in let g : x ≡ k = cc in omega (arith, g, same)
first_least (x ∷ ks) k j a e (inr m) = let f : Some x ≡ Some k = e in let g : x ≡ k = cc in let h = each_has x ks a.0 j m in omega (arith, g, h)

each_above : (a b n : ℕ) → a < b → Each (λ j. a < j) (range_with_len b n)
each_above a b zero h = tt
each_above a b (suc n) h = (h, each_above a (b + 1) n (omega (arith, h)))

pub ascends_range : (a n : ℕ) → Ascends (range_with_len a n)
ascends_range a zero = tt
ascends_range a (suc n) = (each_above a (a + 1) n (omega arith), ascends_range (a + 1) n)

pub has_range : (a n j : ℕ) → a ≤ j → j < a + n → Has j (range_with_len a n)
has_range a zero j h k = absurd (omega (arith, h, k))
has_range a (suc n) j h k = elim (cases_eq j a) [
  | inl e ↦ inl e
  | inr ne ↦ inr (has_range (a + 1) n j (omega (arith, h, ne)) (omega (arith, k)))
]
