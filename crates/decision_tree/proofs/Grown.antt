-- A test with its kids.
use Rattle.std.proofs.Common.{◌-◌, ◌≡◌, ℕ, ◌+◌, ◌/◌, ◌%◌, ◌^◌, ◌<◌, ◌≤◌, ◌⊎◌, max, Bool, List, [], ◌∷◌, ◌++◌, length, length-append, take, cond, slice_get, slice_index, Option, Some, None, refl, sym, ap, ◌∙◌, subst, arith, inl, inr}
use Rattle.std.specs.Option.{option_map, option_map_or}
use Rattle.std.proofs.lemmas.Bool.{cases_lt}
use Rattle.std.proofs.lemmas.Option.{slice_get_within}
use Rattle.std.proofs.lemmas.List.Elements.{filter_more}
use Rattle.std.proofs.Common.{false, true}
use Rattle.std.proofs.lemmas.List.{get_or_append_left}
use Rattle.std.proofs.Math.Seq.{get_or-append_seam}
use Rattle.bit_cases.specs.declared.byte_case.ByteCase.{ByteCase}
use Rattle.decision_tree.specs.declared.node.Node.{Node}
use Rattle.decision_tree.specs.Window.{bits_of}
use Rattle.decision_tree.specs.declared.node.Node.TheVariants.{Leaf, Test}
use Rattle.decision_tree.specs.Graph.{test_link, walk_at, Reaches}
use Rattle.decision_tree.specs.Graph.Reaches.{here, along}
use Rattle.decision_tree.specs.Building.Ruled.{ruled_leaf, ruled_test}
use Rattle.decision_tree.specs.Building.{first_among, Fits, FitsShort, IsMade, IsBuilt, AreKids, IsOpenTest, IsLeafAt, Ruled, place, stays, stays_at, kept, tested_more}
use Rattle.decision_tree.proofs.Ruled.{ruled_grown, dead_stays}
use Rattle.decision_tree.proofs.Walks.{value_below}
use Rattle.decision_tree.proofs.Made.{reach_grown, grown_twice, walk_stays, stays_within}
use Rattle.decision_tree.proofs.Splits.{none_past, first_kept, fits_kept}

append_nil : (xs : List ℕ) → xs ++ [] ≡ xs
append_nil [] = refl
append_nil (x ∷ xs) = ap (λ ys. x ∷ ys) (append_nil xs)

-- one more case is looked at
module _ (cases : List ByteCase) (byte shift width : ℕ) (link : Option ℕ) (left : List ℕ) (i : ℕ) (c : ByteCase) (within : i < length left) (at : slice_get cases (slice_index left i) ≡ Some c) where
  one_more : (b : Bool) → b ≡ stays byte shift width link c
      → kept cases byte shift width link (take (i + 1) left) ≡ kept cases byte shift width link (take i left) ++ cond b (slice_index left i ∷ []) []
  one_more b e =
      filter_more (stays_at cases byte shift width link) left i 0 within
      ∙ ap (λ t. kept cases byte shift width link (take i left) ++ cond t (slice_index left i ∷ []) []) (ap (λ o. option_map_or (stays byte shift width link) o false) at ∙ sym e)

  pub one_more_kept : true ≡ stays byte shift width link c → kept cases byte shift width link (take (i + 1) left) ≡ kept cases byte shift width link (take i left) ++ slice_index left i ∷ []
  one_more_kept e = one_more true e

  pub one_more_gone : false ≡ stays byte shift width link c → kept cases byte shift width link (take (i + 1) left) ≡ kept cases byte shift width link (take i left)
  one_more_gone e = one_more false e ∙ append_nil (kept cases byte shift width link (take i left))

get_first : (xs : List ℕ) (y v : ℕ) → v < length xs → slice_index (xs ++ y ∷ []) v ≡ slice_index xs v
get_first xs y v h = get_or_append_left xs (y ∷ []) 0 v h

get_end : (xs : List ℕ) (y : ℕ) → slice_index (xs ++ y ∷ []) (length xs) ≡ y
get_end xs y = get_or-append_seam xs y [] 0

-- one more kid
pub kids_more : (cases : List ByteCase) (a b d : List Node) (kids left : List ℕ) (room : ℕ) (tested : List ℕ) (least byte shift width kid : ℕ)
    → AreKids cases a b kids left room tested least byte shift width
    → IsBuilt cases b d kid (kept cases byte shift width (Some (length kids)) left) room tested least (Fits cases (kept cases byte shift width (Some (length kids)) left) tested least)
    → AreKids cases a d (kids ++ kid ∷ []) left room tested least byte shift width
kids_more cases a b d kids left room tested least byte shift width kid ks k = record {
  grown = grown_twice a b d ks.grown k.grown;
  graph = k.graph;
  ruled = λ v h. elim (cases_lt v (length kids)) [
    | inl l ↦ subst (λ i. Ruled cases d i (place room tested (kept cases byte shift width (Some v) left) least)) (sym (get_first kids kid v l)) (ruled_grown cases b d k.grown (slice_index kids v) _ (ks.ruled v l))
    | inr g ↦ (let e : v ≡ length kids = last v h g in
        subst (λ u. Ruled cases d (slice_index (kids ++ kid ∷ []) u) (place room tested (kept cases byte shift width (Some u) left) least)) (sym e)
        (subst (λ i. Ruled cases d i (place room tested (kept cases byte shift width (Some (length kids)) left) least)) (sym (get_end kids kid)) k.ruled))
  ];
  fresh = λ m g l. elim (cases_lt m (length b)) [
    | inl x ↦ (let r = ks.fresh m g x in (r.0, more_within r.0 r.1, subst (λ i. Reaches d i m) (sym (get_first kids kid r.0 r.1)) (reach_grown b d k.grown (slice_index kids r.0) m r.2)))
    | inr x ↦ (length kids, end_within, subst (λ i. Reaches d i m) (sym (get_end kids kid)) (k.fresh m x l))
  ];
  within = λ v h. elim (cases_lt v (length kids)) [
    | inl l ↦ subst (λ n. n < length d) (sym (get_first kids kid v l)) (stays_within b d k.grown (slice_index kids v) (ks.within v l))
    | inr g ↦ (let e : v ≡ length kids = last v h g in subst (λ n. n < length d) (sym (ap (slice_index (kids ++ kid ∷ [])) e ∙ get_end kids kid)) k.within)
  ];
  answers = λ v h window. elim (cases_lt v (length kids)) [
    | inl l ↦ (λ fits. ap (walk_at cases d window) (get_first kids kid v l) ∙ walk_stays cases b d ks.graph k.grown window (slice_index kids v) (ks.within v l) ∙ ks.answers v l window fits)
    | inr g ↦ (let e : v ≡ length kids = last v h g in
        subst (λ u. Fits cases (kept cases byte shift width (Some u) left) tested least window → walk_at cases d window (slice_index (kids ++ kid ∷ []) u) ≡ first_among cases (kept cases byte shift width (Some u) left) window) (sym e)
        (λ fits. ap (walk_at cases d window) (get_end kids kid) ∙ k.answers window fits))
  ];
}
  where
    more_within : (v : ℕ) → v < length kids → v < length (kids ++ kid ∷ [])
    more_within v h = omega (arith, length-append kids (kid ∷ []))

    end_within : length kids < length (kids ++ kid ∷ [])
    end_within = omega (arith, length-append kids (kid ∷ []))

    last : (v : ℕ) → v < length (kids ++ kid ∷ []) → length kids ≤ v → v ≡ length kids
    last v h g = omega (arith, length-append kids (kid ∷ []))

-- the test
pub tested_built : (cases : List ByteCase) (a b d e : List Node) (short : ℕ) (kids : List ℕ) (n : ℕ) (left tested more : List ℕ) (room least byte shift width : ℕ)
    → byte < length tested → byte < 32 → more ≡ tested_more byte shift width tested
    → IsBuilt cases a b short (kept cases byte shift width None left) (room - width) more least (FitsShort cases (kept cases byte shift width None left) more least byte)
    → AreKids cases b d kids left (room - width) more (max least (byte + 1)) byte shift width
    → length kids ≡ 2 ^ width
    → IsMade cases d e n (Test byte shift width kids (record { 0 = short }))
    → IsOpenTest cases (place room tested left least) byte shift width → (least ≤ byte) ⊎ IsLeafAt b short
    → IsBuilt cases a e n left room tested least (Fits cases left tested least)
tested_built cases a b d e short kids n left tested more room least byte shift width within below same s k each m asks dead = record {
  ruled = ruled_test byte shift width kids (record { 0 = short }) m.at asks (dead_stays b e (grown_twice b d e k.grown m.grown) short least byte dead)
      (subst (λ t. Ruled cases e short (place (room - width) t (kept cases byte shift width None left) least)) same (ruled_grown cases b e (grown_twice b d e k.grown m.grown) short _ s.ruled))
      (λ v h. subst (λ t. Ruled cases e (slice_index kids v) (place (room - width) t (kept cases byte shift width (Some v) left) (max least (byte + 1)))) same (ruled_grown cases d e m.grown (slice_index kids v) _ (k.ruled v h)));
  grown = grown_twice a b e s.grown (grown_twice b d e k.grown m.grown);
  graph = m.graph;
  within = m.within;
  fresh = λ i g l. elim (cases_lt i (length b)) [
    | inl x ↦ along node m.at (inl refl) (reach_grown b e (grown_twice b d e k.grown m.grown) short i (s.fresh i g x))
    | inr x ↦ elim (cases_lt i (length d)) [
      | inl y ↦ (let r = k.fresh i x y in along node m.at (inr (r.0, r.1, refl)) (reach_grown d e m.grown (slice_index kids r.0) i r.2))
      | inr y ↦ subst (λ j. Reaches e j i) (m.fresh i y l) here
    ]
  ];
  answers = λ window fits. m.answers window ∙ by window fits (slice_get window byte) refl;
}
  where
    node : Node
    node = Test byte shift width kids (record { 0 = short })

    by : (window : List ℕ) → Fits cases left tested least window → (o : Option ℕ) → slice_get window byte ≡ o
        → walk_at cases d window (test_link kids short (option_map (λ x. x / 2 ^ shift % 2 ^ width) o)) ≡ first_among cases left window
    by window fits None at =
        let takes : bits_of byte shift width window ≡ None = ap (option_map (λ x. x / 2 ^ shift % 2 ^ width)) at in
        walk_stays cases b d s.graph k.grown window short s.within
        ∙ s.answers window (record {
          short = none_past window byte at;
          fits = subst (λ t. Fits cases (kept cases byte shift width None left) t least window) (sym same) (fits_kept cases tested window byte shift width within below None takes least least left fits.long fits);
        })
        ∙ sym (first_kept cases tested window byte shift width within below None takes left)
    by window fits (Some x) at =
        let value : ℕ = x / 2 ^ shift % 2 ^ width in
        let takes : bits_of byte shift width window ≡ Some value = ap (option_map (λ y. y / 2 ^ shift % 2 ^ width)) at in
        let there : byte < length window = slice_get_within window byte x at in
        k.answers value (value_below kids width x shift each) window
        (subst (λ t. Fits cases (kept cases byte shift width (Some value) left) t (max least (byte + 1)) window) (sym same)
        (fits_kept cases tested window byte shift width within below (Some value) takes least (max least (byte + 1)) left (omega (arith, fits.long)) fits))
        ∙ sym (first_kept cases tested window byte shift width within below (Some value) takes left)

-- a leaf where no window comes
pub leaf_built : (cases : List ByteCase) (a b : List Node) (n : ℕ) (ks more : List ℕ) (room least byte : ℕ) → byte < least → IsMade cases a b n (Leaf None) → IsBuilt cases a b n ks room more least (FitsShort cases ks more least byte)
leaf_built cases a b n ks more room least byte h m = record {
  ruled = ruled_leaf None m.at tt;
  grown = m.grown;
  graph = m.graph;
  within = m.within;
  answers = λ window f. absurd (omega (arith, f.short, f.fits.long));
  fresh = λ i g l. subst (λ j. Reaches b j i) (m.fresh i g l) here;
}
