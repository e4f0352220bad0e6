-- What holds of the node at the end of a path.
use Rattle.std.proofs.Common.{◌≡◌, ℕ, zero, suc, ◌+◌, ◌*◌, ◌/◌, ◌%◌, ◌^◌, ◌<◌, ◌≤◌, ◌⊎◌, inl, inr, Bool, true, false, cond, List, [], ◌∷◌, length, replicate, slice_get, slice_index, Option, Some, None, refl, sym, ap, ◌∙◌, subst, arith, bit_and}
use Rattle.std.specs.List.{range_with_len, position_from}
use Rattle.std.specs.Option.{option_map, option_map_or}
use Rattle.std.specs.Int.{bit_at}
use Rattle.std.proofs.lemmas.Bool.{leb-true, eqb-true}
use Rattle.std.proofs.lemmas.Option.{slice_get_within}
use Rattle.std.proofs.lemmas.Nat.Bits.{bit_at_and, bit_at-zero, bit_at-pow_same, bit_at_mask_inside}
use Rattle.std.proofs.Math.ListN.{length-set}
use Rattle.bit_cases.specs.declared.byte_case.ByteCase.{ByteCase}
use Rattle.decision_tree.specs.declared.node.CaseNo.{CaseNo}
use Rattle.decision_tree.specs.declared.node.NodeNo.{NodeNo}
use Rattle.decision_tree.specs.declared.node.Node.{Node}
use Rattle.decision_tree.specs.declared.node.Node.TheVariants.{Leaf, Check, Test}
use Rattle.decision_tree.specs.Window.{block, tested_more}
use Rattle.decision_tree.specs.Graph.{is_met, is_met_at, case_no, first_met, test_link, walk_at, IsGraph, IsLink}
use Rattle.decision_tree.specs.Paths.{Passed, passing, LeadsTo, Path, widths, tested_by, TakesAll, IsLeft, IsFirstLeft, AsksOpen, IsRuledTest, IsRuled, AreRuled}
use Rattle.decision_tree.specs.Paths.Path.{ends, checks, tests}
use Rattle.decision_tree.specs.Building.{Each, stays, stays_at, kept, Place, place, least_behind, behind, Has, IsAmong, IsOpenTest, IsLeafAt, Ruled}
use Rattle.decision_tree.specs.Building.Ruled.{ruled_leaf, ruled_check, ruled_test}
use Rattle.decision_tree.proofs.Walks.{walk_step, value_below}
use Rattle.decision_tree.proofs.Splits.{each_at, each_filter, none_past, power_le}
use Rattle.decision_tree.proofs.Ruled.{has_kept}
use Rattle.decision_tree.proofs.Leftover.{EndsBefore, HasWindow, is_left, StepsOk, steps_behind, step_new, window_behind, covered, Ascends, ascends_filter, first_least, ascends_range, has_range}

-- ---- a node by its kind

pub record TestFacts (cases : List ByteCase) (nodes : List Node) (p : Place) (byte shift width : ℕ) (kids : List ℕ) (short : NodeNo) : Type 0 where
  pub asks : IsOpenTest cases p byte shift width
  pub dead : (p.least ≤ byte) ⊎ IsLeafAt nodes short.0
  pub at_short : Ruled cases nodes short.0 (behind cases byte shift width None p)
  pub at_kid : (v : ℕ) → v < length kids → Ruled cases nodes (slice_index kids v) (behind cases byte shift width (Some v) p)

abbrev pub FactsOf : List ByteCase → List Node → Place → Node → Type 0
FactsOf cases nodes p (Leaf answer) = IsAmong answer p.left
FactsOf cases nodes p (Check c met other) = (p.room ≡ 0) × Ruled cases nodes met.0 p × Ruled cases nodes other.0 p
FactsOf cases nodes p (Test byte shift width kids short) = TestFacts cases nodes p byte shift width kids short

some_same : {X : Type 0} (o : Option X) (x y : X) → o ≡ Some x → o ≡ Some y → x ≡ y
some_same o x y e f = let g : Some x ≡ Some y = sym e ∙ f in cc

facts : (cases : List ByteCase) (nodes : List Node) (n : ℕ) (p : Place) → Ruled cases nodes n p → (node : Node) → slice_get nodes n ≡ Some node → FactsOf cases nodes p node
facts cases nodes n p (ruled_leaf answer at among) node here = subst (FactsOf cases nodes p) (some_same (slice_get nodes n) (Leaf answer) node at here) among
facts cases nodes n p (ruled_check c met other at none first second) node here =
    subst (FactsOf cases nodes p) (some_same (slice_get nodes n) (Check c met other) node at here) (none, first, second)
facts cases nodes n p (ruled_test byte shift width kids short at asks dead first each) node here =
    subst (FactsOf cases nodes p) (some_same (slice_get nodes n) (Test byte shift width kids short) node at here) (record { asks = asks; dead = dead; at_short = first; at_kid = each })

-- ---- what a node answers is among the cases left

module _ (cases : List ByteCase) (nodes : List Node) (graph : IsGraph (length cases) nodes) (window : List ℕ) where
  pub only : (n : ℕ) (p : Place) → Ruled cases nodes n p → IsAmong (walk_at cases nodes window n) p.left
  only n p (ruled_leaf answer at among) = subst (λ a. IsAmong a p.left) (sym (walk_step cases nodes graph window n (Leaf answer) at)) among
  only n p (ruled_check c met other at none first second) =
      subst (λ a. IsAmong a p.left) (sym (walk_step cases nodes graph window n (Check c met other) at)) (by (only met.0 p first) (only other.0 p second) (is_met_at cases window c.0))
    where
      by : IsAmong (walk_at cases nodes window met.0) p.left → IsAmong (walk_at cases nodes window other.0) p.left → (b : Bool) → IsAmong (walk_at cases nodes window (cond b met.0 other.0)) p.left
      by one two true = one
      by one two false = two
  only n p (ruled_test byte shift width kids short at asks dead first each) =
      subst (λ a. IsAmong a p.left) (sym (walk_step cases nodes graph window n (Test byte shift width kids short) at))
      (by (only short.0 (behind cases byte shift width None p) first) (λ v h. only (slice_index kids v) (behind cases byte shift width (Some v) p) (each v h)) (slice_get window byte))
    where
      back : (link : Option ℕ) (answer : Option CaseNo) → IsAmong answer (kept cases byte shift width link p.left) → IsAmong answer p.left
      back link None a = tt
      back link (Some c) a = (has_kept (stays_at cases byte shift width link) c.0 p.left a).1

      by : IsAmong (walk_at cases nodes window short.0) (kept cases byte shift width None p.left)
          → ((v : ℕ) → v < length kids → IsAmong (walk_at cases nodes window (slice_index kids v)) (kept cases byte shift width (Some v) p.left))
          → (o : Option ℕ) → IsAmong (walk_at cases nodes window (test_link kids short.0 (option_map (λ x. x / 2 ^ shift % 2 ^ width) o))) p.left
      by none some None = back None _ none
      by none some (Some x) = back (Some (x / 2 ^ shift % 2 ^ width)) _ (some (x / 2 ^ shift % 2 ^ width) (value_below kids width x shift (graph.formed n (Test byte shift width kids short) at).each))

-- ---- the first case that a window meets

met_first : (window : List ℕ) (cases : List ByteCase) (start k : ℕ) → option_map_or (is_met window) (slice_get cases k) false ≡ true
    → ((j : ℕ) → j < k → option_map_or (is_met window) (slice_get cases j) false ≡ false) → position_from (is_met window) start cases ≡ Some (start + k)
met_first window [] start k met before = absurd (let f : false ≡ true = met in cc)
met_first window (c ∷ rest) start zero met before = ap (λ t. cond t (Some start) (position_from (is_met window) (start + 1) rest)) met ∙ ap Some (let e : start ≡ start + 0 = omega arith in e)
met_first window (c ∷ rest) start (suc k) met before =
    ap (λ t. cond t (Some start) (position_from (is_met window) (start + 1) rest)) (before 0 (omega arith))
    ∙ met_first window rest (start + 1) k met (λ j h. before (suc j) (omega (arith, h))) ∙ ap Some (let e : start + 1 + k ≡ start + suc k = omega arith in e)

by_false : (t : Bool) → (t ≡ true → ⊥) → t ≡ false
by_false true f = absurd (f refl)
by_false false f = refl

-- ---- bits of two links

two_values : (m v s w : ℕ) → 0 < w → bit_and m (block s w) ≡ block s w → v ≡ bit_and (0 * 2 ^ s) m → v ≡ bit_and (1 * 2 ^ s) m → ⊥
two_values m v s w some under zero' one' =
    let none : 0 * 2 ^ s ≡ 0 = omega arith in let single : 1 * 2 ^ s ≡ 2 ^ s = omega arith in
    let e : bit_and 0 m ≡ bit_and (2 ^ s) m = ap (λ x. bit_and x m) (sym none) ∙ sym zero' ∙ one' ∙ ap (λ x. bit_and x m) single in
    let f = simp bit_at_and at (ap (λ x. bit_at x s) e) in let z = bit_at-zero s in let o = bit_at-pow_same s in
    let g = simp bit_at_and at (ap (λ x. bit_at x s) under) in let h = bit_at_mask_inside s (w + s) s (omega arith) (omega (arith, some)) in
    omega (arith, f, z, o, g, h)

-- ---- along a path

abbrev pub IsTestAt : List Node → ℕ → Type 0
IsTestAt nodes n = (byte : ℕ) × (shift : ℕ) × (width : ℕ) × (kids : List ℕ) × (short : NodeNo) × (slice_get nodes n ≡ Some (Test byte shift width kids short))

-- what is known at the end of a path where a test stands
pub record Alive (cases : List ByteCase) (nodes : List Node) (root n : ℕ) (passed : List Passed) (p : Place) : Type 0 where
  pub long : length p.tested ≡ 32
  pub same : p.tested ≡ tested_by passed
  pub covers : (j : ℕ) → IsLeft cases passed j → Has j p.left
  pub ascends : Ascends p.left
  pub each : Each (HasWindow cases passed p.least) p.left
  pub steps : StepsOk p.least p.tested passed
  pub walks : (window : List ℕ) → TakesAll passed window → walk_at cases nodes window root ≡ walk_at cases nodes window n

module _ (cases : List ByteCase) (nodes : List Node) (graph : IsGraph (length cases) nodes) (root limit : ℕ) where
  module _ (n : ℕ) (passed : List Passed) (p : Place) (alive : Alive cases nodes root n passed p) (byte shift width : ℕ) (kids : List ℕ) (short : NodeNo)
      (at : slice_get nodes n ≡ Some (Test byte shift width kids short)) (f : TestFacts cases nodes p byte shift width kids short) where
    first_window : HasWindow cases passed p.least f.asks.first
    first_window = each_at (HasWindow cases passed p.least) p.left alive.each 0 f.asks.first f.asks.head

    first_ends : EndsBefore passed f.asks.case_left
    first_ends = subst (EndsBefore passed) (some_same (slice_get cases f.asks.first) first_window.case_met f.asks.case_left first_window.at f.asks.at) first_window.ends_before

    first_left : IsFirstLeft cases passed f.asks.first
    first_left = record {
      left = is_left cases passed p.least f.asks.first first_window;
      before = λ j l left. let h = first_least p.left f.asks.first j alive.ascends f.asks.head (alive.covers j left) in omega (arith, l, h);
    }

    each_width : length kids ≡ 2 ^ width
    each_width = (graph.formed n (Test byte shift width kids short) at).each

    -- behind a link
    alive_behind : (link : Option ℕ) (k : ℕ) → LeadsTo kids short link k → (link ≡ None → p.least ≤ byte) → Alive cases nodes root k (passing byte shift width link ∷ passed) (behind cases byte shift width link p)
    alive_behind link k leads short' = record {
      long = simp length-set alive.long;
      same = ap (tested_more byte shift width) alive.same;
      covers = covered cases p byte shift width f.asks alive.long link passed alive.covers;
      ascends = ascends_filter (stays_at cases byte shift width link) p.left alive.ascends;
      each = each_filter (HasWindow cases passed p.least) (HasWindow cases (passing byte shift width link ∷ passed) (least_behind byte link p.least)) (stays_at cases byte shift width link)
          (window_behind cases p byte shift width f.asks alive.long link short' (small link leads) passed alive.steps first_ends) p.left alive.each;
      steps = (step_new cases p byte shift width f.asks alive.long link short', steps_behind cases p byte shift width f.asks alive.long link passed alive.steps first_ends);
      walks = λ window takes. alive.walks window takes.1 ∙ walk_step cases nodes graph window n (Test byte shift width kids short) at
          ∙ ap (λ o. walk_at cases nodes window (test_link kids short.0 o)) takes.0 ∙ ap (walk_at cases nodes window) (there link leads);
    }
      where
        small : (l : Option ℕ) → LeadsTo kids short l k → (v : ℕ) → l ≡ Some v → v < 2 ^ width
        small None h v e = absurd (let g : None ≡ Some v = e in cc)
        small (Some u) h v e = let g : Some u ≡ Some v = e in let same : u ≡ v = cc in omega (arith, h.0, same, each_width)

        there : (l : Option ℕ) → LeadsTo kids short l k → test_link kids short.0 l ≡ k
        there None h = h
        there (Some u) h = h.1

    -- the links do not all lead to one node
    module _ (whole : (window : List ℕ) → walk_at cases nodes window root ≡ first_met cases window) (target : ℕ) (all : (k : ℕ) → IsLink (Test byte shift width kids short) k → k ≡ target) where
      taken : (o : Option ℕ) → test_link kids short.0 (option_map (λ x. x / 2 ^ shift % 2 ^ width) o) ≡ target
      taken None = all short.0 (inl refl)
      taken (Some x) = all (slice_index kids (x / 2 ^ shift % 2 ^ width)) (inr (x / 2 ^ shift % 2 ^ width, value_below kids width x shift each_width, refl))

      answers : walk_at cases nodes first_left.left.window target ≡ Some (case_no f.asks.first)
      answers =
          let w : List ℕ = first_left.left.window in
          ap (walk_at cases nodes first_left.left.window) (sym (taken (slice_get first_left.left.window byte)))
          ∙ sym (walk_step cases nodes graph first_left.left.window n (Test byte shift width kids short) at)
          ∙ sym (alive.walks first_left.left.window first_left.left.takes) ∙ whole first_left.left.window
          ∙ ap (option_map case_no) (met_first first_left.left.window cases 0 f.asks.first first_left.left.met
          (λ j l. by_false (is_met_at cases first_left.left.window j) (λ e. first_left.before j l (record { window = first_left.left.window; met = e; takes = first_left.left.takes })))
          ∙ ap Some (let e : 0 + f.asks.first ≡ f.asks.first = omega arith in e))

      stays_all : (link : Option ℕ) → Ruled cases nodes target (behind cases byte shift width link p) → stays byte shift width link f.asks.case_left ≡ true
      stays_all link ruled =
          let h : Has f.asks.first (kept cases byte shift width link p.left) = subst (λ a. IsAmong a (kept cases byte shift width link p.left)) answers (only cases nodes graph first_left.left.window target (behind cases byte shift width link p) ruled) in
          ap (λ o. option_map_or (stays byte shift width link) o false) (sym f.asks.at) ∙ (has_kept (stays_at cases byte shift width link) f.asks.first p.left h).0

      kid_stays : (v : ℕ) → v < length kids → stays byte shift width (Some v) f.asks.case_left ≡ true
      kid_stays v h = stays_all (Some v) (subst (λ k. Ruled cases nodes k (behind cases byte shift width (Some v) p)) (all (slice_index kids v) (inr (v, h, refl))) (f.at_kid v h))

      two_kids : 1 < length kids
      two_kids = let h = power_le 1 width f.asks.some in omega (arith, h, each_width)

      not_one : AsksOpen p.tested f.asks.case_left byte shift width → ⊥
      not_one (inl under) =
          two_values (slice_index f.asks.case_left.mask byte) (bit_and (slice_index f.asks.case_left.value byte) (block shift width)) shift width f.asks.some under
          (eqb-true _ _ (kid_stays 0 (omega (arith, two_kids)))) (eqb-true _ _ (kid_stays 1 two_kids))
      not_one (inr (single, last, none, rest)) =
          let e : stays byte shift width None f.asks.case_left ≡ true = stays_all None (subst (λ k. Ruled cases nodes k (behind cases byte shift width None p)) (all short.0 (inl refl)) f.at_short) in
          let h = leb-true f.asks.case_left.len byte e in omega (arith, h, last)

    ruled_here : ((window : List ℕ) → walk_at cases nodes window root ≡ first_met cases window) → widths passed + p.room ≡ limit → IsRuledTest cases limit passed byte shift width kids short
    ruled_here whole total = record {
      fits = omega (arith, total, f.asks.fits);
      untested = subst (λ t. bit_and (slice_index t byte) (block shift width) ≡ 0) alive.same f.asks.untested;
      first = f.asks.first;
      case_left = f.asks.case_left;
      at = f.asks.at;
      first_left = first_left;
      asks = subst (λ t. AsksOpen t f.asks.case_left byte shift width) alive.same f.asks.asks;
      differs = λ target all. not_one whole target all f.asks.asks;
    }

  module _ (whole : (window : List ℕ) → walk_at cases nodes window root ≡ first_met cases window) where
    at_end : (n : ℕ) (passed : List Passed) (p : Place) → widths passed + p.room ≡ limit → (IsTestAt nodes n → 0 < p.room → Alive cases nodes root n passed p)
        → (node : Node) → slice_get nodes n ≡ Some node → FactsOf cases nodes p node → IsRuled cases limit passed node
    at_end n passed p total alive (Leaf answer) at f = omega (arith, total)
    at_end n passed p total alive (Check c met other) at f = omega (arith, total, f.0)
    at_end n passed p total alive (Test byte shift width kids short) at f =
        ruled_here n passed p (alive (byte, shift, width, kids, short, at) (omega (arith, f.asks.some, f.asks.fits))) byte shift width kids short at f whole total

    pub follow : (n m : ℕ) (passed all : List Passed) (p : Place) → Path nodes n passed m all → Ruled cases nodes n p → widths passed + p.room ≡ limit
        → (IsTestAt nodes n → 0 < p.room → Alive cases nodes root n passed p) → (node : Node) → slice_get nodes m ≡ Some node → IsRuled cases limit all node
    follow n m passed all p ends ruled total alive node at = at_end n passed p total alive node at (facts cases nodes n p ruled node at)
    follow n m passed all p (checks {target = k} c met other here link path) ruled total alive node at =
        let f = facts cases nodes n p ruled (Check c met other) here in
        follow k m passed all p path (by f link) total (λ t some. absurd (omega (arith, f.0, some))) node at
      where
        by : FactsOf cases nodes p (Check c met other) → IsLink (Check c met other) k → Ruled cases nodes k p
        by f (inl e) = subst (λ i. Ruled cases nodes i p) (sym e) f.1
        by f (inr e) = subst (λ i. Ruled cases nodes i p) (sym e) f.2
    follow n m passed all p (tests {target = k} byte shift width kids short link here leads path) ruled total alive node at =
        let f = facts cases nodes n p ruled (Test byte shift width kids short) here in
        let a = alive (byte, shift, width, kids, short, here) (omega (arith, f.asks.some, f.asks.fits)) in
        follow k m (passing byte shift width link ∷ passed) all (behind cases byte shift width link p) path (by f link leads) (omega (arith, total, f.asks.fits))
        (λ t some. alive_behind n passed p a byte shift width kids short here f link k leads (lives f link leads t)) node at
      where
        by : FactsOf cases nodes p (Test byte shift width kids short) → (l : Option ℕ) → LeadsTo kids short l k → Ruled cases nodes k (behind cases byte shift width l p)
        by f None e = subst (λ i. Ruled cases nodes i (behind cases byte shift width None p)) e f.at_short
        by f (Some v) e = subst (λ i. Ruled cases nodes i (behind cases byte shift width (Some v) p)) e.1 (f.at_kid v e.0)

        no_leaf : (i : ℕ) → IsLeafAt nodes i → IsTestAt nodes i → ⊥
        no_leaf i leaf t = let g = some_same (slice_get nodes i) (Leaf leaf.answer) (Test t.0 t.1 t.2 t.3 t.4) leaf.at t.5 in cc

        open_here : (p.least ≤ byte) ⊎ IsLeafAt nodes short.0 → short.0 ≡ k → IsTestAt nodes k → p.least ≤ byte
        open_here (inl h) e t = h
        open_here (inr leaf) e t = absurd (no_leaf k (subst (IsLeafAt nodes) e leaf) t)

        lives : FactsOf cases nodes p (Test byte shift width kids short) → (l : Option ℕ) → LeadsTo kids short l k → IsTestAt nodes k → l ≡ None → p.least ≤ byte
        lives f None e t s = open_here f.dead e t
        lives f (Some v) e t s = absurd (let g : Some v ≡ None = s in cc)

    -- at the root
    pub are_ruled : Ruled cases nodes root (place limit (replicate 32 0) (range_with_len 0 (length cases)) 0) → AreRuled cases nodes root limit
    are_ruled ruled = record {
      each = λ m passed node path at. follow root m [] passed (place limit (replicate 32 0) (range_with_len 0 (length cases)) 0) path ruled (omega arith) (λ t some. start) node at;
    }
      where
        window_here : (k : ℕ) → k < length cases → HasWindow cases [] 0 k
        window_here k h = by (slice_get cases k) refl
          where
            by : (o : Option ByteCase) → slice_get cases k ≡ o → HasWindow cases [] 0 k
            by None e = absurd (let past = none_past cases k e in omega (arith, past, h))
            by (Some c) e = record {
              case_met = c;
              at = e;
              bytes = λ j. slice_index c.value j;
              suits = λ j l. c.under_mask j (omega (arith, l, c.at_most_32));
              takes = tt;
              ends_before = tt;
            }

        all_windows : (a n : ℕ) → a + n ≤ length cases → Each (HasWindow cases [] 0) (range_with_len a n)
        all_windows a zero h = tt
        all_windows a (suc n) h = (window_here a (omega (arith, h)), all_windows (a + 1) n (omega (arith, h)))

        met_within : (k : ℕ) (window : List ℕ) → is_met_at cases window k ≡ true → k < length cases
        met_within k window e = by (slice_get cases k) refl e
          where
            by : (o : Option ByteCase) → slice_get cases k ≡ o → option_map_or (is_met window) o false ≡ true → k < length cases
            by None at f = absurd (let g : false ≡ true = f in cc)
            by (Some c) at f = slice_get_within cases k c at

        start : Alive cases nodes root root [] (place limit (replicate 32 0) (range_with_len 0 (length cases)) 0)
        start = record {
          long = refl;
          same = refl;
          covers = λ j left. has_range 0 (length cases) j (omega arith) (let h = met_within j left.window left.met in omega (arith, h));
          ascends = ascends_range 0 (length cases);
          each = all_windows 0 (length cases) (omega arith);
          steps = tt;
          walks = λ window takes. refl;
        }
