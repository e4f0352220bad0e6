-- All cases, at the root.
use Rattle.std.proofs.Common.{IfSome, Bool, true, ◌≤◌, ◌≡◌, ℕ, zero, suc, ◌+◌, ◌<◌, false, cond, List, [], ◌∷◌, ◌++◌, length, replicate, slice_get, slice_index, Some, refl, sym, ap, ◌∙◌, subst, arith, bit_and}
use Rattle.std.specs.List.{find, position_from, range_with_len}
use Rattle.std.specs.Option.{option_map, option_map_or}
use Rattle.std.specs.Int.Bits.{and_zero_r}
use Rattle.std.proofs.Common.{All}
use Rattle.std.proofs.lemmas.List.FromFn.{length-range_with_len, get_or-range_with_len}
use Rattle.bit_cases.specs.declared.byte_case.ByteCase.{ByteCase}
use Rattle.bit_cases.proofs.Bytes.{zeros}
use Rattle.decision_tree.specs.declared.node.Node.{Node}
use Rattle.decision_tree.specs.Graph.{is_met, is_met_at, case_no, first_met, IsGraph}
use Rattle.decision_tree.specs.Building.{Each, first_among, IsLikeAt, Fits}

pub empty_graph : (count : ℕ) (nodes : List Node) → nodes ≡ [] → IsGraph count nodes
empty_graph count nodes e = subst (IsGraph count) (sym e) (record { formed = λ n node at. absurd (none n node at) })
  where
    none : (n : ℕ) (node : Node) → slice_get [] n ≡ Some node → ⊥
    none n node at = cc

-- before any test each window fits
pub fits_at_first : (cases : List ByteCase) (ks : List ℕ) (window : List ℕ) → Fits cases ks (replicate 32 0) 0 window
fits_at_first cases ks window = record { long = omega arith; like = all ks }
  where
    all : (xs : List ℕ) → Each (IsLikeAt cases (replicate 32 0) window) xs
    all [] = tt
    all (k ∷ xs) = (
      λ c at j h. (
          let z = zeros j h in
          ap (λ t. bit_and (slice_index window j) (bit_and (slice_index c.mask j) t)) z ∙ ap (bit_and (slice_index window j)) (and_zero_r (slice_index c.mask j)) ∙ and_zero_r (slice_index window j)
          ∙ sym (and_zero_r (slice_index c.value j)) ∙ ap (bit_and (slice_index c.value j)) (sym z)
          ),
      all xs,
    )

find_all : (cases : List ByteCase) (window : List ℕ) (a : ℕ) (rest : List ByteCase) → ((j : ℕ) → slice_get cases (a + j) ≡ slice_get rest j)
    → find (is_met_at cases window) (range_with_len a (length rest)) ≡ position_from (is_met window) a rest
find_all cases window a [] h = refl
find_all cases window a (c ∷ rest) h =
    let here : slice_get cases a ≡ Some c = ap (slice_get cases) (let e : a ≡ a + 0 = omega arith in e) ∙ h 0 in
    ap (λ o. cond (option_map_or (is_met window) o false) (Some a) (find (is_met_at cases window) (range_with_len (a + 1) (length rest)))) here
    ∙ ap (cond (is_met window c) (Some a)) (find_all cases window (a + 1) rest (λ j. ap (slice_get cases) (let e : a + 1 + j ≡ a + suc j = omega arith in e) ∙ h (suc j)))

pub first_of_all : (cases : List ByteCase) (window : List ℕ) → first_among cases (range_with_len 0 (length cases)) window ≡ first_met cases window
first_of_all cases window = ap (option_map case_no) (find_all cases window 0 cases (λ j. ap (slice_get cases) (let e : 0 + j ≡ j = omega arith in e)))

range_end : (a n : ℕ) → range_with_len a (suc n) ≡ range_with_len a n ++ (a + n) ∷ []
range_end a zero = ap (λ (x : ℕ). x ∷ []) (let e : a ≡ a + 0 = omega arith in e)
range_end a (suc n) = ap (λ (xs : List ℕ). a ∷ xs) (range_end (a + 1) n ∙ ap (λ (x : ℕ). range_with_len (a + 1) n ++ x ∷ []) (let e : a + 1 + n ≡ a + suc n = omega arith in e))

pub range_next : (n : ℕ) → range_with_len 0 (n + 1) ≡ range_with_len 0 n ++ n ∷ []
range_next n = ap (range_with_len 0) (let e : n + 1 ≡ suc n = omega arith in e) ∙ range_end 0 n ∙ ap (λ (x : ℕ). range_with_len 0 n ++ x ∷ []) (let e : 0 + n ≡ n = omega arith in e)

pub range_below : (n : ℕ) → All (λ k. k < n) (range_with_len 0 n)
range_below n k d h = let l = length-range_with_len 0 n in let below : k < n = omega (arith, l, h) in rw (get_or-range_with_len 0 n k d below) (omega (arith, below))

known_below : (window : List ℕ) (start bound : ℕ) (cases : List ByteCase) → start + length cases ≤ bound → IfSome (option_map case_no (position_from (is_met window) start cases)) (λ number. number.0 < bound)
known_below window start bound [] h = tt
known_below window start bound (c ∷ rest) h = by (is_met window c) (known_below window (start + 1) bound rest (omega (arith, h)))
  where
    by : (b : Bool) → IfSome (option_map case_no (position_from (is_met window) (start + 1) rest)) (λ number. number.0 < bound)
        → IfSome (option_map case_no (cond b (Some start) (position_from (is_met window) (start + 1) rest))) (λ number. number.0 < bound)
    by true r = omega (arith, h)
    by false r = r

-- the first case met is one of the cases
pub first_known : (cases : List ByteCase) (window : List ℕ) → IfSome (first_met cases window) (λ number. number.0 < length cases)
first_known cases window = known_below window 0 (length cases) cases (omega arith)
