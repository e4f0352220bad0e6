-- What the cases of all arms tell, and the first of it.
use Rattle.std.proofs.Common.{◌≡◌, ℕ, zero, suc, ◌+◌, ◌<◌, ◌≤◌, Bool, true, false, cond, List, [], ◌∷◌, ◌++◌, map, filter, length, replicate, slice_get, Option, Some, None, refl, sym, ap, ◌∙◌, subst, append_assoc, length-append, arith}
use Rattle.std.specs.List.{position_from}
use Rattle.std.specs.Option.{option_map}
use Rattle.std.proofs.lemmas.List.{length-replicate, append-nil}
use Rattle.token_bits.specs.declared.tokens.Tokens.{Tokens}
use Rattle.sled_model.specs.declared.raw.Match.{Match}
use Rattle.sled_model.specs.declared.spec.Spec.{Spec}
use Rattle.sled_model.specs.declared.statement.Arm.{Arm}
use Rattle.sled_model.specs.declared.statement.Statement.{Statement}
use Rattle.sled_model.specs.Results.{arm_results}
use Rattle.sled_model.specs.First.{first, first_from, first_or}
use Rattle.bit_cases.specs.declared.byte_case.ByteCase.{ByteCase}
use Rattle.decision_tree.specs.declared.node.CaseNo.{CaseNo}
use Rattle.decision_tree.specs.Graph as graph
use Rattle.pattern_normal.specs.declared.case.Case.{Case}
use Rattle.pattern_normal.specs.Alternatives.{IsBytes}
use Rattle.pattern_normal.specs.Cases.{is_met, told, told_by_met, binds_and_len}
use Rattle.arm_matching.specs.Matcher.{Told, numbered, told_by_arm, told_by_arms, told_beside, bits_of, AreCasesOf, AreCasesOfArms}

-- ---- the arms

-- the first result, without the mark loose
pub first_is_told : (spec : Spec) (window : List ℕ) (k : ℕ) (arms : List Arm) → option_map numbered (first_from k spec arms window) ≡ slice_get (told_by_arms spec window k arms) 0
first_is_told spec window k [] = refl
first_is_told spec window k (arm ∷ arms) = by_results (arm_results spec arm window 0) (first_is_told spec window (k + 1) arms)
  where
    by_results : (found : List Match) → option_map numbered (first_from (k + 1) spec arms window) ≡ slice_get (told_by_arms spec window (k + 1) arms) 0
        → option_map numbered (first_or k found (first_from (k + 1) spec arms window)) ≡ slice_get (map (λ t. (k, t)) (map binds_and_len found) ++ told_by_arms spec window (k + 1) arms) 0
    by_results [] later = later
    by_results (a ∷ more) later = refl

-- one arm more
pub arms_pushed : (spec : Spec) (window : List ℕ) (k n : ℕ) (arms : List Arm) (arm : Arm) → n ≡ k + length arms
    → told_by_arms spec window k (arms ++ arm ∷ []) ≡ told_by_arms spec window k arms ++ map (λ t. (n, t)) (told_by_arm spec window arm)
arms_pushed spec window k n [] arm is =
    let same : k ≡ n = omega arith in ap (λ (j : ℕ). map (λ t. (j, t)) (told_by_arm spec window arm) ++ []) same ∙ append-nil (map (λ t. (n, t)) (told_by_arm spec window arm))
arms_pushed spec window k n (a ∷ arms) arm is =
    ap (λ rest. map (λ t. (k, t)) (told_by_arm spec window a) ++ rest) (arms_pushed spec window (k + 1) n arms arm (omega arith))
    ∙ sym (append_assoc (map (λ t. (k, t)) (told_by_arm spec window a)) (told_by_arms spec window (k + 1) arms) (map (λ t. (n, t)) (told_by_arm spec window arm)))

-- ---- the cases

module _ (tokens : Tokens) (window : List ℕ) where
  -- more cases behind those that have their numbers
  beside-append : (ks ls : List ℕ) (cs ds : List Case) → length ks ≡ length cs
      → told_beside tokens window (ks ++ ls) (cs ++ ds) ≡ told_beside tokens window ks cs ++ told_beside tokens window ls ds
  beside-append [] ls [] ds e = refl
  beside-append [] ls (c ∷ cs) ds e = absurd (omega arith)
  beside-append (k ∷ ks) ls [] ds e = absurd (omega arith)
  beside-append (k ∷ ks) ls (c ∷ cs) ds e = by_test (is_met window c) (beside-append ks ls cs ds (omega arith))
    where
      by_test : (b : Bool) → told_beside tokens window (ks ++ ls) (cs ++ ds) ≡ told_beside tokens window ks cs ++ told_beside tokens window ls ds
          → cond b ((k, told tokens window c) ∷ told_beside tokens window (ks ++ ls) (cs ++ ds)) (told_beside tokens window (ks ++ ls) (cs ++ ds))
          ≡ cond b ((k, told tokens window c) ∷ told_beside tokens window ks cs) (told_beside tokens window ks cs) ++ told_beside tokens window ls ds
      by_test true rest = ap (λ more. (k, told tokens window c) ∷ more) rest
      by_test false rest = rest

  -- cases of one arm
  beside-one : (k : ℕ) (cs : List Case) → told_beside tokens window (replicate (length cs) k) cs ≡ map (λ t. (k, t)) (told_by_met tokens window cs)
  beside-one k [] = refl
  beside-one k (c ∷ cs) = by_test (is_met window c) (beside-one k cs)
    where
      by_test : (b : Bool) → told_beside tokens window (replicate (length cs) k) cs ≡ map (λ t. (k, t)) (told_by_met tokens window cs)
          → cond b ((k, told tokens window c) ∷ told_beside tokens window (replicate (length cs) k) cs) (told_beside tokens window (replicate (length cs) k) cs)
          ≡ map (λ t. (k, t)) (map (told tokens window) (cond b (c ∷ filter (is_met window) cs) (filter (is_met window) cs)))
      by_test true rest = ap (λ more. (k, told tokens window c) ∷ more) rest
      by_test false rest = rest

  -- the first that is met is not before the first
  not_before : (i n : ℕ) (cs : List Case) → position_from (is_met window) i cs ≡ Some n → i ≤ n
  not_before i n [] e = absurd (cc)
  not_before i n (c ∷ cs) e = by_test (is_met window c) (not_before (i + 1) n cs) e
    where
      by_test : (b : Bool) → (position_from (is_met window) (i + 1) cs ≡ Some n → i + 1 ≤ n) → cond b (Some i) (position_from (is_met window) (i + 1) cs) ≡ Some n → i ≤ n
      by_test true further e = let same : i ≡ n = cc in omega arith
      by_test false further e = let later = further e in omega arith

  -- the first case that is met tells the first
  pub first_case : (i d : ℕ) (ks : List ℕ) (cs : List Case) (k : ℕ) (case : Case) → position_from (is_met window) i cs ≡ Some (i + d)
      → slice_get ks d ≡ Some k → slice_get cs d ≡ Some case → slice_get (told_beside tokens window ks cs) 0 ≡ Some (k, told tokens window case)
  first_case i d ks [] k case e number at = absurd (cc)
  first_case i d [] (c ∷ cs) k case e number at = absurd (cc)
  first_case i zero (j ∷ ks) (c ∷ cs) k case e number at = by_test (is_met window c) e
    where
      by_test : (b : Bool) → cond b (Some i) (position_from (is_met window) (i + 1) cs) ≡ Some (i + zero)
          → slice_get (cond b ((j, told tokens window c) ∷ told_beside tokens window ks cs) (told_beside tokens window ks cs)) 0 ≡ Some (k, told tokens window case)
      by_test true e = let one : j ≡ k = cc in let same : c ≡ case = cc in ap (λ (n : ℕ). Some (n, told tokens window c)) one ∙ ap (λ (x : Case). Some (k, told tokens window x)) same
      by_test false e = let later = not_before (i + 1) (i + zero) cs e in absurd (omega arith)
  first_case i (suc d) (j ∷ ks) (c ∷ cs) k case e number at = by_test (is_met window c) (λ h. first_case (i + 1) d ks cs k case h number at) e
    where
      by_test : (b : Bool) → (position_from (is_met window) (i + 1) cs ≡ Some ((i + 1) + d) → slice_get (told_beside tokens window ks cs) 0 ≡ Some (k, told tokens window case))
          → cond b (Some i) (position_from (is_met window) (i + 1) cs) ≡ Some (i + suc d)
          → slice_get (cond b ((j, told tokens window c) ∷ told_beside tokens window ks cs) (told_beside tokens window ks cs)) 0 ≡ Some (k, told tokens window case)
      by_test true further e = let same : i ≡ i + suc d = cc in absurd (omega arith)
      by_test false further e = let next : i + suc d ≡ (i + 1) + d = omega arith in further (e ∙ ap (λ (n : ℕ). Some n) next)

  -- where no case is met, nothing is told
  pub no_case : (i : ℕ) (ks : List ℕ) (cs : List Case) → position_from (is_met window) i cs ≡ None → told_beside tokens window ks cs ≡ []
  no_case i [] cs e = refl
  no_case i (k ∷ ks) [] e = refl
  no_case i (k ∷ ks) (c ∷ cs) e = by_test (is_met window c) (no_case (i + 1) ks cs) e
    where
      by_test : (b : Bool) → (position_from (is_met window) (i + 1) cs ≡ None → told_beside tokens window ks cs ≡ []) → cond b (Some i) (position_from (is_met window) (i + 1) cs) ≡ None
          → cond b ((k, told tokens window c) ∷ told_beside tokens window ks cs) (told_beside tokens window ks cs) ≡ []
      by_test true further e = absurd (cc)
      by_test false further e = further e

-- ---- both

-- the cases of no arm
pub no_arms : (spec : Spec) → AreCasesOfArms spec [] [] []
no_arms spec = record { beside = refl; told = λ window bytes. refl }

-- the cases of one arm more
pub cases_pushed : (spec : Spec) (arms : List Arm) (arm : Arm) (ks : List ℕ) (all cases : List Case) (n : ℕ) → n ≡ length arms → AreCasesOfArms spec arms ks all → AreCasesOf spec arm cases
    → AreCasesOfArms spec (arms ++ arm ∷ []) (ks ++ replicate (length cases) n) (all ++ cases)
cases_pushed spec arms arm ks all cases n is before one = record {
  beside = omega (arith, length-append ks (replicate (length cases) n), length-append all cases, length-replicate (length cases) n, before.beside);
  told = λ window bytes.
      beside-append spec.tokens window ks (replicate (length cases) n) all cases before.beside
      ∙ ap (λ first. first ++ told_beside spec.tokens window (replicate (length cases) n) cases) (before.told window bytes)
      ∙ ap (λ rest. told_by_arms spec window 0 arms ++ rest) (beside-one spec.tokens window n cases ∙ ap (map (λ t. (n, t))) (one window bytes))
      ∙ sym (arms_pushed spec window 0 n arms arm (omega arith));
}

-- the first result of the statement is the first that its cases tell
pub first_told : (spec : Spec) (statement : Statement) (ks : List ℕ) (cases : List Case) (window : List ℕ) → AreCasesOfArms spec statement.arms ks cases → IsBytes window
    → option_map numbered (first spec statement window) ≡ slice_get (told_beside spec.tokens window ks cases) 0
first_told spec statement ks cases window h bytes =
    first_is_told spec window 0 statement.arms ∙ ap (λ (ts : List (ℕ × Told)). slice_get ts 0) (sym (h.told window bytes))

-- the place of the first case is that of the first condition
pub same_place : (window : List ℕ) (i : ℕ) (cs : List Case) → position_from (graph.is_met window) i (map bits_of cs) ≡ position_from (is_met window) i cs
same_place window i [] = refl
same_place window i (c ∷ cs) = ap (λ later. cond (is_met window c) (Some i) later) (same_place window (i + 1) cs)

-- no condition is met, or the condition of this number is the first
module _ (window : List ℕ) (cs : List Case) (bits : List ByteCase) (same : bits ≡ map bits_of cs) where
  pub place_none : None ≡ graph.first_met bits window → None ≡ position_from (is_met window) 0 cs
  place_none e = unmapped (position_from (graph.is_met window) 0 bits) e ∙ ap (position_from (graph.is_met window) 0) same ∙ same_place window 0 cs
    where
      unmapped : (o : Option ℕ) → None ≡ option_map graph.case_no o → None ≡ o
      unmapped None e = refl
      unmapped (Some k) e = absurd (cc)

  pub place_some : (n : CaseNo) → Some n ≡ graph.first_met bits window → Some n.0 ≡ position_from (is_met window) 0 cs
  place_some n e = unmapped (position_from (graph.is_met window) 0 bits) e ∙ ap (position_from (graph.is_met window) 0) same ∙ same_place window 0 cs
    where
      unmapped : (o : Option ℕ) → Some n ≡ option_map graph.case_no o → Some n.0 ≡ o
      unmapped None e = absurd (cc)
      unmapped (Some k) e = let one : n ≡ graph.case_no k = cc in ap (λ (m : CaseNo). Some m.0) one

module _ (spec : Spec) (statement : Statement) (ks : List ℕ) (cases : List Case) (window : List ℕ) (h : AreCasesOfArms spec statement.arms ks cases) (bytes : IsBytes window) where
  -- no case is met
  pub none_first : None ≡ position_from (is_met window) 0 cases → None ≡ option_map numbered (first spec statement window)
  none_first e = sym (first_told spec statement ks cases window h bytes ∙ ap (λ (ts : List (ℕ × Told)). slice_get ts 0) (no_case spec.tokens window 0 ks cases (sym e)))

  -- the case at this place is the first
  pub some_first : (at k : ℕ) (case : Case) → Some at ≡ position_from (is_met window) 0 cases → slice_get ks at ≡ Some k → slice_get cases at ≡ Some case
      → Some (k, told spec.tokens window case) ≡ option_map numbered (first spec statement window)
  some_first at k case e number is =
      let whole : at ≡ 0 + at = omega arith in
      sym (first_told spec statement ks cases window h bytes ∙ first_case spec.tokens window 0 at ks cases k case (sym e ∙ ap (λ (n : ℕ). Some n) whole) number is)
