-- What cases tell, and what the alternatives that they come from say.
use Rattle.std.proofs.Common.{◌≡◌, ℕ, ◌+◌, ◌≤◌, ◌^◌, inl, inr, true, false, cond, List, [], ◌∷◌, length, map, filter, refl, sym, ap, ◌∙◌, All, arith}
use Rattle.std.proofs.lemmas.List.{length-map}
use Rattle.std.proofs.lemmas.List.Elements.{All-map, All-weaker}
use Rattle.token_bits.specs.declared.tokens.Tokens.{Tokens}
use Rattle.sled_model.specs.declared.raw.Match.{Match}
use Rattle.sled_model.specs.declared.spec.Spec.{Spec}
use Rattle.sled_model.specs.declared.pattern.Pattern.{Pattern}
use Rattle.sled_model.specs.Results.{results, alone, arm_context}
use Rattle.sled_model.specs.declared.constructor.OperandKind.{OperandKind}
use Rattle.sled_model.specs.declared.constructor.Constructor.{Constructor}
use Rattle.sled_model.specs.Measures.{each_from, measured, operand_weight, operand_len, pattern_len}
use Rattle.pattern_normal.specs.declared.alternative.Alternative.{Alternative}
use Rattle.pattern_normal.specs.declared.case.Case.{Case}
use Rattle.pattern_normal.specs.Alone.{lone_weight, lone_len}
use Rattle.pattern_normal.specs.Surroundings.{Surroundings, context_of, open_weights, open_weight, lens_of, len_in}
use Rattle.pattern_normal.specs.Arms.{NamesFew, in_arm, open_pattern_weight}
use Rattle.pattern_normal.specs.Alternatives.{IsBytes, is_met, seen, shown, ended, IsBetween, StandForPattern}
use Rattle.pattern_normal.specs.Cases.{told, told_by_met, binds_and_len, case_of, is_met as case_met}
use Rattle.pattern_normal.proofs.Alone.{same_weight, same_len, same_results}

told_shown : (tokens : Tokens) (w : List ℕ) (cs : List Alternative) → told_by_met tokens w (map case_of cs) ≡ map binds_and_len (shown tokens w cs)
told_shown tokens w [] = refl
told_shown tokens w (c ∷ cs) =
    let rest = filter (case_met w) (map case_of cs) in let met = filter (is_met w) cs in
    elim (is_met w c) as (λ t. map (told tokens w) (cond t (case_of c ∷ rest) rest) ≡ map binds_and_len (map (seen tokens w) (cond t (c ∷ met) met)))
    [ true ↦ ap (λ z. told tokens w (case_of c) ∷ z) (told_shown tokens w cs) | false ↦ told_shown tokens w cs ]

from_start : (xs : List Match) → map binds_and_len (map (ended 0) xs) ≡ map binds_and_len xs
from_start [] = refl
from_start (x ∷ xs) = let e : 0 + x.len ≡ x.len = omega arith in ap (λ n. (x.binds, n) ∷ map binds_and_len (map (ended 0) xs)) e ∙ ap (λ z. binds_and_len x ∷ z) (from_start xs)

-- ---- what an arm's pattern stands among, and what stands for it where the pattern names few constructors

module _ (spec : Spec) (p : Pattern) (near : Surroundings) (tokens_same : near.tokens ≡ spec.tokens) (kinds_none : near.kinds ≡ [])
    (all : length spec.constructors ≤ 2 ^ 32 → near.constructors ≡ spec.constructors) where
  whole : length spec.constructors ≤ 2 ^ 32 → near ≡ in_arm spec
  whole few =
      let f = λ (t : Tokens) (cs : List Constructor) (ks : List OperandKind). (let r : Surroundings = record { tokens = t; constructors = cs; kinds = ks } in r) in
      ap (λ t. f t near.constructors near.kinds) tokens_same ∙ ap (λ cs. f spec.tokens cs near.kinds) (all few) ∙ ap (f spec.tokens spec.constructors) kinds_none

  meaning_same : NamesFew spec p → (w : List ℕ) (i : ℕ) → results (context_of near) p w i ≡ results (arm_context spec) p w i
  meaning_same (inl plain) w i =
      same_results (context_of near) p plain w i ∙ ap (λ t. results (alone t) p w i) tokens_same ∙ sym (same_results (arm_context spec) p plain w i)
  meaning_same (inr few) w i = ap (λ s. results (context_of s) p w i) (whole few)

  len_same : NamesFew spec p → len_in near p ≡ pattern_len spec p
  len_same (inl plain) =
      same_len near.tokens (lens_of near.tokens near.constructors) (operand_len (lens_of near.tokens near.constructors) near.kinds) p plain
      ∙ ap (λ t. lone_len t p) tokens_same ∙ sym (same_len spec.tokens (each_from (measured spec.tokens) [] spec.constructors) (λ k. 0) p plain)
  len_same (inr few) = ap (λ s. len_in s p) (whole few)

  weight_same : NamesFew spec p → open_weight near p ≡ open_pattern_weight spec p
  weight_same (inl plain) =
      same_weight near.tokens (open_weights near.tokens near.constructors) (operand_weight (open_weights near.tokens near.constructors) near.kinds) p plain
      ∙ ap (λ t. lone_weight t p) tokens_same
      ∙ sym (same_weight spec.tokens (open_weights spec.tokens spec.constructors) (operand_weight (open_weights spec.tokens spec.constructors) []) p plain)
  weight_same (inr few) = ap (λ s. open_weight s p) (whole few)

  module _ (named : NamesFew spec p) (cs : List Alternative) (stands : StandForPattern near p 0 cs) where
    pub cases_tell : pattern_len spec p ≤ 32 → (w : List ℕ) → IsBytes w → told_by_met spec.tokens w (map case_of cs) ≡ map binds_and_len (results (arm_context spec) p w 0)
    cases_tell fits w bytes =
        let long = len_same named in
        ap (λ t. told_by_met t w (map case_of cs)) (sym tokens_same) ∙ told_shown near.tokens w cs
        ∙ ap (map binds_and_len) (stands.covers (omega (arith, long, fits)) w bytes (omega arith))
        ∙ from_start (results (context_of near) p w 0) ∙ ap (map binds_and_len) (meaning_same named w 0)

    pub cases_end : All (λ (c : Case). c.bits.len ≤ pattern_len spec p) (map case_of cs)
    cases_end =
        let long = len_same named in
        All-map (λ (c : Case). c.bits.len ≤ pattern_len spec p) case_of cs
        (All-weaker (IsBetween 0 (0 + len_in near p)) (λ (a : Alternative). a.bits.len ≤ pattern_len spec p) (λ a b. omega (arith, long, b.1)) cs stands.ends)

    pub cases_few : length (map case_of cs) ≤ open_pattern_weight spec p
    cases_few = let e = weight_same named in rw (length-map cs case_of) (omega (arith, stands.count, e))
