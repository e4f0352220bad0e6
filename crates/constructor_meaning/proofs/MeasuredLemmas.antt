-- What measures say of the bodies whose measures they are.
use Rattle.std.proofs.Common.{◌≡◌, ℕ, ◌<◌, min, Bool, true, false, List, [], ◌∷◌, ◌++◌, Some, None, refl, sym, ap, ◌∙◌, subst, arith}
use Rattle.std.specs.Prelude.{◌&&◌, nat_le, is_some, Option}
use Rattle.std.specs.List.{list_all}
use Rattle.std.proofs.lemmas.Bool.Decides.{nat_tests}
use Rattle.sled_model.specs.declared.constructor.OperandKind.{OperandKind}
use Rattle.sled_model.specs.declared.pattern.Pattern.{Pattern}
use Rattle.sled_model.specs.declared.spec.Spec.{Spec}
use Rattle.sled_model.specs.Measures.{capped}
use Rattle.sled_model.specs.Shapes.{ShapeContext, body_shapes, known_shapes, shapes, conjunctions_agree, chains_are_closed, are_closed, sides_have_one_shape, lengths_within}
use Rattle.pattern_shapes.proofs.FormLemmas.{closed_of_form, lengths_of_form}
use Rattle.type_tables.specs.declared.measures.Measures.{Measures}
use Rattle.type_tables.specs.Tables.{AreMeasures, body_weight, body_size}
use Rattle.constructor_meaning.specs.Conditions.{is_closed_body, is_small}
use Rattle.constructor_meaning.specs.Measured.{EachMeasured}
use Rattle.constructor_meaning.specs.Unmet.{first_unmet}

and_both : (a b c d : Bool) → a ≡ c → b ≡ d → (a && b) ≡ (c && d)
and_both a b c d p q = ap (λ t. t && b) p ∙ ap (λ t. c && t) q

within_capped : (n k : ℕ) → k < 1000000 → nat_le (min 1000000 n) k ≡ nat_le n k
within_capped n k h = by_test (nat_le n k) refl where
  by_test : (t : Bool) → nat_le n k ≡ t → nat_le (min 1000000 n) k ≡ t
  by_test true e = grind (arith, nat_tests)
  by_test false e = grind (arith, nat_tests)

module _ (spec : Spec) (ks : List OperandKind) where
  abbrev cx : ShapeContext
  cx = body_shapes spec.tokens (known_shapes spec) ks

  -- a body more
  pub measured_push : (ps : List Pattern) (ms : List Measures) (p : Pattern) (m : Measures) → EachMeasured spec ks ps ms → AreMeasures spec ks p m → EachMeasured spec ks (ps ++ p ∷ []) (ms ++ m ∷ [])
  measured_push [] [] p m h is = (is, tt)
  measured_push [] (n ∷ ms) p m h is = absurd h
  measured_push (q ∷ ps) [] p m h is = absurd h
  measured_push (q ∷ ps) (n ∷ ms) p m h is = (h.0, measured_push ps ms p m h.1 is)

  -- what is true of the measures of each is true of each
  every : (t : Measures → Bool) (u : Pattern → Bool) → ((p : Pattern) (m : Measures) → AreMeasures spec ks p m → t m ≡ u p) → (ps : List Pattern) (ms : List Measures) → EachMeasured spec ks ps ms
      → list_all t ms ≡ list_all u ps
  every t u same [] [] h = refl
  every t u same [] (n ∷ ms) h = absurd h
  every t u same (q ∷ ps) [] h = absurd h
  every t u same (q ∷ ps) (n ∷ ms) h = and_both (t n) (list_all t ms) (u q) (list_all u ps) (same q n h.0) (every t u same ps ms h.1)

  module _ (ps : List Pattern) (ms : List Measures) (h : EachMeasured spec ks ps ms) where
    agree_are : list_all (λ (m : Measures). m.form.agree) ms ≡ list_all (conjunctions_agree cx) ps
    agree_are = every (λ m. m.form.agree) (conjunctions_agree cx) (λ p m are. are.form.agree) ps ms h

    closed_are : list_all (λ (m : Measures). m.form.closed && are_closed m.form.shapes) ms ≡ list_all (is_closed_body cx) ps
    closed_are =
        every (λ m. m.form.closed && are_closed m.form.shapes) (is_closed_body cx)
        (λ p m are. and_both m.form.closed (are_closed m.form.shapes) (chains_are_closed cx p) (are_closed (shapes cx p)) are.form.closed (closed_of_form cx p m.form are.form)) ps ms h

    alike_are : list_all (λ (m : Measures). m.form.alike) ms ≡ list_all (sides_have_one_shape cx) ps
    alike_are = every (λ m. m.form.alike) (sides_have_one_shape cx) (λ p m are. are.form.alike) ps ms h

    lengths_are : (least : ℕ) → list_all (λ (m : Measures). lengths_within least 32 spec.tokens m.form.shapes) ms ≡ list_all (λ p. lengths_within least 32 spec.tokens (shapes cx p)) ps
    lengths_are least =
        every (λ m. lengths_within least 32 spec.tokens m.form.shapes) (λ p. lengths_within least 32 spec.tokens (shapes cx p))
        (λ p m are. lengths_of_form least 32 spec.tokens cx p m.form are.form) ps ms h

    small_are : list_all (λ (m : Measures). nat_le m.weight 4096 && nat_le m.size 256) ms ≡ list_all (is_small spec ks) ps
    small_are =
        every (λ m. nat_le m.weight 4096 && nat_le m.size 256) (is_small spec ks)
        (λ p m are. and_both (nat_le m.weight 4096) (nat_le m.size 256) (nat_le (body_weight spec ks p) 4096) (nat_le (body_size spec ks p) 256)
        (ap (λ n. nat_le n 4096) are.weight ∙ within_capped (body_weight spec ks p) 4096 (omega arith))
        (ap (λ n. nat_le n 256) are.size ∙ within_capped (body_size spec ks p) 256 (omega arith))) ps ms h

    -- what is unmet of the measures is unmet of the bodies
    pub forms_are : (found : Option ℕ) (free free' once once' : Bool) → free ≡ free' → once ≡ once'
        → found ≡ first_unmet ((6, list_all (λ (m : Measures). m.form.agree) ms) ∷ (7, list_all (λ (m : Measures). m.form.closed && are_closed m.form.shapes) ms) ∷ (8, free && list_all (λ (m : Measures). m.form.alike) ms) ∷ (9, once) ∷ [])
        → found ≡ first_unmet ((6, list_all (conjunctions_agree cx) ps) ∷ (7, list_all (is_closed_body cx) ps) ∷ (8, free' && list_all (sides_have_one_shape cx) ps) ∷ (9, once') ∷ [])
    forms_are found free free' once once' same same_once is =
        is ∙ ap (λ t. first_unmet ((6, t) ∷ (7, list_all (λ (m : Measures). m.form.closed && are_closed m.form.shapes) ms) ∷ (8, free && list_all (λ (m : Measures). m.form.alike) ms) ∷ (9, once) ∷ [])) agree_are
        ∙ ap (λ t. first_unmet ((6, list_all (conjunctions_agree cx) ps) ∷ (7, t) ∷ (8, free && list_all (λ (m : Measures). m.form.alike) ms) ∷ (9, once) ∷ [])) closed_are
        ∙ ap (λ t. first_unmet ((6, list_all (conjunctions_agree cx) ps) ∷ (7, list_all (is_closed_body cx) ps) ∷ (8, t) ∷ (9, once) ∷ []))
        (and_both free (list_all (λ (m : Measures). m.form.alike) ms) free' (list_all (sides_have_one_shape cx) ps) same alike_are)
        ∙ ap (λ t. first_unmet ((6, list_all (conjunctions_agree cx) ps) ∷ (7, list_all (is_closed_body cx) ps) ∷ (8, free' && list_all (sides_have_one_shape cx) ps) ∷ (9, t) ∷ [])) same_once

    pub measures_are : (found : Option ℕ) (least least' : ℕ) → least ≡ least'
        → found ≡ first_unmet ((14, list_all (λ (m : Measures). lengths_within least 32 spec.tokens m.form.shapes) ms) ∷ (15, list_all (λ (m : Measures). nat_le m.weight 4096 && nat_le m.size 256) ms) ∷ [])
        → found ≡ first_unmet ((14, list_all (λ p. lengths_within least' 32 spec.tokens (shapes cx p)) ps) ∷ (15, list_all (is_small spec ks) ps) ∷ [])
    measures_are found least least' same is =
        is ∙ ap (λ n. first_unmet ((14, list_all (λ (m : Measures). lengths_within n 32 spec.tokens m.form.shapes) ms) ∷ (15, list_all (λ (m : Measures). nat_le m.weight 4096 && nat_le m.size 256) ms) ∷ [])) same
        ∙ ap (λ t. first_unmet ((14, t) ∷ (15, list_all (λ (m : Measures). nat_le m.weight 4096 && nat_le m.size 256) ms) ∷ [])) (lengths_are least')
        ∙ ap (λ t. first_unmet ((14, list_all (λ p. lengths_within least' 32 spec.tokens (shapes cx p)) ps) ∷ (15, t) ∷ [])) small_are
