-- An arm has one verdict at most.
use Rattle.std.proofs.Common.{◌≡◌, ℕ, ◌<◌, List, length, refl, ap, ◌∙◌, arith, subst, ◌⊎◌, inl, inr}
use Rattle.std.proofs.lemmas.Bool.{cases_lt}
use Rattle.sled_model.specs.declared.spec.Spec.{Spec}
use Rattle.sled_model.specs.declared.statement.Arm.{Arm}
use Rattle.sled_model.specs.Encoding.{IsAtOrBefore}
use Rattle.sled_model.specs.Verdicts.{Verdict, Clear, Shadowed, Twofold, AreShared, AreTwofold, IsLeastWith, IsVerdict}
use Rattle.model_rows.specs.VerdictRows.{VerdictLaws}
use Rattle.model_rows.proofs.EncodingLaws.{antisymmetric}

one_least : (P : List ℕ → Type 0) (bytes others : List ℕ) → IsLeastWith P bytes → IsLeastWith P others → bytes ≡ others
one_least P bytes others h k = both_ways (h.least others k.has) (k.least bytes h.has)
  where
    both_ways : (length bytes < length others) ⊎ ((length bytes ≡ length others) × IsAtOrBefore bytes others) → (length others < length bytes) ⊎ ((length others ≡ length bytes) × IsAtOrBefore others bytes) → bytes ≡ others
    both_ways (inl a) (inl b) = absurd (omega (arith, a, b))
    both_ways (inl a) (inr b) = absurd (omega (arith, a, b.0))
    both_ways (inr a) (inl b) = absurd (omega (arith, a.0, b))
    both_ways (inr a) (inr b) = antisymmetric bytes others a.1 b.1

module _ (spec : Spec) (arms : List Arm) (k : ℕ) where
  same_shadow : (i j : ℕ) (bytes others : List ℕ) → IsVerdict spec arms k (Shadowed i bytes) → IsVerdict spec arms k (Shadowed j others) → i ≡ j → Shadowed i bytes ≡ Shadowed j others
  same_shadow i j bytes others v w e =
      let there = subst (λ i. IsLeastWith (AreShared spec arms i k) bytes) e v.1.1 in
      ap (λ n. Shadowed n bytes) e ∙ ap (Shadowed j) (one_least (AreShared spec arms j k) bytes others there w.1.1)

  one_verdict : (v w : Verdict) → IsVerdict spec arms k v → IsVerdict spec arms k w → v ≡ w
  one_verdict Clear Clear h g = refl
  one_verdict Clear (Shadowed j bytes) h g = absurd (h.0 j bytes g.0 g.1.1.has)
  one_verdict Clear (Twofold bytes) h g = absurd (h.1 bytes g.1.has)
  one_verdict (Shadowed j bytes) Clear h g = absurd (g.0 j bytes h.0 h.1.1.has)
  one_verdict (Shadowed i bytes) (Shadowed j others) h g =
      elim (cases_lt i j) [
        | inl l ↦ absurd (g.1.0 i bytes l h.1.1.has)
        | inr l ↦ elim (cases_lt j i) [ inl m ↦ absurd (h.1.0 j others m g.1.1.has) | inr m ↦ same_shadow i j bytes others h g (omega (arith, l, m)) ]
      ]
  one_verdict (Shadowed j bytes) (Twofold others) h g = absurd (g.0 j bytes h.0 h.1.1.has)
  one_verdict (Twofold bytes) Clear h g = absurd (g.1 bytes h.1.has)
  one_verdict (Twofold others) (Shadowed j bytes) h g = absurd (h.0 j bytes g.0 g.1.1.has)
  one_verdict (Twofold bytes) (Twofold others) h g = ap Twofold (one_least (AreTwofold spec arms k) bytes others h.1 g.1)

pub verdict_laws : VerdictLaws
verdict_laws = record { one_verdict = one_verdict }
