-- Field operands, one after the other.
use Rattle.std.proofs.Common.{ℕ, ◌+◌, ◌≡◌, ◌≢◌, ◌<◌, ◌≤◌, ◌⊎◌, inl, inr, List, [], length, slice_get, Some, ℤ, pos, refl, ap, sym, ◌∙◌, arith, subst}
use Rattle.std.proofs.lemmas.Bool.{cases_eq}
use Rattle.sled_model.specs.Equations.{sign_extended}
use Rattle.eq_solver.specs.declared.plan.Source.{Source}
use Rattle.eq_solver.specs.declared.plan.Source.TheVariants.{Hidden, Plain, Extended}
use Rattle.eq_solver.specs.Pieces.{Piece}
use Rattle.eq_solver.specs.declared.plan.Value.{Value}
use Rattle.eq_solver.specs.Pieces.{IsChain, assembled}
use Rattle.eq_solver.specs.Sums.{at, setting_from}
use Rattle.eq_solver.specs.Plans.{FitsSource, source_at}
use Rattle.eq_solver.specs.Given.{HasValue, pieces_of, IsMadeOf}
use Rattle.eq_solver.specs.Operands.{IsOperandOf, AreSourcesApart, IsNoField, IsNoWhole, AreWritable, AreWritten}

-- a field's operand is as before, so it still fits
pub still_fits : (half x : ℤ) (u u' : ℕ → ℤ) (source : Source) → ((k : ℕ) → IsOperandOf source k → u' k ≡ u k) → FitsSource half u x source → FitsSource half u' x source
still_fits half x u u' Hidden h f = tt
still_fits half x u u' (Plain k) h f = f ∙ sym (h k refl)
still_fits half x u u' (Extended k) h f = f ∙ sym (h k refl)

pub fields_more : (halves fields : List ℤ) (sources : List Source) (i : ℕ) (source : Source) (half x : ℤ) (u u' : ℕ → ℤ) → AreSourcesApart sources → i < length sources → source ≡ source_at sources i → half ≡ at halves i → x ≡ at fields i
    → ((f : ℕ) → f < i → FitsSource (at halves f) u (at fields f) (source_at sources f)) → FitsSource half u' x source → ((k : ℕ) → (IsOperandOf source k → ⊥) → u' k ≡ u k)
    → (f : ℕ) → f < i + 1 → FitsSource (at halves f) u' (at fields f) (source_at sources f)
fields_more halves fields sources i source half x u u' apart l s h v fits new kept f m = elim (cases_eq f i) [
  | inl e ↦ let P : ℕ → Type 0 = λ j. FitsSource (at halves j) u' (at fields j) (source_at sources j) in
      subst P (sym e) (subst (FitsSource (at halves i) u' (at fields i)) s (subst (λ y. FitsSource (at halves i) u' y source) v (subst (λ y. FitsSource y u' x source) h new)))
  | inr n ↦ let below : f < i = less f n m in
      still_fits (at halves f) (at fields f) u u' (source_at sources f)
      (λ k o. kept k (λ p. n (apart f i k (lower f below) l o (subst (λ z. IsOperandOf z k) s p)))) (fits f below)
]
  where
    less : (f : ℕ) → f ≢ i → f < i + 1 → f < i
    less f n m = omega arith

    lower : (f : ℕ) → f < i → f < length sources
    lower f b = omega arith

no_chain : (ps : List Piece) → ps ≡ [] → IsChain 32 ps → ⊥
no_chain ps e c = let z : ◌≡◌ {A = ℕ} 32 0 = subst (IsChain 32) e c in absurd (omega arith)

module _ (halves labels fields : List ℤ) (sources : List Source) (values : List Value) (slices : List ℕ) (n : ℕ) (w : AreWritable halves labels fields sources values slices n)
    (a b c d : ℕ → ℤ) (cleared : (k : ℕ) → a k ≡ pos 0)
    (fits : (f : ℕ) → f < length sources → FitsSource (at halves f) b (at fields f) (source_at sources f)) (kept : (k : ℕ) → IsNoField sources k → b k ≡ a k)
    (has : (j : ℕ) (g : Value) → slice_get values j ≡ Some g → HasValue (setting_from halves [] labels) (at fields) c g) (kept' : (k : ℕ) → IsNoWhole values k → c k ≡ b k)
    (made : (k : ℕ) → IsMadeOf (pieces_of (setting_from halves [] labels) (at fields) values k slices) (c k) (d k)) where
  unsliced : (k : ℕ) → (IsNoField sources k → IsNoWhole values k → ⊥) → d k ≡ c k
  unsliced k h = elim (w.chains k) [
    | inl e ↦ elim (made k) [ inl m ↦ m.1 | inr m ↦ absurd (no_chain _ e m.1) ]
    | inr s ↦ absurd (h s.1 s.2)
  ]

  pub zero_before : (k : ℕ) → (pieces_of (setting_from halves [] labels) (at fields) values k slices ≡ []) ⊎ ((c k ≡ pos 0) × IsChain 32 (pieces_of (setting_from halves [] labels) (at fields) values k slices))
  zero_before k = elim (w.chains k) [ inl e ↦ inl e | inr s ↦ inr (kept' k s.2 ∙ kept k s.1 ∙ cleared k, s.0) ]

  pub fields_stay : (f : ℕ) → f < length sources → FitsSource (at halves f) d (at fields f) (source_at sources f)
  fields_stay f l = still_fits (at halves f) (at fields f) b d (source_at sources f) (λ k o. unsliced k (λ p q. p f l o) ∙ kept' k (w.fields_only f k l o)) (fits f l)

  pub wholes_stay : (j : ℕ) (g : Value) → slice_get values j ≡ Some g → HasValue (setting_from halves [] labels) (at fields) d g
  wholes_stay j g s k e = unsliced k (λ p q. q j g s e) ∙ has j g s k e

  pub slices_made : (k : ℕ) → IsChain 32 (pieces_of (setting_from halves [] labels) (at fields) values k slices) → d k ≡ pos (assembled 0 (pieces_of (setting_from halves [] labels) (at fields) values k slices))
  slices_made k h = elim (made k) [ inl m ↦ absurd (no_chain _ m.0 h) | inr m ↦ m.2 ]

  pub nothing_written : (k : ℕ) → IsNoField sources k → IsNoWhole values k → pieces_of (setting_from halves [] labels) (at fields) values k slices ≡ [] → d k ≡ pos 0
  nothing_written k p q e = elim (made k) [ inl m ↦ m.1 ∙ kept' k q ∙ kept k p ∙ cleared k | inr m ↦ absurd (no_chain _ e m.1) ]
