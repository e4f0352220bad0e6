-- Equations hold alike where operands and labels have the same values.
use Rattle.std.proofs.Common.{ℕ, ◌≡◌, ◌<◌, List, [], ◌∷◌, length, All, ℤ, ◌+ℤ◌, ◌*ℤ◌, refl, sym, ap, ◌∙◌}
use Rattle.std.proofs.lemmas.List.Elements.{All-nil, All-cons, All-head, All-tail}
use Rattle.token_bits.specs.declared.tokens.Tokens.{Tokens}
use Rattle.sled_model.specs.declared.constructor.Atom.{Atom}
use Rattle.sled_model.specs.declared.constructor.Atom.TheVariants.{Name, Field, Signed, Slice, Label}
use Rattle.sled_model.specs.declared.constructor.Term.{Term}
use Rattle.sled_model.specs.declared.constructor.Equation.{Equation}
use Rattle.sled_model.specs.declared.constructor.Constructor.{Constructor}
use Rattle.sled_model.specs.Equations.{slice_of, atom_value, sum_of, IsSatisfied, EachSatisfied}
use Rattle.sled_model.specs.Linear.{labels_in, IsAtomOf, IsTermOf, IsEquationOf}
use Rattle.sled_model.specs.Solutions.{setting_of}

module _ (tokens : Tokens) (c : Constructor) (w u labels places v : ℕ → ℤ) (same : (k : ℕ) → w k ≡ u k) (alike : (l : ℕ) → l < length (labels_in c.body) → labels l ≡ places l) where
  atom_same : (a : Atom) → IsAtomOf c a → atom_value (setting_of tokens w labels) v a ≡ atom_value (setting_of tokens u places) v a
  atom_same (Name k) h = same k
  atom_same (Field f) h = refl
  atom_same (Signed f) h = refl
  atom_same (Slice k lo hi) h = ap (slice_of lo hi) (same k)
  atom_same (Label l) h = alike l h

  sum_same : (ts : List Term) → All (IsTermOf c) ts → sum_of (setting_of tokens w labels) v ts ≡ sum_of (setting_of tokens u places) v ts
  sum_same [] h = refl
  sum_same (t ∷ ts) h =
      ap (λ x. (t.coefficient *ℤ x) +ℤ sum_of (setting_of tokens w labels) v ts) (atom_same t.atom (All-head (IsTermOf c) t ts h).atom)
      ∙ ap (λ s. (t.coefficient *ℤ atom_value (setting_of tokens u places) v t.atom) +ℤ s) (sum_same ts (All-tail (IsTermOf c) t ts h))

  pub satisfied_same : (es : List Equation) → All (IsEquationOf c) es → EachSatisfied (setting_of tokens w labels) v es → EachSatisfied (setting_of tokens u places) v es
  satisfied_same [] h s = All-nil (IsSatisfied (setting_of tokens u places) v)
  satisfied_same (e ∷ es) h s =
      All-cons (IsSatisfied (setting_of tokens u places) v) e es
      (ap (λ x. x +ℤ e.rest) (sym (sum_same e.terms (All-head (IsEquationOf c) e es h).terms)) ∙ All-head (IsSatisfied (setting_of tokens w labels) v) e es s)
      (satisfied_same es (All-tail (IsEquationOf c) e es h) (All-tail (IsSatisfied (setting_of tokens w labels) v) e es s))
