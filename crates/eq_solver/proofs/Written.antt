-- Operands written one after the other.
use Rattle.std.proofs.Common.{ℕ, suc, ◌+◌, ◌≡◌, ◌<◌, ◌≤◌, inl, inr, List, [], ◌∷◌, length, slice_get, Some, Option, All, ℤ, ◌+ℤ◌, ◌*ℤ◌, refl, ap, sym, ◌∙◌, arith, subst}
use Rattle.std.proofs.lemmas.Bool.{cases_eq}
use Rattle.std.proofs.lemmas.Option.{slice_get_within, get_or_from_slice_get}
use Rattle.sled_model.specs.declared.constructor.Term.{Term}
use Rattle.sled_model.specs.declared.constructor.Atom.{Atom}
use Rattle.sled_model.specs.declared.constructor.Atom.TheVariants.{Name, Field, Signed, Slice, Label}
use Rattle.eq_solver.specs.declared.plan.Value.{Value}
use Rattle.sled_model.specs.declared.constructor.Equation.{Equation}
use Rattle.sled_model.specs.Equations.{Setting, sum_of, atom_value}
use Rattle.eq_solver.specs.Sums.{setting_from, at, IsTerm, IsAtom}
use Rattle.eq_solver.specs.Isolated.{Gives}
use Rattle.eq_solver.specs.Given.{HasValue, AreApart}

same_some : (o : Option Value) (g h : Value) → o ≡ Some g → o ≡ Some h → g ≡ h
same_some o g h p q = cc

pub written : (w : Setting) (v : ℕ → ℤ) (gs : List Value) (i : ℕ) (x : Value) (u u' : ℕ → ℤ) → ((j : ℕ) (g : Value) → j < i → slice_get gs j ≡ Some g → HasValue w v u g) → AreApart gs → slice_get gs i ≡ Some x → HasValue w v u' x
    → ((k : ℕ) → (x.target ≡ Name k → ⊥) → u' k ≡ u k) → (j : ℕ) (g : Value) → j < i + 1 → slice_get gs j ≡ Some g → HasValue w v u' g
written w v gs i x u u' p a s h k j g l t n e = elim (cases_eq j i) [
  | inl q ↦ let r = same_some (slice_get gs i) x g s (sym (ap (slice_get gs) q) ∙ t) in subst (HasValue w v u') r h n e
  | inr d ↦ let m : j < i = below j i d l in k n (λ f. d (a j i n g x t s e f)) ∙ p j g m t n e
]
  where
    below : (j i : ℕ) → (j ≡ i → ⊥) → j < i + 1 → j < i
    below j i d l = omega arith
