-- What one field gives a sum.
use Rattle.std.proofs.Common.{ℕ, ◌≡◌, ◌≢◌, ◌==◌, Bool, true, false, ◌⊎◌, inl, inr, List, [], ◌∷◌, ℤ, pos, ◌+ℤ◌, ◌*ℤ◌, refl, ap, sym, ◌∙◌, arith, if◌then◌else◌}
use Rattle.std.proofs.lemmas.Int.{ints}
use Rattle.std.proofs.lemmas.Bool.Decides.{nat_tests}
use Rattle.std.proofs.Math.IntN.{*ℤ-zero}
use Rattle.sled_model.specs.declared.constructor.Atom.{Atom}
use Rattle.sled_model.specs.declared.constructor.Atom.TheVariants.{Name, Field, Signed, Slice, Label}
use Rattle.sled_model.specs.declared.constructor.Term.{Term}
use Rattle.sled_model.specs.Equations.{Setting, sign_extended, atom_value, sum_of}
use Rattle.eq_solver.specs.Order.{is_open, part_of, share, IsOpenAtMost, AreOpenAtMost, IsClosed, AreClosed, Agree}

pub eq_self : (f : ℕ) → (f == f) ≡ true
eq_self f = grind (arith, nat_tests)

pub not_self : (g f : ℕ) → g ≢ f → (g == f) ≡ false
not_self g f h = grind (arith, nat_tests)

-- an atom's value is its part of f, or the same for both
pub data Parted (a p b q : ℤ) : Type 0 where
  alone : a ≡ p → b ≡ q → Parted a p b q
  apart : a ≡ b → p ≡ pos 0 → q ≡ pos 0 → Parted a p b q

field_parted : (left : List Bool) (u v : ℕ → ℤ) (f g : ℕ) → Agree left u v → (is_open left g ≡ false) ⊎ (g ≡ f) → (b : Bool) → (g == f) ≡ b
    → Parted (u g) (if b then u f else pos 0) (v g) (if b then v f else pos 0)
field_parted left u v f g agree h true e = let same : g ≡ f = grind (arith, nat_tests) in alone (ap u same) (ap v same)
field_parted left u v f g agree (inl closed) false e = apart (agree g closed) refl refl
field_parted left u v f g agree (inr same) false e = cc (sym (eq_self f))

signed_parted : (w : Setting) (left : List Bool) (u v : ℕ → ℤ) (f g : ℕ) → Agree left u v → (is_open left g ≡ false) ⊎ (g ≡ f) → (b : Bool) → (g == f) ≡ b
    → Parted (sign_extended (w.halves g) (u g)) (if b then sign_extended (w.halves f) (u f) else pos 0) (sign_extended (w.halves g) (v g)) (if b then sign_extended (w.halves f) (v f) else pos 0)
signed_parted w left u v f g agree h true e = let same : g ≡ f = grind (arith, nat_tests) in alone (ap (λ k. sign_extended (w.halves k) (u k)) same) (ap (λ k. sign_extended (w.halves k) (v k)) same)
signed_parted w left u v f g agree (inl closed) false e = apart (ap (sign_extended (w.halves g)) (agree g closed)) refl refl
signed_parted w left u v f g agree (inr same) false e = cc (sym (eq_self f))

parted : (w : Setting) (left : List Bool) (u v : ℕ → ℤ) (f : ℕ) → Agree left u v → (a : Atom) → IsOpenAtMost left f a
    → Parted (atom_value w u a) (part_of (w.halves f) f (u f) a) (atom_value w v a) (part_of (w.halves f) f (v f) a)
parted w left u v f agree (Field g) h = field_parted left u v f g.0 agree h (g.0 == f) refl
parted w left u v f agree (Signed g) h = signed_parted w left u v f g.0 agree h (g.0 == f) refl
parted w left u v f agree (Name k) h = apart refl refl refl
parted w left u v f agree (Slice k lo hi) h = apart refl refl refl
parted w left u v f agree (Label k) h = apart refl refl refl

pub add_parted : (c a p b q s x r y : ℤ) → Parted a p b q → s +ℤ y ≡ r +ℤ x → ((c *ℤ a) +ℤ s) +ℤ ((c *ℤ q) +ℤ y) ≡ ((c *ℤ b) +ℤ r) +ℤ ((c *ℤ p) +ℤ x)
add_parted c a p b q s x r y (alone e d) h =
    let e' = ap (λ k. c *ℤ k) e in let d' = ap (λ k. c *ℤ k) d in regroup (c *ℤ a) (c *ℤ p) (c *ℤ b) (c *ℤ q) s x r y e' d' h
  where
    regroup : (a p b q s x r y : ℤ) → a ≡ p → b ≡ q → s +ℤ y ≡ r +ℤ x → (a +ℤ s) +ℤ (q +ℤ y) ≡ (b +ℤ r) +ℤ (p +ℤ x)
    regroup a p b q s x r y e d h = omega (arith, ints)
add_parted c a p b q s x r y (apart e m n) h =
    let e' = ap (λ k. c *ℤ k) e in let m' = ap (λ k. c *ℤ k) m ∙ *ℤ-zero c in let n' = ap (λ k. c *ℤ k) n ∙ *ℤ-zero c in regroup (c *ℤ a) (c *ℤ p) (c *ℤ b) (c *ℤ q) s x r y e' m' n' h
  where
    regroup : (a p b q s x r y : ℤ) → a ≡ b → p ≡ pos 0 → q ≡ pos 0 → s +ℤ y ≡ r +ℤ x → (a +ℤ s) +ℤ (q +ℤ y) ≡ (b +ℤ r) +ℤ (p +ℤ x)
    regroup a p b q s x r y e m n h = omega (arith, ints)

-- two valuations that agree but for what is open, where f alone is open: the sums differ by the shares of f
pub split : (w : Setting) (left : List Bool) (u v : ℕ → ℤ) (f : ℕ) → Agree left u v → (ts : List Term) → AreOpenAtMost left f ts
    → sum_of w u ts +ℤ share (w.halves f) f (v f) ts ≡ sum_of w v ts +ℤ share (w.halves f) f (u f) ts
split w left u v f agree [] h = refl
split w left u v f agree (t ∷ ts) h =
    add_parted t.coefficient _ _ _ _ _ _ _ _ (parted w left u v f agree t.atom h.0) (split w left u v f agree ts h.1)

same_atom : (w : Setting) (left : List Bool) (u v : ℕ → ℤ) → Agree left u v → (a : Atom) → IsClosed left a → atom_value w u a ≡ atom_value w v a
same_atom w left u v agree (Field g) h = agree g.0 h
same_atom w left u v agree (Signed g) h = ap (sign_extended (w.halves g.0)) (agree g.0 h)
same_atom w left u v agree (Name k) h = refl
same_atom w left u v agree (Slice k lo hi) h = refl
same_atom w left u v agree (Label k) h = refl

-- where nothing of the sum is open it is the same
pub same_sum : (w : Setting) (left : List Bool) (u v : ℕ → ℤ) → Agree left u v → (ts : List Term) → AreClosed left ts → sum_of w u ts ≡ sum_of w v ts
same_sum w left u v agree [] h = refl
same_sum w left u v agree (t ∷ ts) h =
    let e = same_atom w left u v agree t.atom h.0 in let d = same_sum w left u v agree ts h.1 in
    ap (λ a. (t.coefficient *ℤ a) +ℤ sum_of w u ts) e ∙ ap (λ s. (t.coefficient *ℤ atom_value w v t.atom) +ℤ s) d
