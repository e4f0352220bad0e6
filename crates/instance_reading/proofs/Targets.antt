-- The value that an equation gives its target, from the values of fields and labels alone.
use Rattle.std.proofs.Common.{ℕ, ◌≡◌, ◌⊎◌, inl, inr, Bool, true, false, not, cond, List, [], ◌∷◌, filter, ℤ, pos, ◌+ℤ◌, ◌-ℤ◌, ◌*ℤ◌, refl, sym, ap, ◌∙◌, subst, arith}
use Rattle.std.proofs.lemmas.Int.{ints}
use Rattle.token_bits.specs.declared.tokens.Tokens.{Tokens}
use Rattle.sled_model.specs.declared.constructor.Atom.{Atom}
use Rattle.sled_model.specs.declared.constructor.Atom.TheVariants.{Name, Field, Signed, Slice, Label}
use Rattle.sled_model.specs.declared.constructor.Term.{Term}
use Rattle.sled_model.specs.declared.constructor.Equation.{Equation}
use Rattle.sled_model.specs.Equations.{Setting, half_of, atom_value, sum_of, IsSatisfied, IsBetween, AreFieldValues}
use Rattle.sled_model.specs.Solutions.{setting_of}
use Rattle.sled_model.specs.Solved.{is_operand_atom, given_terms, IsTarget, least_value, value_limit, AreLabelValues, GivesOperand}

-- ---- sums

regroup : (x s a b : ℤ) → s ≡ a +ℤ b → x +ℤ s ≡ (x +ℤ a) +ℤ b
regroup x s a b e = omega (arith, ints, e)

regroup_right : (x s a b : ℤ) → s ≡ a +ℤ b → x +ℤ s ≡ a +ℤ (x +ℤ b)
regroup_right x s a b e = omega (arith, ints, e)

-- the terms of operands and of slices, and the others
split : (s : Setting) (v : ℕ → ℤ) (ts : List Term) → sum_of s v ts ≡ sum_of s v (filter (λ (t : Term). is_operand_atom t.atom) ts) +ℤ sum_of s v (filter (λ (t : Term). not (is_operand_atom t.atom)) ts)
split s v [] = refl
split s v (t ∷ ts) = by_test (is_operand_atom t.atom) (split s v ts)
  where
    by_test : (b : Bool) → sum_of s v ts ≡ sum_of s v (filter (λ (t : Term). is_operand_atom t.atom) ts) +ℤ sum_of s v (filter (λ (t : Term). not (is_operand_atom t.atom)) ts)
        → (t.coefficient *ℤ atom_value s v t.atom) +ℤ sum_of s v ts
        ≡ sum_of s v (cond b (t ∷ filter (λ (t : Term). is_operand_atom t.atom) ts) (filter (λ (t : Term). is_operand_atom t.atom) ts))
        +ℤ sum_of s v (cond (not b) (t ∷ filter (λ (t : Term). not (is_operand_atom t.atom)) ts) (filter (λ (t : Term). not (is_operand_atom t.atom)) ts))
    by_test true e = regroup _ _ _ _ e
    by_test false e = regroup_right _ _ _ _ e

module _ (tokens : Tokens) (labels v : ℕ → ℤ) where
  abbrev pub over : (ℕ → ℤ) → Setting
  over operands = setting_of tokens operands labels

  module _ (w u : ℕ → ℤ) where
    atom_same : (a : Atom) → is_operand_atom a ≡ false → atom_value (over w) v a ≡ atom_value (over u) v a
    atom_same (Name k) h = cc
    atom_same (Field f) h = refl
    atom_same (Signed f) h = refl
    atom_same (Slice k lo hi) h = cc
    atom_same (Label l) h = refl

    -- the operands do not matter to the other terms
    others_same : (ts : List Term) → sum_of (over w) v (filter (λ (t : Term). not (is_operand_atom t.atom)) ts) ≡ sum_of (over u) v (filter (λ (t : Term). not (is_operand_atom t.atom)) ts)
    others_same [] = refl
    others_same (t ∷ ts) = by_test (is_operand_atom t.atom) refl (others_same ts)
      where
        by_test : (b : Bool) → is_operand_atom t.atom ≡ b
            → sum_of (over w) v (filter (λ (t : Term). not (is_operand_atom t.atom)) ts) ≡ sum_of (over u) v (filter (λ (t : Term). not (is_operand_atom t.atom)) ts)
            → sum_of (over w) v (cond (not b) (t ∷ filter (λ (t : Term). not (is_operand_atom t.atom)) ts) (filter (λ (t : Term). not (is_operand_atom t.atom)) ts))
            ≡ sum_of (over u) v (cond (not b) (t ∷ filter (λ (t : Term). not (is_operand_atom t.atom)) ts) (filter (λ (t : Term). not (is_operand_atom t.atom)) ts))
        by_test true e h = h
        by_test false e h =
            ap (λ x. (t.coefficient *ℤ x) +ℤ sum_of (over w) v (filter (λ (t : Term). not (is_operand_atom t.atom)) ts)) (atom_same t.atom e)
            ∙ ap (λ s. (t.coefficient *ℤ atom_value (over u) v t.atom) +ℤ s) h

  -- what the fields, the labels and the rest give
  abbrev pub given : Equation → ℤ
  given e = sum_of (over (λ k. pos 0)) v (given_terms e) +ℤ e.rest

  total : (x a o g r : ℤ) → x ≡ (a +ℤ pos 0) +ℤ o → o ≡ g → x +ℤ r ≡ a +ℤ (g +ℤ r)
  total x a o g r e d = omega (arith, ints, e, d)

  pub sum_is : (w : ℕ → ℤ) (e : Equation) (t : Term) → IsTarget e t → sum_of (over w) v e.terms +ℤ e.rest ≡ (t.coefficient *ℤ atom_value (over w) v t.atom) +ℤ given e
  sum_is w e t target =
      total _ _ _ _ e.rest (split (over w) v e.terms ∙ ap (λ ts. sum_of (over w) v ts +ℤ sum_of (over w) v (given_terms e)) target.only) (others_same w (λ k. pos 0) e.terms)

-- ---- the one solution

positive : (g x : ℤ) → (pos 1 *ℤ x) +ℤ g ≡ pos 0 → x ≡ pos 0 -ℤ g
positive g x h = omega (arith, ints, h)

positive_back : (g : ℤ) → (pos 1 *ℤ (pos 0 -ℤ g)) +ℤ g ≡ pos 0
positive_back g = omega (arith, ints)

negative : (g x : ℤ) → ((pos 0 -ℤ pos 1) *ℤ x) +ℤ g ≡ pos 0 → x ≡ g
negative g x h = omega (arith, ints, h)

negative_back : (g : ℤ) → ((pos 0 -ℤ pos 1) *ℤ g) +ℤ g ≡ pos 0
negative_back g = omega (arith, ints)

abbrev IsUnit : ℤ → Type 0
IsUnit c = (c ≡ pos 1) ⊎ (c ≡ pos 0 -ℤ pos 1)

root_of : (c g : ℤ) → IsUnit c → (x : ℤ) × ((c *ℤ x) +ℤ g ≡ pos 0)
root_of c g (inl e) = (pos 0 -ℤ g, subst (λ c. (c *ℤ (pos 0 -ℤ g)) +ℤ g ≡ pos 0) (sym e) (positive_back g))
root_of c g (inr e) = (g, subst (λ c. (c *ℤ g) +ℤ g ≡ pos 0) (sym e) (negative_back g))

one_root : (c g x y : ℤ) → IsUnit c → (c *ℤ x) +ℤ g ≡ pos 0 → (c *ℤ y) +ℤ g ≡ pos 0 → x ≡ y
one_root c g x y (inl e) h k = positive g x (subst (λ c. (c *ℤ x) +ℤ g ≡ pos 0) e h) ∙ sym (positive g y (subst (λ c. (c *ℤ y) +ℤ g ≡ pos 0) e k))
one_root c g x y (inr e) h k = negative g x (subst (λ c. (c *ℤ x) +ℤ g ≡ pos 0) e h) ∙ sym (negative g y (subst (λ c. (c *ℤ y) +ℤ g ≡ pos 0) e k))

module _ (tokens : Tokens) (labels v : ℕ → ℤ) where
  -- the equation gives its target this value
  pub record IsGivenBy (e : Equation) (t : Term) (x : ℤ) : Type 0 where
    pub target : IsTarget e t
    pub root : (t.coefficient *ℤ x) +ℤ given tokens labels v e ≡ pos 0
    pub range : IsBetween (least_value t.atom) (value_limit t.atom) x

  pub given_by : AreFieldValues (half_of tokens) v → AreLabelValues labels → (e : Equation) → GivesOperand tokens e → (t : Term) × (x : ℤ) × IsGivenBy e t x
  given_by values places e (t, target, in_range) =
      let r = root_of t.coefficient (given tokens labels v e) target.one in
      (t, r.0, record { target = target; root = r.1; range = in_range (over tokens labels v (λ k. pos 0)) v r.0 refl values places r.1 })

  one_term : (t u : Term) → (t ∷ []) ≡ (u ∷ []) → t ≡ u
  one_term t u e = cc

  -- and no other value, nor another target
  pub one_target : (e : Equation) (t u : Term) (x y : ℤ) → IsGivenBy e t x → IsGivenBy e u y → t ≡ u
  one_target e t u x y g h = one_term t u (sym g.target.only ∙ h.target.only)

  pub one_value : (e : Equation) (t u : Term) (x y : ℤ) → IsGivenBy e t x → IsGivenBy e u y → x ≡ y
  one_value e t u x y g h =
      one_root t.coefficient (given tokens labels v e) x y g.target.one g.root
      (subst (λ (t : Term). (t.coefficient *ℤ y) +ℤ given tokens labels v e ≡ pos 0) (sym (one_target e t u x y g h)) h.root)

  -- the equation holds exactly where its target has the value
  pub value_from_holds : (w : ℕ → ℤ) (e : Equation) (t : Term) (x : ℤ) → IsGivenBy e t x → IsSatisfied (over tokens labels v w) v e → atom_value (over tokens labels v w) v t.atom ≡ x
  value_from_holds w e t x g h = one_root t.coefficient (given tokens labels v e) _ x g.target.one (sym (sum_is tokens labels v w e t g.target) ∙ h) g.root

  pub holds_from_value : (w : ℕ → ℤ) (e : Equation) (t : Term) (x : ℤ) → IsGivenBy e t x → atom_value (over tokens labels v w) v t.atom ≡ x → IsSatisfied (over tokens labels v w) v e
  holds_from_value w e t x g h = sum_is tokens labels v w e t g.target ∙ ap (λ z. (t.coefficient *ℤ z) +ℤ given tokens labels v e) h ∙ g.root
