-- An equation with one operand is a value of it.
use Rattle.std.proofs.Common.{ℕ, zero, suc, ◌≡◌, Bool, true, false, if◌then◌else◌, List, [], ◌∷◌, filter, ℤ, pos, negsuc, neg_ℤ, ◌+ℤ◌, ◌*ℤ◌, refl, ap, sym, ◌∙◌, arith, cond}
use Rattle.std.proofs.lemmas.Int.{ints}
use Rattle.std.proofs.Math.IntN.{*ℤ-zero, *ℤ_comm, *ℤ-one, *ℤ-negsuc, neg_ℤ-neg_ℤ}
use Rattle.sled_model.specs.declared.constructor.Term.{Term}
use Rattle.sled_model.specs.declared.constructor.Atom.{Atom}
use Rattle.sled_model.specs.declared.constructor.Equation.{Equation}
use Rattle.sled_model.specs.Equations.{Setting, sum_of, atom_value}
use Rattle.sled_model.specs.Solved.{is_operand_atom}
use Rattle.eq_solver.specs.Isolated.{turned, others, Gives}

times_neg : (x c : ℤ) → x *ℤ neg_ℤ c ≡ neg_ℤ (x *ℤ c)
times_neg x (pos zero) = let z = *ℤ-zero x in z ∙ sym (ap neg_ℤ z)
times_neg x (pos (suc n)) = *ℤ-negsuc x n
times_neg x (negsuc n) = sym (neg_ℤ-neg_ℤ (x *ℤ pos (suc n))) ∙ ap neg_ℤ (sym (*ℤ-negsuc x n))

neg_times : (c x : ℤ) → neg_ℤ c *ℤ x ≡ neg_ℤ (c *ℤ x)
neg_times c x = *ℤ_comm (neg_ℤ c) x ∙ times_neg x c ∙ ap neg_ℤ (*ℤ_comm x c)

pub turned_times : (b : Bool) (c x : ℤ) → turned b c *ℤ x ≡ turned b (c *ℤ x)
turned_times true c x = neg_times c x
turned_times false c x = refl

-- what the targets count, and what the others do
abbrev targets : Setting → (ℕ → ℤ) → List Term → ℤ
targets w v ts = sum_of w v (filter (λ (t : Term). is_operand_atom t.atom) ts)

one_part : (w : Setting) (v : ℕ → ℤ) (turn b : Bool) (t : Term) (ts : List Term) → is_operand_atom t.atom ≡ b → turned turn (sum_of w v ts) ≡ turned turn (targets w v ts) +ℤ sum_of w v (others turn ts)
    → turned turn ((t.coefficient *ℤ atom_value w v t.atom) +ℤ sum_of w v ts)
    ≡ turned turn (sum_of w v (cond b (t ∷ filter (λ (t : Term). is_operand_atom t.atom) ts) (filter (λ (t : Term). is_operand_atom t.atom) ts)))
    +ℤ sum_of w v (if b then others turn ts else (record { coefficient = turned turn t.coefficient; atom = t.atom } ∷ others turn ts))
one_part w v true true t ts e h = regroup _ _ _ _ h
  where
    regroup : (a s p o : ℤ) → neg_ℤ s ≡ neg_ℤ p +ℤ o → neg_ℤ (a +ℤ s) ≡ neg_ℤ (a +ℤ p) +ℤ o
    regroup a s p o h = omega (arith, ints)
one_part w v false true t ts e h = regroup _ _ _ _ h
  where
    regroup : (a s p o : ℤ) → s ≡ p +ℤ o → a +ℤ s ≡ (a +ℤ p) +ℤ o
    regroup a s p o h = omega (arith, ints)
one_part w v true false t ts e h = regroup _ _ _ _ _ (neg_times t.coefficient (atom_value w v t.atom)) h
  where
    regroup : (a s p o b : ℤ) → b ≡ neg_ℤ a → neg_ℤ s ≡ neg_ℤ p +ℤ o → neg_ℤ (a +ℤ s) ≡ neg_ℤ p +ℤ (b +ℤ o)
    regroup a s p o b e h = omega (arith, ints)
one_part w v false false t ts e h = regroup _ _ _ _ h
  where
    regroup : (a s p o : ℤ) → s ≡ p +ℤ o → a +ℤ s ≡ p +ℤ (a +ℤ o)
    regroup a s p o h = omega (arith, ints)

parts : (w : Setting) (v : ℕ → ℤ) (turn : Bool) (ts : List Term) → turned turn (sum_of w v ts) ≡ turned turn (targets w v ts) +ℤ sum_of w v (others turn ts)
parts w v true [] = refl
parts w v false [] = refl
parts w v turn (t ∷ ts) = one_part w v turn (is_operand_atom t.atom) t ts refl (parts w v turn ts)

pub one_times : (a : ℤ) → pos 1 *ℤ a ≡ a
unfolding lib.IntN.one
one_times a = *ℤ_comm (pos 1) a ∙ *ℤ-one a

pub minus_times : (a : ℤ) → negsuc 0 *ℤ a ≡ neg_ℤ a
unfolding lib.IntN.one
minus_times a = *ℤ_comm (negsuc 0) a ∙ *ℤ-negsuc a 0 ∙ ap neg_ℤ (*ℤ-one a)

-- the equation's sum, by the operand's value and the others
sum_is : (w : Setting) (v : ℕ → ℤ) (turn : Bool) (target : Atom) (ts : List Term) → filter (λ (t : Term). is_operand_atom t.atom) ts ≡ record { coefficient = turned turn (negsuc 0); atom = target } ∷ []
    → turned turn (sum_of w v ts) ≡ neg_ℤ (atom_value w v target) +ℤ sum_of w v (others turn ts)
sum_is w v true target ts h = regroup _ _ _ _ (parts w v true ts) (ap (sum_of w v) h) (one_times (atom_value w v target))
  where
    regroup : (s p a o : ℤ) {m : ℤ} → neg_ℤ s ≡ neg_ℤ p +ℤ o → p ≡ m +ℤ pos 0 → m ≡ a → neg_ℤ s ≡ neg_ℤ a +ℤ o
    regroup s p a o e d n = omega (arith, ints)
sum_is w v false target ts h = regroup _ _ _ _ (parts w v false ts) (ap (sum_of w v) h) (minus_times (atom_value w v target))
  where
    regroup : (s p a o : ℤ) {m : ℤ} → s ≡ p +ℤ o → p ≡ m +ℤ pos 0 → m ≡ neg_ℤ a → s ≡ neg_ℤ a +ℤ o
    regroup s p a o e d n = omega (arith, ints)

there : (turn : Bool) (s a o r r' : ℤ) → turned turn s ≡ neg_ℤ a +ℤ o → r' ≡ turned turn r → s +ℤ r ≡ pos 0 → a ≡ o +ℤ r'
there true s a o r r' e d h = omega (arith, ints)
there false s a o r r' e d h = omega (arith, ints)

back : (turn : Bool) (s a o r r' : ℤ) → turned turn s ≡ neg_ℤ a +ℤ o → r' ≡ turned turn r → a ≡ o +ℤ r' → s +ℤ r ≡ pos 0
back true s a o r r' e d h = omega (arith, ints)
back false s a o r r' e d h = omega (arith, ints)

pub gives : (turn : Bool) (target : Atom) (e : Equation) (terms : List Term) (rest : ℤ) → filter (λ (t : Term). is_operand_atom t.atom) e.terms ≡ record { coefficient = turned turn (negsuc 0); atom = target } ∷ []
    → terms ≡ others turn e.terms → rest ≡ turned turn e.rest → Gives e (record { target = target; terms = terms; rest = rest })
gives turn target e terms rest h k r = record {
  to = λ w v s. there turn _ _ _ _ _ (sum_is w v turn target e.terms h) r s ∙ ap (λ z. sum_of w v z +ℤ rest) (sym k);
  from = λ w v s. back turn _ _ _ _ _ (sum_is w v turn target e.terms h) r (s ∙ ap (λ z. sum_of w v z +ℤ rest) k);
}
