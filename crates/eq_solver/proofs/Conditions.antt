-- Condition 13, from the values of the equations.
use Rattle.std.proofs.Common.{ℕ, zero, suc, ◌+◌, ◌≡◌, ◌<◌, ◌≤◌, List, [], ◌∷◌, length, get_or, map, All, slice_get, Some, Option, Result, Ok, Err, IfOk, IsErrOf, refl, ap, sym, ◌∙◌, arith, subst}
use Rattle.std.proofs.lemmas.Option.{slice_get_within, slice_get-get_or}
use Rattle.token_bits.specs.declared.tokens.Tokens.{Tokens}
use Rattle.sled_model.specs.declared.constructor.Atom.{Atom}
use Rattle.sled_model.specs.declared.constructor.Atom.TheVariants.{Name, Field, Signed, Slice, Label}
use Rattle.sled_model.specs.declared.constructor.Term.{Term}
use Rattle.sled_model.specs.declared.constructor.Equation.{Equation}
use Rattle.sled_model.specs.declared.constructor.Constructor.{Constructor}
use Rattle.sled_model.specs.declared.constructor.OperandKind.{OperandKind}
use Rattle.sled_model.specs.Linear.{IsLinear, IsEquationOf, IsTermOf, IsAtomOf}
use Rattle.sled_model.specs.Solved.{GivesOperand, IsHeldOnce, IsSolved}
use Rattle.eq_solver.specs.declared.plan.Value.{Value}
use Rattle.eq_solver.specs.Ranges.{IsInOrder, IsPlainEquation, IsValueOf}
use Rattle.eq_solver.specs.Values.{AreValuesOf, AreHeld, IsSolvedBy, AreSlices}
use Rattle.eq_solver.proofs.Held.{held_once, once_held}

atom_order : (c : Constructor) (a : Atom) → IsAtomOf c a → IsInOrder a
atom_order c (Name k) h = tt
atom_order c (Field f) h = tt
atom_order c (Signed f) h = tt
atom_order c (Slice k lo hi) h = (h.1, h.2)
atom_order c (Label l) h = tt

plain_equation : (c : Constructor) (e : Equation) → IsEquationOf c e → IsPlainEquation e
plain_equation c e h = record { coefficients = λ i d l. (h.terms i d l).coefficient; orders = λ i d l. atom_order c _ (h.terms i d l).atom; few = h.few; rest = h.rest }

pub plain_equations : (tokens : Tokens) (c : Constructor) (es : List Equation) → es ≡ c.equations → IsLinear tokens c → All IsPlainEquation es
plain_equations tokens c es e h = subst (All IsPlainEquation) (sym e) (λ i d l. plain_equation c _ (h.equations i d l))

pub some_at : {A : Type 0} (xs : List A) (i : ℕ) → i < length xs → (x : A) × (slice_get xs i ≡ Some x)
some_at [] i l = absurd (omega arith)
some_at (x ∷ xs) zero l = (x, refl)
some_at (x ∷ xs) (suc i) l = some_at xs i (omega arith)

module _ (tokens : Tokens) (es : List Equation) (gs : List Value) (v : AreValuesOf tokens es gs) where
  each_gives : All (GivesOperand tokens) es
  each_gives i d l =
      let g = some_at gs i (let z = v.one_each in omega arith) in
      let x = v.each i (get_or es i d) g.0 (slice_get-get_or es i d l) g.1 in
      (x.target, x.is_target, x.in_range)

  each_order : (i : ℕ) (g : Value) → slice_get gs i ≡ Some g → IsInOrder g.target
  each_order i g s =
      let w = slice_get_within gs i g s in
      let e = some_at es i (let z = v.one_each in omega arith) in
      (v.each i e.0 g e.1 s).order

all_orders : (gs : List Value) → ((i : ℕ) (g : Value) → slice_get gs i ≡ Some g → IsInOrder g.target) → All IsInOrder (map (λ (g : Value). g.target) gs)
all_orders [] h = λ i d l. absurd (omega arith)
all_orders (g ∷ gs) h = both (h 0 g refl) (all_orders gs (λ i. h (suc i)))
  where
    both : IsInOrder g.target → All IsInOrder (map (λ (g : Value). g.target) gs) → All IsInOrder (g.target ∷ map (λ (g : Value). g.target) gs)
    both p r zero d l = p
    both p r (suc i) d l = r i d (omega arith)

pub targets_order : (tokens : Tokens) (es : List Equation) (gs : List Value) → AreValuesOf tokens es gs → All IsInOrder (map (λ (g : Value). g.target) gs)
targets_order tokens es gs v = all_orders gs (each_order tokens es gs v)

-- ---- as the code has read the lists

pub is_solved : (tokens : Tokens) (c : Constructor) (es : List Equation) (kinds : List OperandKind) (gs : List Value) → es ≡ c.equations → kinds ≡ c.operands → AreValuesOf tokens es gs → AreHeld (map (λ (g : Value). g.target) gs) kinds
    → IsSolved tokens c
is_solved tokens c es kinds gs e d v h = record {
  gives = subst (All (GivesOperand tokens)) e (each_gives tokens es gs v);
  held = λ k kind s. subst (λ z. IsHeldOnce z k kind) e (held_once tokens es gs v k kind (h k kind (ap (λ z. slice_get z k) d ∙ s)));
}

pub solved_by : (tokens : Tokens) (c : Constructor) (es : List Equation) (kinds : List OperandKind) (gs gs' : List Value) (slices : List ℕ) → es ≡ c.equations → kinds ≡ c.operands → gs' ≡ gs → AreValuesOf tokens es gs
    → AreHeld (map (λ (g : Value). g.target) gs) kinds → AreSlices (map (λ (g : Value). g.target) gs) kinds slices → IsSolvedBy tokens c gs' slices
solved_by tokens c es kinds gs gs' slices e d s v h o =
    subst (λ z. IsSolvedBy tokens c z slices) (sym s) (record {
      values = subst (λ z. AreValuesOf tokens z gs) e v;
      held = subst (AreHeld (map (λ (g : Value). g.target) gs)) d h;
      slices_order = subst (λ z. AreSlices (map (λ (g : Value). g.target) gs) z slices) d o;
    })

pub not_held_once : (tokens : Tokens) (c : Constructor) (es : List Equation) (kinds : List OperandKind) (gs : List Value) → es ≡ c.equations → kinds ≡ c.operands → AreValuesOf tokens es gs → (AreHeld (map (λ (g : Value). g.target) gs) kinds → ⊥)
    → IsSolved tokens c → ⊥
not_held_once tokens c es kinds gs e d v n s = n (λ k kind h. once_held tokens es gs v k kind (subst (λ z. IsHeldOnce z k kind) (sym e) (s.held k kind (ap (λ z. slice_get z k) (sym d) ∙ h))))

pub not_given : (tokens : Tokens) (c : Constructor) (es : List Equation) → es ≡ c.equations → (All (GivesOperand tokens) es → ⊥) → IsSolved tokens c → ⊥
not_given tokens c es e n s = n (subst (All (GivesOperand tokens)) (sym e) s.gives)

pub ok_then : {T E P Q : Type 0} (r : Result T E) → (P → Q) → IfOk r (λ x. P) → IfOk r (λ x. Q)
ok_then (Ok x) f p = f p
ok_then (Err e) f p = p

err_value : {T E : Type 0} (e x : E) → ◌≡◌ {A = Result T E} (Err e) (Err x) → e ≡ x
err_value e x h = cc

pub same_err : {T U E : Type 0} (e x : E) → IsErrOf {T = T} (Err e) x → IsErrOf {T = U} (Err e) x
same_err e x h = ap Err (err_value e x h)
