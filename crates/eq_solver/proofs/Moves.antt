-- What a step does to what is known of the fields.
use Rattle.std.proofs.Common.{ℕ, ◌≡◌, ◌≢◌, ◌<◌, ◌⊎◌, inl, inr, Bool, true, false, List, length, set, ℤ, pos, ◌+ℤ◌, ◌*ℤ◌, ◌≤ℤ◌, refl, ap, sym, ◌∙◌, arith, subst, nat_eq, of_z, w64, FitsSigned}
use Rattle.std.proofs.lemmas.Int.{ints}
use Rattle.std.proofs.lemmas.Bool.Decides.{nat_tests}
use Rattle.std.specs.Bool.{MatchBool}
use Rattle.eq_solver.proofs.Quotients.{zero_bits}
use Rattle.std.proofs.lemmas.Bool.{cases_eq}
use Rattle.std.proofs.lemmas.List.{get_or-set_same, get_or-set_other, set-set}
use Rattle.std.proofs.Math.IntN.{*ℤ-zero}
use Rattle.sled_model.specs.declared.constructor.Equation.{Equation}
use Rattle.sled_model.specs.declared.constructor.Term.{Term}
use Rattle.eq_solver.specs.declared.plan.Work.{Work}
use Rattle.eq_solver.specs.declared.plan.Work.TheVariants.{Check}
use Rattle.sled_model.specs.Equations.{Setting, sum_of, IsSatisfied, IsBetween}
use Rattle.eq_solver.specs.Sums.{AreValues, at}
use Rattle.eq_solver.specs.Order.{is_open, share, Agree, AreClosed}
use Rattle.eq_solver.specs.Steps.{as_read, IsRoot, IsOnlyRoot, AreFields, IsSolving, IsStep, closed_by, Advances, Sticks}
use Rattle.eq_solver.proofs.Split.{split, same_sum}

-- the tests of equality
same_or_not : (g f : ℕ) → (g ≡ f) ⊎ (g ≢ f)
same_or_not g f = cases_eq g f

closed_other : (left : List Bool) (g f : ℕ) → is_open left g ≡ false → is_open left f ≡ true → g ≢ f
closed_other left g f c o e = cc (ap (is_open left) e)

-- agreement, and one more field
pub agree_set : (left : List Bool) (u : List ℤ) (v : ℕ → ℤ) (f : ℕ) (y : ℤ) → is_open left f ≡ true → Agree left v (at u) → Agree left v (at (set u f y))
agree_set left u v f y o a g c = a g c ∙ sym (get_or-set_other u f g y (pos 0) (closed_other left g f c o))

pub agree_more : (left : List Bool) (u : List ℤ) (v : ℕ → ℤ) (f : ℕ) (y : ℤ) → is_open left f ≡ true → f < length u → v f ≡ y → Agree left v (at u) → Agree (set left f false) v (at (set u f y))
agree_more left u v f y o w e a g c = elim (same_or_not g f) [
  | inl s ↦ ap v s ∙ e ∙ sym (get_or-set_same u f y (pos 0) w) ∙ ap (at (set u f y)) (sym s)
  | inr d ↦ a g (sym (get_or-set_other left f g false true d) ∙ c) ∙ sym (get_or-set_other u f g y (pos 0) d)
]

pub agree_less : (left : List Bool) (u : List ℤ) (v : ℕ → ℤ) (f : ℕ) (y : ℤ) → is_open left f ≡ true → Agree (set left f false) v (at (set u f y)) → Agree left v (at u)
agree_less left u v f y o a g c =
    let d : g ≢ f = closed_other left g f c o in
    a g (get_or-set_other left f g false true d ∙ c) ∙ get_or-set_other u f g y (pos 0) d

pub value_at_field : (left : List Bool) (u : List ℤ) (v : ℕ → ℤ) (f : ℕ) (y : ℤ) → f < length left → f < length u → Agree (set left f false) v (at (set u f y)) → v f ≡ y
value_at_field left u v f y l w a = a f (get_or-set_same left f false true l) ∙ get_or-set_same u f y (pos 0) w

read_zero : (half : ℤ) (signed : Bool) → pos 1 ≤ℤ half → as_read signed half (pos 0) ≡ pos 0
read_zero half false h = refl
read_zero half true h = grind (arith, ints)

-- the sum at any values is the sum without the field, and what the field gives
pub sum_at : (w : Setting) (left : List Bool) (e : Equation) (u : List ℤ) (v : ℕ → ℤ) (f : ℕ) (signed : Bool) (c : ℤ) → IsSolving w.halves left e f signed c → pos 1 ≤ℤ w.halves f → f < length u
    → Agree left v (at u) → sum_of w v e.terms ≡ (c *ℤ as_read signed (w.halves f) (v f)) +ℤ sum_of w (at (set u f (pos 0))) e.terms
sum_at w left e u v f signed c s h l a =
    let d = split w left v (at (set u f (pos 0))) f (agree_set left u v f (pos 0) s.open_field a) e.terms s.others in
    let z = ap (λ x. share (w.halves f) f x e.terms) (get_or-set_same u f (pos 0) (pos 0) l) ∙ s.share_is (pos 0) ∙ ap (λ x. c *ℤ x) (read_zero (w.halves f) signed h) ∙ *ℤ-zero c in
    regroup _ _ _ _ _ d z (s.share_is (v f))
  where
    regroup : (a s b z p : ℤ) → a +ℤ z ≡ b +ℤ s → z ≡ pos 0 → s ≡ p → a ≡ p +ℤ b
    regroup a s b z p d e g = omega (arith, ints)

with_rest : (a p b r : ℤ) → a ≡ p +ℤ b → a +ℤ r ≡ pos 0 → p +ℤ (b +ℤ r) ≡ pos 0
with_rest a p b r e h = omega (arith, ints)

without_rest : (a p b r : ℤ) → a ≡ p +ℤ b → p +ℤ (b +ℤ r) ≡ pos 0 → a +ℤ r ≡ pos 0
without_rest a p b r e h = omega (arith, ints)

pub root_at : (w : Setting) (n : ℕ) (left : List Bool) (e : Equation) (u : List ℤ) (v : ℕ → ℤ) (f : ℕ) (signed : Bool) (c total : ℤ) → IsSolving w.halves left e f signed c → pos 1 ≤ℤ w.halves f → length u ≡ n → length left ≡ n
    → total ≡ sum_of w (at (set u f (pos 0))) e.terms +ℤ e.rest → AreFields w.halves n v → Agree left v (at u) → IsSatisfied w v e → IsRoot (w.halves f) signed c total (v f)
root_at w n left e u v f signed c total s h l k t a g i =
    let below : f < length u = omega (arith, s.within) in
    record { range = a.each f (omega (arith, s.within)); root = ap (λ z. (c *ℤ as_read signed (w.halves f) (v f)) +ℤ z) t ∙ with_rest _ _ _ _ (sum_at w left e u v f signed c s h below g) i }

fields_set : (halves : ℕ → ℤ) (n : ℕ) (u : List ℤ) (f : ℕ) (y : ℤ) → length u ≡ n → AreFields halves n (at u) → IsBetween (pos 0) (halves f +ℤ halves f) y → AreFields halves n (at (set u f y))
fields_set halves n u f y l a r = record {
  each = λ g b. elim (same_or_not g f) as (λ _. IsBetween (pos 0) (halves g +ℤ halves g) (at (set u f y) g)) [
    | inl s ↦ subst (λ k. IsBetween (pos 0) (halves k +ℤ halves k) (at (set u f y) k)) (sym s) (subst (λ z. IsBetween (pos 0) (halves f +ℤ halves f) z) (sym (get_or-set_same u f y (pos 0) (let q : g < n = b in subst (λ k. k < length u) s (omega arith)))) r)
    | inr d ↦ subst (λ z. IsBetween (pos 0) (halves g +ℤ halves g) z) (sym (get_or-set_other u f g y (pos 0) d)) (a.each g b)
  ];
}

pub solve_advances : (w : Setting) (n : ℕ) (left : List Bool) (e : Equation) (u : List ℤ) (f : ℕ) (signed : Bool) (c total y : ℤ) → IsSolving w.halves left e f signed c → pos 1 ≤ℤ w.halves f → length u ≡ n → length left ≡ n
    → AreFields w.halves n (at u) → total ≡ sum_of w (at (set u f (pos 0))) e.terms +ℤ e.rest → IsOnlyRoot (w.halves f) signed c total y → Advances w n left (set left f false) e (at u) (at (set u f y))
solve_advances w n left e u f signed c total y s h l k a t o =
    let below : f < length u = omega (arith, s.within) in
    record {
      fields = fields_set w.halves n u f y l a o.is.range;
      only = λ v b g i. agree_more left u v f y s.open_field below (o.only (v f) (root_at w n left e u v f signed c total s h l k t b g i)) g;
      kept = λ v g. agree_less left u v f y s.open_field g;
      satisfied = λ v g.
          let m = agree_less left u v f y s.open_field g in
          let at_f = value_at_field left u v f y s.within below g in
          let sums = sum_at w left e u v f signed c s h below m in
          without_rest _ _ _ _ (sums ∙ ap (λ z. (c *ℤ as_read signed (w.halves f) z) +ℤ sum_of w (at (set u f (pos 0))) e.terms) at_f) (ap (λ z. (c *ℤ as_read signed (w.halves f) y) +ℤ z) (sym t) ∙ o.is.root);
    }

pub check_advances : (w : Setting) (n : ℕ) (left : List Bool) (e : Equation) (u : ℕ → ℤ) → AreClosed left e.terms → AreFields w.halves n u → sum_of w u e.terms +ℤ e.rest ≡ pos 0 → Advances w n left left e u u
check_advances w n left e u s a h = record {
  fields = a;
  only = λ v b g i. g;
  kept = λ v g. g;
  satisfied = λ v g. ap (λ z. z +ℤ e.rest) (same_sum w left v u g e.terms s) ∙ h;
}

pub check_sticks : (w : Setting) (n : ℕ) (left : List Bool) (e : Equation) (u : ℕ → ℤ) → AreClosed left e.terms → (sum_of w u e.terms +ℤ e.rest ≢ pos 0) → Sticks w n left e u
check_sticks w n left e u s h v b g i = h (ap (λ z. z +ℤ e.rest) (sym (same_sum w left v u g e.terms s)) ∙ i)

pub solve_sticks : (w : Setting) (n : ℕ) (left : List Bool) (e : Equation) (u : List ℤ) (f : ℕ) (signed : Bool) (c total : ℤ) → IsSolving w.halves left e f signed c → pos 1 ≤ℤ w.halves f → length u ≡ n → length left ≡ n
    → total ≡ sum_of w (at (set u f (pos 0))) e.terms +ℤ e.rest → ((x : ℤ) → IsRoot (w.halves f) signed c total x → ⊥) → Sticks w n left e (at u)
solve_sticks w n left e u f signed c total s h l k t no_root v b g i = no_root (v f) (root_at w n left e u v f signed c total s h l k t b g i)

-- ---- as the code has read its arguments

pub none_found : (w : Setting) (n : ℕ) (left : List Bool) (e : Equation) (u : List ℤ) (f : ℕ) (signed : Bool) (c h' c' t' : ℤ) → h' ≡ w.halves f → c' ≡ c → t' ≡ sum_of w (at (set u f (pos 0))) e.terms +ℤ e.rest
    → ((x : ℤ) → IsRoot h' signed c' t' x → ⊥) → pos 1 ≤ℤ w.halves f → length u ≡ n → IsSolving w.halves left e f signed c → length left ≡ n → Sticks w n left e (at u)
none_found w n left e u f signed c h' c' t' p q r no_root h l s k =
    solve_sticks w n left e u f signed c t' s h l k r (subst (λ z. (x : ℤ) → IsRoot z signed c t' x → ⊥) p (subst (λ z. (x : ℤ) → IsRoot h' signed z t' x → ⊥) q no_root))

pub one_found : (w : Setting) (n : ℕ) (left : List Bool) (e : Equation) (u : List ℤ) (f : ℕ) (signed : Bool) (c h' c' t' y y' : ℤ) → h' ≡ w.halves f → c' ≡ c → t' ≡ sum_of w (at (set u f (pos 0))) e.terms +ℤ e.rest → y' ≡ y
    → IsOnlyRoot h' signed c' t' y → pos 1 ≤ℤ w.halves f → length u ≡ n → AreFields w.halves n (at u) → IsSolving w.halves left e f signed c → length left ≡ n
    → Advances w n left (set left f false) e (at u) (at (set (set u f (pos 0)) f y'))
one_found w n left e u f signed c h' c' t' y y' p q r d o h l a s k =
    let o' = subst (λ z. IsOnlyRoot z signed c t' y) p (subst (λ z. IsOnlyRoot h' signed z t' y) q o) in
    rw (d, set-set u f (pos 0) y) (solve_advances w n left e u f signed c t' y s h l k a r o')

pub check_found : (w : Setting) (n : ℕ) (left : List Bool) (e : Equation) (u : ℕ → ℤ) (x : ℤ) (b : Bool) → nat_eq (of_z w64 x) 0 ≡ b → FitsSigned w64 x → x ≡ sum_of w u e.terms +ℤ e.rest → AreFields w.halves n u → AreClosed left e.terms
    → MatchBool b (Advances w n left left e u u) (Sticks w n left e u)
check_found w n left e u x true t f q a s = let z : of_z w64 x ≡ 0 = grind (arith, nat_tests) in check_advances w n left e u s a (sym q ∙ zero_bits x f z)
check_found w n left e u x false t f q a s = check_sticks w n left e u s (λ z. let k : nat_eq (of_z w64 x) 0 ≡ true = ap (λ m. nat_eq (of_z w64 m) 0) (q ∙ z) in cc)

pub fields_of : (halves operands labels fields : List ℤ) → AreValues halves operands labels fields → AreFields (at halves) (length fields) (at fields)
fields_of halves operands labels fields a = record { each = λ f b. a.field f (subst (λ k. f < k) (sym a.one_each) b) }

pub half_of : (halves operands labels fields : List ℤ) (f : ℕ) → AreValues halves operands labels fields → f < length fields → pos 1 ≤ℤ at halves f
half_of halves operands labels fields f a b = (a.half f (subst (λ k. f < k) (sym a.one_each) b)).at_least

pub total_of : (w : Setting) (v : ℕ → ℤ) (ts us : List Term) (total sum rest : ℤ) → total ≡ sum +ℤ rest → sum ≡ sum_of w v us → us ≡ ts → total ≡ sum_of w v ts +ℤ rest
total_of w v ts us total sum rest e d s = e ∙ ap (λ z. z +ℤ rest) (d ∙ ap (sum_of w v) s)

pub check_found_at : (w : Setting) (n : ℕ) (left : List Bool) (e : Equation) (u : ℕ → ℤ) (x : ℤ) (b : Bool) (work : Work) → work ≡ Check → nat_eq (of_z w64 x) 0 ≡ b → FitsSigned w64 x → x ≡ sum_of w u e.terms +ℤ e.rest → AreFields w.halves n u
    → IsStep w.halves left e work → MatchBool b (Advances w n left (closed_by left work) e u u) (Sticks w n left e u)
check_found_at w n left e u x b work is t f q a =
    subst (λ (k : Work). IsStep w.halves left e k → MatchBool b (Advances w n left (closed_by left k) e u u) (Sticks w n left e u)) (sym is) (check_found w n left e u x b t f q a)
