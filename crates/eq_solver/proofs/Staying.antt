-- Whether the value of an equation is always in range.
use Rattle.std.proofs.Common.{ℕ, suc, zero, ◌^◌, ◌≡◌, ◌<◌, ◌≤◌, ◌&&◌, inl, inr, ◌⊎◌, Bool, true, false, List, [], ◌∷◌, length, filter, All, ℤ, pos, neg_ℤ, ◌+ℤ◌, ◌-ℤ◌, ◌*ℤ◌, ◌≤ℤ◌, ◌<ℤ◌, int_le, int_lt, refl, ap, sym, ◌∙◌, arith, subst, if◌then◌else◌, MatchBool, cond, not, negsuc, nat_eq, of_z, w64}
use Rattle.std.proofs.lemmas.Int.{ints, by_lt_z}
use Rattle.std.proofs.lemmas.Bool.Decides.{nat_tests}
use Rattle.std.proofs.lemmas.List.Elements.{All-head, All-tail, All-cons}
use Rattle.token_bits.specs.declared.tokens.Tokens.{Tokens}
use Rattle.sled_model.specs.declared.constructor.Atom.{Atom}
use Rattle.sled_model.specs.declared.constructor.Term.{Term}
use Rattle.sled_model.specs.declared.constructor.Equation.{Equation}
use Rattle.sled_model.specs.Equations.{Setting, half_of, sum_of, atom_value, IsBetween}
use Rattle.sled_model.specs.Linear.{IsWithin}
use Rattle.sled_model.specs.Solved.{is_operand_atom, operand_terms, least_value, value_limit, IsTarget, IsGivenInRange, GivesOperand}
use Rattle.eq_solver.specs.declared.plan.Value.{Value}
use Rattle.eq_solver.specs.Isolated.{turned, others, Gives}
use Rattle.eq_solver.specs.Ranges.{AreInRange, IsGreatest, StaysInRange, IsGivenTerm, AreGivenTerms, IsInOrder, IsPlainEquation, IsValueOf}
use Rattle.eq_solver.proofs.Greatest.{given_head, given_tail, given_more}
use Rattle.eq_solver.proofs.Isolates.{turned_times, one_times, minus_times}

-- ---- the terms without the operand are given

turned_within : (turn : Bool) (c : ℤ) → IsWithin (2 ^ 16) c → IsWithin (2 ^ 16) (turned turn c)
turned_within true c w = record { low = omega (arith, ints); high = omega (arith, ints) }
turned_within false c w = w

other_given : (turn b : Bool) (t : Term) (ts : List Term) → is_operand_atom t.atom ≡ b → IsWithin (2 ^ 16) t.coefficient → All IsGivenTerm ts
    → All IsGivenTerm (if b then ts else (record { coefficient = turned turn t.coefficient; atom = t.atom } ∷ ts))
other_given turn true t ts e w h = h
other_given turn false t ts e w h = given_more _ ts (turned_within turn t.coefficient w, e) h

pub others_each : (turn : Bool) (ts : List Term) → All (λ (t : Term). IsWithin (2 ^ 16) t.coefficient) ts → All IsGivenTerm (others turn ts)
others_each turn [] h = λ k d l. absurd (omega arith)
others_each turn (t ∷ ts) h =
    let z : 0 < suc (length ts) = omega arith in
    other_given turn (is_operand_atom t.atom) t (others turn ts) refl (h 0 t z) (others_each turn ts (λ k d l. let q : suc k < suc (length ts) = omega arith in h (suc k) d q))

other_few : (b : Bool) (x : Term) (ts : List Term) (n : ℕ) → length ts ≤ n → length (if b then ts else (x ∷ ts)) ≤ suc n
other_few true x ts n h = omega arith
other_few false x ts n h = omega arith

pub others_few : (turn : Bool) (ts : List Term) → length (others turn ts) ≤ length ts
others_few turn [] = omega arith
others_few turn (t ∷ ts) = other_few (is_operand_atom t.atom) _ (others turn ts) (length ts) (others_few turn ts)

pub others_given : (turn : Bool) (ts : List Term) → All (λ (t : Term). IsWithin (2 ^ 16) t.coefficient) ts → length ts ≤ 16 → AreGivenTerms (others turn ts)
others_given turn ts h l = let m = others_few turn ts in record { each = others_each turn ts h; few = omega arith }

pub opposite_given : (ts : List Term) → AreGivenTerms ts → AreGivenTerms (others true ts)
opposite_given ts h = others_given true ts (λ k d l. (h.each k d l).0) h.few

-- ---- the opposite sum

opposite : (s : Setting) (v : ℕ → ℤ) (ts : List Term) → All IsGivenTerm ts → sum_of s v (others true ts) ≡ neg_ℤ (sum_of s v ts)
opposite s v [] h = refl
opposite s v (t ∷ ts) h =
    ap (λ (b : Bool). sum_of s v (if b then others true ts else (record { coefficient = neg_ℤ t.coefficient; atom = t.atom } ∷ others true ts))) (given_head t ts h).1
    ∙ regroup _ _ _ _ (turned_times true t.coefficient (atom_value s v t.atom)) (opposite s v ts (given_tail t ts h))
  where
    regroup : (a b c d : ℤ) → a ≡ neg_ℤ b → c ≡ neg_ℤ d → a +ℤ c ≡ neg_ℤ (b +ℤ d)
    regroup a b c d p q = omega (arith, ints)

-- ---- the decision

le_true : (a b : ℤ) → int_le a b ≡ true → a ≤ℤ b
le_true a b e = grind (arith, ints, nat_tests)

le_false : (a b : ℤ) → int_le a b ≡ false → b <ℤ a
le_false a b e = grind (arith, ints, nat_tests)

lt_true : (a b : ℤ) → int_lt a b ≡ true → a <ℤ b
lt_true a b e = grind (arith, ints, nat_tests)

lt_false : (a b : ℤ) → int_lt a b ≡ false → b ≤ℤ a
lt_false a b e = grind (arith, ints, nat_tests)

decided : (tokens : Tokens) (g : Value) (m n : ℤ) (a b : Bool) → AreGivenTerms g.terms → IsGreatest tokens g.terms m → IsGreatest tokens (others true g.terms) n
    → int_le (least_value g.target) (g.rest -ℤ n) ≡ a → int_lt (m +ℤ g.rest) (value_limit g.target) ≡ b → MatchBool (a && b) (StaysInRange tokens g) (StaysInRange tokens g → ⊥)
decided tokens g m n true true h p q d e = λ s v r.
    record {
      at_least = above _ _ _ _ _ (opposite s v g.terms h.each) (q.most s v r) (le_true _ _ d);
      below = under _ _ _ _ (p.most s v r) (lt_true _ _ e);
    }
  where
    above : (least rest n sum opp : ℤ) → opp ≡ neg_ℤ sum → opp ≤ℤ n → least ≤ℤ (rest -ℤ n) → least ≤ℤ (sum +ℤ rest)
    above least rest n sum opp e k l = omega (arith, ints)

    under : (sum m rest limit : ℤ) → sum ≤ℤ m → (m +ℤ rest) <ℤ limit → (sum +ℤ rest) <ℤ limit
    under sum m rest limit k l = omega (arith, ints)
decided tokens g m n true false h p q d e = λ k. clash _ _ _ _ p.reached (lt_false _ _ e) (k p.setting p.fields p.range).below
  where
    clash : (sum m rest limit : ℤ) → sum ≡ m → limit ≤ℤ (m +ℤ rest) → (sum +ℤ rest) <ℤ limit → ⊥
    clash sum m rest limit e k l = absurd (omega (arith, ints))
decided tokens g m n false b h p q d e = λ k. clash _ _ _ _ _ (opposite q.setting q.fields g.terms h.each) q.reached (le_false _ _ d) (k q.setting q.fields q.range).at_least
  where
    clash : (least rest n sum opp : ℤ) → opp ≡ neg_ℤ sum → opp ≡ n → (rest -ℤ n) <ℤ least → least ≤ℤ (sum +ℤ rest) → ⊥
    clash least rest n sum opp e d k l = absurd (omega (arith, ints))

-- the same as the code has read its parts
pub stays_read : (tokens : Tokens) (g : Value) (b : Bool) (m n x y : ℤ) (ts opp : List Term) → AreGivenTerms g.terms → IsGreatest tokens ts m → IsGreatest tokens opp n → ts ≡ g.terms → opp ≡ others true g.terms
    → b ≡ (int_le (least_value g.target) x && int_lt y (value_limit g.target)) → x ≡ g.rest -ℤ n → y ≡ m +ℤ g.rest → MatchBool b (StaysInRange tokens g) (StaysInRange tokens g → ⊥)
stays_read tokens g b m n x y ts opp h p q d e r k l =
    subst (λ z. MatchBool z (StaysInRange tokens g) (StaysInRange tokens g → ⊥)) (sym (r ∙ ap (λ z. int_le (least_value g.target) z && int_lt y (value_limit g.target)) k ∙ ap (λ z. int_le (least_value g.target) (g.rest -ℤ n) && int_lt z (value_limit g.target)) l))
    (decided tokens g m n _ _ h (subst (λ z. IsGreatest tokens z m) d p) (subst (λ z. IsGreatest tokens z n) e q) refl refl)

-- ---- the value of the target

same_term : {a b : Term} {us vs : List Term} → a ∷ us ≡ b ∷ vs → a ≡ b
same_term e = cc

other_sum : (s : Setting) (v : ℕ → ℤ) (turn b : Bool) (t : Term) (ts us : List Term) → sum_of s v us ≡ turned turn (sum_of s v ts)
    → sum_of s v (if b then us else (record { coefficient = turned turn t.coefficient; atom = t.atom } ∷ us)) ≡ turned turn (sum_of s v (cond (not b) (t ∷ ts) ts))
other_sum s v turn true t ts us h = h
other_sum s v true false t ts us h = regroup _ _ _ _ (turned_times true t.coefficient (atom_value s v t.atom)) h
  where
    regroup : (a b c d : ℤ) → a ≡ neg_ℤ b → c ≡ neg_ℤ d → a +ℤ c ≡ neg_ℤ (b +ℤ d)
    regroup a b c d p q = omega (arith, ints)
other_sum s v false false t ts us h = ap (λ z. (t.coefficient *ℤ atom_value s v t.atom) +ℤ z) h

others_sum : (s : Setting) (v : ℕ → ℤ) (turn : Bool) (ts : List Term) → sum_of s v (others turn ts) ≡ turned turn (sum_of s v (filter (λ (t : Term). not (is_operand_atom t.atom)) ts))
others_sum s v true [] = refl
others_sum s v false [] = refl
others_sum s v turn (t ∷ ts) = other_sum s v turn (is_operand_atom t.atom) t (filter (λ (t : Term). not (is_operand_atom t.atom)) ts) (others turn ts) (others_sum s v turn ts)

unit_times : (turn : Bool) (x : ℤ) → turned turn (negsuc 0) *ℤ x ≡ turned (not turn) x
unit_times true x = one_times x
unit_times false x = minus_times x

target_value : (turn : Bool) (c x given rest : ℤ) → c ≡ turned turn (negsuc 0) → (c *ℤ x) +ℤ (given +ℤ rest) ≡ pos 0 → x ≡ turned turn given +ℤ turned turn rest
target_value true c x given rest e h = solve (c *ℤ x) x given rest (ap (λ k. k *ℤ x) e ∙ unit_times true x) h
  where
    solve : (p x g r : ℤ) → p ≡ x → p +ℤ (g +ℤ r) ≡ pos 0 → x ≡ neg_ℤ g +ℤ neg_ℤ r
    solve p x g r e h = omega (arith, ints)
target_value false c x given rest e h = solve (c *ℤ x) x given rest (ap (λ k. k *ℤ x) e ∙ unit_times false x) h
  where
    solve : (p x g r : ℤ) → p ≡ neg_ℤ x → p +ℤ (g +ℤ r) ≡ pos 0 → x ≡ g +ℤ r
    solve p x g r e h = omega (arith, ints)

value_target : (turn : Bool) (c x given rest : ℤ) → c ≡ turned turn (negsuc 0) → x ≡ turned turn given +ℤ turned turn rest → (c *ℤ x) +ℤ (given +ℤ rest) ≡ pos 0
value_target true c x given rest e h = solve (c *ℤ x) x given rest (ap (λ k. k *ℤ x) e ∙ unit_times true x) h
  where
    solve : (p x g r : ℤ) → p ≡ x → x ≡ neg_ℤ g +ℤ neg_ℤ r → p +ℤ (g +ℤ r) ≡ pos 0
    solve p x g r e h = omega (arith, ints)
value_target false c x given rest e h = solve (c *ℤ x) x given rest (ap (λ k. k *ℤ x) e ∙ unit_times false x) h
  where
    solve : (p x g r : ℤ) → p ≡ neg_ℤ x → x ≡ g +ℤ r → p +ℤ (g +ℤ r) ≡ pos 0
    solve p x g r e h = omega (arith, ints)

-- the value by the terms on the other side
abbrev valued : Bool → Atom → Equation → Value
valued turn target e = record { target = target; terms = others turn e.terms; rest = turned turn e.rest }

rest_within : (turn : Bool) (x : ℤ) → IsWithin (2 ^ 36) x → IsWithin (2 ^ 36) (turned turn x)
rest_within true x w = record { low = omega (arith, ints); high = omega (arith, ints) }
rest_within false x w = w

pub given_if_stays : (tokens : Tokens) (e : Equation) (target : Term) (turn : Bool) → target.coefficient ≡ turned turn (negsuc 0) → StaysInRange tokens (valued turn target.atom e) → IsGivenInRange tokens e target
given_if_stays tokens e target turn c h s v x halves fields labels g =
    subst (IsBetween (least_value target.atom) (value_limit target.atom)) (ap (λ z. z +ℤ turned turn e.rest) (others_sum s v turn e.terms) ∙ sym (target_value turn target.coefficient x _ _ c g))
    (h s v (record { halves = halves; fields_range = fields; labels_range = labels }))

pub stays_if_given : (tokens : Tokens) (e : Equation) (target : Term) (turn : Bool) → target.coefficient ≡ turned turn (negsuc 0) → IsGivenInRange tokens e target → StaysInRange tokens (valued turn target.atom e)
stays_if_given tokens e target turn c h s v r =
    h s v (sum_of s v (others turn e.terms) +ℤ turned turn e.rest) r.halves r.fields_range r.labels_range
    (value_target turn target.coefficient _ _ _ c (ap (λ z. z +ℤ turned turn e.rest) (others_sum s v turn e.terms)))

target_order : (e : Equation) (target : Term) → IsPlainEquation e → IsTarget e target → IsInOrder target.atom
target_order e target p t = found e.terms p.orders target t.only
  where
    skip : (x : Term) (ts : List Term) → All (λ (t : Term). IsInOrder t.atom) (x ∷ ts) → All (λ (t : Term). IsInOrder t.atom) ts
    skip x ts h k d l = let q : suc k < suc (length ts) = omega arith in h (suc k) d q

    step : (b : Bool) (x : Term) (ts : List Term) (target : Term) → All (λ (t : Term). IsInOrder t.atom) (x ∷ ts)
        → (filter (λ (t : Term). is_operand_atom t.atom) ts ≡ target ∷ [] → IsInOrder target.atom) → cond b (x ∷ filter (λ (t : Term). is_operand_atom t.atom) ts) (filter (λ (t : Term). is_operand_atom t.atom) ts) ≡ target ∷ [] → IsInOrder target.atom
    step true x ts target h go e = let z : 0 < suc (length ts) = omega arith in subst (λ (t : Term). IsInOrder t.atom) (same_term e) (h 0 x z)
    step false x ts target h go e = go e

    found : (ts : List Term) → All (λ (t : Term). IsInOrder t.atom) ts → (target : Term) → filter (λ (t : Term). is_operand_atom t.atom) ts ≡ target ∷ [] → IsInOrder target.atom
    found [] h target e = cc
    found (x ∷ ts) h target e = step (is_operand_atom x.atom) x ts target h (found ts (skip x ts h) target) e

other_atom : (P : Atom → Type 0) (turn b : Bool) (t : Term) (ts : List Term) → P t.atom → All (λ (t : Term). P t.atom) ts → All (λ (t : Term). P t.atom) (if b then ts else (record { coefficient = turned turn t.coefficient; atom = t.atom } ∷ ts))
other_atom P turn true t ts p h = h
other_atom P turn false t ts p h = All-cons (λ (t : Term). P t.atom) (record { coefficient = turned turn t.coefficient; atom = t.atom }) ts p h

pub others_atoms : (P : Atom → Type 0) (turn : Bool) (ts : List Term) → All (λ (t : Term). P t.atom) ts → All (λ (t : Term). P t.atom) (others turn ts)
others_atoms P turn [] h = h
others_atoms P turn (t ∷ ts) h = other_atom P turn (is_operand_atom t.atom) t (others turn ts) (All-head (λ (t : Term). P t.atom) t ts h) (others_atoms P turn ts (All-tail (λ (t : Term). P t.atom) t ts h))

-- what the code has made of an equation
pub record IsMade (tokens : Tokens) (e : Equation) (target : Term) (g : Value) : Type 0 where
  pub terms : AreGivenTerms g.terms
  pub rest : IsWithin (2 ^ 36) g.rest
  pub order : IsInOrder g.target
  pub given : StaysInRange tokens g → IsValueOf tokens e g
  pub not_given : (StaysInRange tokens g → ⊥) → GivesOperand tokens e → ⊥

pub made : (tokens : Tokens) (e : Equation) (target : Term) (turn : Bool) (g : Value) → IsPlainEquation e → IsTarget e target → target.coefficient ≡ turned turn (negsuc 0) → g ≡ valued turn target.atom e → Gives e g → IsMade tokens e target g
made tokens e target turn g p t c is gives = let P : Value → Type 0 = λ x. Gives e x → IsMade tokens e target x in subst P (sym is) (λ x. record {
  terms = others_given turn e.terms p.coefficients p.few;
  rest = rest_within turn e.rest p.rest;
  order = target_order e target p t;
  given = λ s. record { target = target; is_target = t; named = refl; order = target_order e target p t; gives = x; terms = others_given turn e.terms p.coefficients p.few; turn = turn; terms_are = refl; rest = rest_within turn e.rest p.rest; in_range = given_if_stays tokens e target turn c s; range = s };
  not_given = λ n o. n (stays_if_given tokens e target turn c (subst (IsGivenInRange tokens e) (same_term (sym o.1.only ∙ t.only)) o.2));
}) gives

pub unit_turn : (c : ℤ) → (c ≡ pos 1) ⊎ (c ≡ pos 0 -ℤ pos 1) → c ≡ turned (nat_eq (of_z w64 c) 1) (negsuc 0)
unit_turn c (inl e) = subst (λ x. x ≡ turned (nat_eq (of_z w64 x) 1) (negsuc 0)) (sym e) refl
unit_turn c (inr e) = subst (λ x. x ≡ turned (nat_eq (of_z w64 x) 1) (negsuc 0)) (sym e) refl
