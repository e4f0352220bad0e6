-- The plan of a constructor gives its operands.
use Rattle.std.proofs.Common.{ℕ, zero, suc, ◌+◌, ◌-◌, ◌^◌, ◌≡◌, ◌≢◌, ◌==◌, ◌<◌, ◌≤◌, ◌⊎◌, inl, inr, Bool, true, false, cond, if◌then◌else◌, List, [], ◌∷◌, length, map, filter, get_or, All, slice_get, Some, None, Option, option_map, ℤ, pos, ◌+ℤ◌, ◌*ℤ◌, refl, ap, sym, ◌∙◌, arith, subst}
use Rattle.std.proofs.lemmas.Bool.Decides.{nat_tests}
use Rattle.std.proofs.lemmas.Int.{ints}
use Rattle.std.proofs.lemmas.Option.{slice_get-map, slice_get_within, slice_get-get_or, get_or_from_slice_get}
use Rattle.std.proofs.lemmas.List.{length-map}
use Rattle.std.proofs.lemmas.List.Elements.{All-get_or, All-head, All-tail, All-map}
use Rattle.token_bits.specs.declared.tokens.Tokens.{Tokens}
use Rattle.sled_model.specs.declared.constructor.Atom.{Atom}
use Rattle.sled_model.specs.declared.constructor.Atom.TheVariants.{Name, Field, Signed, Slice, Label}
use Rattle.sled_model.specs.declared.constructor.Term.{Term}
use Rattle.sled_model.specs.declared.constructor.Equation.{Equation}
use Rattle.sled_model.specs.declared.constructor.Constructor.{Constructor}
use Rattle.sled_model.specs.declared.constructor.OperandKind.{OperandKind}
use Rattle.sled_model.specs.declared.constructor.OperandKind.TheVariants.{Plain, Extended, Typed, Whole, Sliced}
use Rattle.sled_model.specs.Equations.{Setting, half_of, atom_value, sum_of, IsBetween, AreFieldValues}
use Rattle.sled_model.specs.SolvingOrder.{bare_fields, is_among}
use Rattle.sled_model.specs.Linear.{labels_in, IsAtomOf, IsTermOf, IsEquationOf}
use Rattle.sled_model.specs.Solved.{is_operand_atom, operand_terms, is_bit_of, is_whole_of, IsTarget, AreLabelValues}
use Rattle.sled_model.specs.Solutions.{setting_of}
use Rattle.eq_solver.specs.declared.plan.Plan.{Plan}
use Rattle.eq_solver.specs.declared.plan.Value.{Value}
use Rattle.eq_solver.specs.Sums.{at, setting_from, IsAtom, IsTerm}
use Rattle.eq_solver.specs.Cells.{cell_of, IsAtomAmong, celled_atom, celled_term, celled_value, IsPlanOf}
use Rattle.eq_solver.specs.Ranges.{IsValueOf, IsGivenTerm, IsInOrder}
use Rattle.eq_solver.specs.Values.{is_slice_of}
use Rattle.eq_solver.specs.Given.{value_at, IsPlaced, IsTargetOf}
use Rattle.eq_solver.specs.Operands.{AreCellValues}
use Rattle.eq_solver.proofs.OfCells.{cell_below, AreAtomsAmong}
use Rattle.eq_solver.proofs.Orders.{map_some}
use Rattle.eq_solver.proofs.FieldValues.{Match, same_sum}
use Rattle.eq_solver.proofs.Staying.{others_atoms}
use Rattle.eq_solver.proofs.Greatest.{given_head, given_tail}
use Rattle.eq_solver.proofs.Conditions.{some_at}
use Rattle.eq_solver.proofs.GivenValues.{among_of}

-- ---- the target stands in its equation

target_if : (P : Atom → Type 0) (b : Bool) (x : Term) (ts us : List Term) (target : Term) → P x.atom → (us ≡ target ∷ [] → P target.atom) → cond b (x ∷ us) us ≡ target ∷ [] → P target.atom
target_if P true x ts us target p go e = subst (λ (t : Term). P t.atom) (same e) p
  where
    same : {a b : Term} {xs ys : List Term} → a ∷ xs ≡ b ∷ ys → a ≡ b
    same e = cc
target_if P false x ts us target p go e = go e

target_among : (P : Atom → Type 0) (ts : List Term) (target : Term) → All (λ (t : Term). P t.atom) ts → filter (λ (t : Term). is_operand_atom t.atom) ts ≡ target ∷ [] → P target.atom
target_among P [] target h e = cc
target_among P (x ∷ ts) target h e =
    target_if P (is_operand_atom x.atom) x ts (filter (λ (t : Term). is_operand_atom t.atom) ts) target (All-head (λ (t : Term). P t.atom) x ts h) (target_among P ts target (All-tail (λ (t : Term). P t.atom) x ts h)) e

-- ---- sums without operands

free_atom : (tokens : Tokens) (x y labels v : ℕ → ℤ) (a : Atom) → is_operand_atom a ≡ false → atom_value (setting_of tokens x labels) v a ≡ atom_value (setting_of tokens y labels) v a
free_atom tokens x y labels v (Name k) h = cc
free_atom tokens x y labels v (Field f) h = refl
free_atom tokens x y labels v (Signed f) h = refl
free_atom tokens x y labels v (Slice k lo hi) h = cc
free_atom tokens x y labels v (Label k) h = refl

free_sum : (tokens : Tokens) (x y labels v : ℕ → ℤ) (ts : List Term) → All IsGivenTerm ts → sum_of (setting_of tokens x labels) v ts ≡ sum_of (setting_of tokens y labels) v ts
free_sum tokens x y labels v [] h = refl
free_sum tokens x y labels v (t ∷ ts) h =
    ap (λ a. (t.coefficient *ℤ a) +ℤ sum_of (setting_of tokens x labels) v ts) (free_atom tokens x y labels v t.atom (given_head t ts h).1)
    ∙ ap (λ s. (t.coefficient *ℤ atom_value (setting_of tokens y labels) v t.atom) +ℤ s) (free_sum tokens x y labels v ts (given_tail t ts h))

among_each : (fs : List ℕ) (ts : List Term) → All (λ (t : Term). IsAtomAmong fs t.atom) ts → AreAtomsAmong fs ts
among_each fs [] h = tt
among_each fs (t ∷ ts) h = (All-head (λ (t : Term). IsAtomAmong fs t.atom) t ts h, among_each fs ts (All-tail (λ (t : Term). IsAtomAmong fs t.atom) t ts h))

placed_target : (c : Constructor) (a : Atom) → IsAtomOf c a → IsTargetOf (length c.operands) a
placed_target c (Name k) h = slice_get_within c.operands k Whole h
placed_target c (Field f) h = tt
placed_target c (Signed f) h = tt
placed_target c (Slice k lo hi) h = (slice_get_within c.operands k Sliced h.0, h.1, h.2)
placed_target c (Label l) h = tt

placed_atom : (c : Constructor) (n l : ℕ) (a : Atom) → n ≡ length (bare_fields c.body) → l ≡ length (labels_in c.body) → is_operand_atom a ≡ false → IsAtomOf c a → IsAtom [] n l (celled_atom (bare_fields c.body) a)
placed_atom c n l (Name k) e d g h = cc
placed_atom c n l (Field f) e d g h = subst (λ m. cell_of (bare_fields c.body) f.0 < m) (sym e) (cell_below (bare_fields c.body) f.0 h)
placed_atom c n l (Signed f) e d g h = subst (λ m. cell_of (bare_fields c.body) f.0 < m) (sym e) (cell_below (bare_fields c.body) f.0 h)
placed_atom c n l (Slice k lo hi) e d g h = cc
placed_atom c n l (Label k) e d g h = subst (λ m. k < m) (sym d) h

module _ (tokens : Tokens) (c : Constructor) (plan : Plan) (is : IsPlanOf tokens c plan) where
  -- the value of this number, with fields by their numbers, and its equation
  pub record IsThere (j : ℕ) (h : Value) : Type 0 where
    pub value : Value
    pub celled_is : celled_value (bare_fields c.body) value ≡ h
    pub value_there : slice_get is.values_are.given j ≡ Some value
    pub equation : Equation
    pub equation_there : slice_get c.equations j ≡ Some equation
    pub value_of : IsValueOf tokens equation value

  equation_value : (j : ℕ) (g h : Value) → slice_get is.values_are.given j ≡ Some g → celled_value (bare_fields c.body) g ≡ h → IsThere j h
  equation_value j g h s e =
      let v = is.values_are.solved_by.values in
      let l = slice_get_within is.values_are.given j g s in
      let q = some_at c.equations j (let z = v.one_each in omega (arith, z, l)) in
      record { value = g; celled_is = e; value_there = s; equation = q.0; equation_there = q.1; value_of = v.each j q.0 g q.1 s }

  pub value_there : (j : ℕ) (h : Value) → slice_get plan.values j ≡ Some h → IsThere j h
  value_there j h s =
      let fs = bare_fields c.body in
      let r = map_some (celled_value fs) (slice_get is.values_are.given j) h (sym (slice_get-map (celled_value fs) is.values_are.given j) ∙ ap (λ xs. slice_get xs j) (sym is.values_are.celled_are) ∙ s) in
      equation_value j r.0 h r.1 r.2

  pub equation_terms : (j : ℕ) (e : Equation) → slice_get c.equations j ≡ Some e → All (λ (t : Term). IsAtomOf c t.atom) e.terms
  equation_terms j e s =
      let q = subst (IsEquationOf c) (get_or_from_slice_get c.equations j e e s) (All-get_or (IsEquationOf c) c.equations j e (slice_get_within c.equations j e s) is.linear.equations) in
      λ i d l. (q.terms i d l).atom

  pub target_of : (j : ℕ) (h : Value) (t : IsThere j h) → IsAtomOf c t.value.target
  target_of j h t =
      subst (IsAtomOf c) (sym t.value_of.named) (target_among (IsAtomOf c) t.equation.terms t.value_of.target (equation_terms j t.equation t.equation_there) t.value_of.is_target.only)

  pub terms_of : (j : ℕ) (h : Value) (t : IsThere j h) → All (λ (t : Term). IsAtomOf c t.atom) t.value.terms
  terms_of j h t = subst (λ ts. All (λ (t : Term). IsAtomOf c t.atom) ts) (sym t.value_of.terms_are) (others_atoms (IsAtomOf c) t.value_of.turn t.equation.terms (equation_terms j t.equation t.equation_there))

  pub placed_value : (n l j : ℕ) (h : Value) → n ≡ length (bare_fields c.body) → l ≡ length (labels_in c.body) → IsThere j h → IsPlaced (length c.operands) n l h
  placed_value n l j h e d t = subst (IsPlaced (length c.operands) n l) t.celled_is (record {
    target = placed_target c t.value.target (target_of j h t);
    terms = All-map (IsTerm [] n l) (celled_term (bare_fields c.body)) t.value.terms
        (λ i x b. record { coefficient = (t.value_of.terms.each i x b).0; atom = placed_atom c n l _ e d (t.value_of.terms.each i x b).1 (terms_of j h t i x b) });
    few = subst (λ m. m ≤ 16) (sym (length-map {B = Term} t.value.terms (celled_term (bare_fields c.body)))) t.value_of.terms.few;
    rest = t.value_of.rest;
  })

  -- its value, by fields named by their numbers
  pub value_is : (labels fields : List ℤ) (u v : ℕ → ℤ) (j : ℕ) (h : Value) → Match (bare_fields c.body) (at fields) v → (t : IsThere j h)
      → value_at (setting_from plan.halves [] labels) (at fields) h ≡ sum_of (setting_of tokens u (at labels)) v t.value.terms +ℤ t.value.rest
  value_is labels fields u v j h m t =
      ap (value_at (setting_from plan.halves [] labels) (at fields)) (sym t.celled_is)
      ∙ ap (λ s. s +ℤ t.value.rest)
      (same_sum tokens (bare_fields c.body) plan.halves [] labels (at fields) v is.halves_are m t.value.terms
      (among_each (bare_fields c.body) t.value.terms (λ i d l. among_of c _ (terms_of j h t i d l)))
      ∙ free_sum tokens (at []) u (at labels) v t.value.terms t.value_of.terms.each)
