-- Targets that are held once.
use Rattle.std.proofs.Common.{ℕ, zero, suc, ◌+◌, ◌-◌, ◌≡◌, ◌==◌, ◌<◌, ◌≤◌, ◌⊎◌, inl, inr, Bool, true, false, cond, not, nat_le, ◌&&◌, List, [], ◌∷◌, ◌++◌, length, length-append, map, filter, All, slice_get, Some, None, Option, refl, ap, sym, ◌∙◌, arith, subst}
use Rattle.std.proofs.lemmas.Bool.Decides.{nat_tests}
use Rattle.std.proofs.lemmas.Bool.{cases_eq}
use Rattle.std.proofs.lemmas.Option.{slice_get_within, get_or_from_slice_get}
use Rattle.std.proofs.lemmas.List.Elements.{All-get_or}
use Rattle.std.specs.List.{flat_map}
use Rattle.token_bits.specs.declared.tokens.Tokens.{Tokens}
use Rattle.sled_model.specs.declared.constructor.Atom.{Atom}
use Rattle.sled_model.specs.declared.constructor.Atom.TheVariants.{Name, Field, Signed, Slice, Label}
use Rattle.sled_model.specs.declared.constructor.Term.{Term}
use Rattle.sled_model.specs.declared.constructor.Equation.{Equation}
use Rattle.sled_model.specs.declared.constructor.OperandKind.{OperandKind}
use Rattle.sled_model.specs.declared.constructor.OperandKind.TheVariants.{Plain, Extended, Typed, Whole, Sliced}
use Rattle.sled_model.specs.Solved.{is_operand_atom, is_whole_of, is_bit_of, operand_terms, IsHeldOnce}
use Rattle.eq_solver.specs.declared.plan.Value.{Value}
use Rattle.eq_solver.specs.Ranges.{IsValueOf, IsInOrder}
use Rattle.eq_solver.specs.Values.{AreValuesOf, IsHeldBy, is_ending, is_slice_of, low_of, IsFound}

-- ---- one element of a list

pub push_cases : {A : Type 0} (xs : List A) (x : A) (i : ℕ) (y : A) → slice_get (xs ++ x ∷ []) i ≡ Some y → (slice_get xs i ≡ Some y) ⊎ ((i ≡ length xs) × (x ≡ y))
push_cases [] x zero y e = inr (refl, cc)
push_cases [] x (suc i) y e = cc
push_cases (z ∷ xs) x zero y e = inl e
push_cases (z ∷ xs) x (suc i) y e = elim (push_cases xs x i y e) [ inl h ↦ inl h | inr h ↦ inr (ap suc h.0, h.1) ]

module _ {A : Type 0} (p : A → Bool) where
  none_step : (x : A) (xs : List A) (a : A) → ((i : ℕ) → length (filter p xs) ≡ 0 → slice_get xs i ≡ Some a → ⊥) → p a ≡ true
      → (b : Bool) → p x ≡ b → length (cond b (x ∷ filter p xs) (filter p xs)) ≡ 0 → (i : ℕ) → slice_get (x ∷ xs) i ≡ Some a → ⊥
  none_step x xs a go h true d n i e = absurd (omega arith)
  none_step x xs a go h false d n zero e = cc
  none_step x xs a go h false d n (suc i) e = go i n e

  none_passes : (xs : List A) (a : A) → p a ≡ true → (i : ℕ) → length (filter p xs) ≡ 0 → slice_get xs i ≡ Some a → ⊥
  none_passes [] a h i n e = cc
  none_passes (x ∷ xs) a h i n e = none_step x xs a (none_passes xs a h) h (p x) refl n i e

  one_step : (x : A) (xs : List A) (a b : A) → ((i j : ℕ) → length (filter p xs) ≡ 1 → slice_get xs i ≡ Some a → slice_get xs j ≡ Some b → i ≡ j) → p a ≡ true → p b ≡ true
      → (t : Bool) → p x ≡ t → length (cond t (x ∷ filter p xs) (filter p xs)) ≡ 1 → (i j : ℕ) → slice_get (x ∷ xs) i ≡ Some a → slice_get (x ∷ xs) j ≡ Some b → i ≡ j
  one_step x xs a b go g h true t n zero zero d e = refl
  one_step x xs a b go g h true t n (suc i) j d e = let z : length (filter p xs) ≡ 0 = omega arith in absurd (none_passes xs a g i z d)
  one_step x xs a b go g h true t n zero (suc j) d e = let z : length (filter p xs) ≡ 0 = omega arith in absurd (none_passes xs b h j z e)
  one_step x xs a b go g h false t n zero j d e = cc
  one_step x xs a b go g h false t n (suc i) zero d e = cc
  one_step x xs a b go g h false t n (suc i) (suc j) d e = ap suc (go i j n d e)

  -- where one passes, it is this one
  pub one_passes : (xs : List A) (a b : A) → p a ≡ true → p b ≡ true → (i j : ℕ) → length (filter p xs) ≡ 1 → slice_get xs i ≡ Some a → slice_get xs j ≡ Some b → i ≡ j
  one_passes [] a b g h i j n d e = cc
  one_passes (x ∷ xs) a b g h i j n d e = one_step x xs a b (one_passes xs a b g h) g h (p x) refl n i j d e

  some_step : (x : A) (xs : List A) → (length (filter p xs) ≡ 1 → (i : ℕ) × (a : A) × (slice_get xs i ≡ Some a) × (p a ≡ true)) → (b : Bool) → p x ≡ b → length (cond b (x ∷ filter p xs) (filter p xs)) ≡ 1
      → (i : ℕ) × (a : A) × (slice_get (x ∷ xs) i ≡ Some a) × (p a ≡ true)
  some_step x xs go true d n = (0, x, refl, d)
  some_step x xs go false d n = let r = go n in (suc r.0, r.1, r.2, r.3)

  pub some_passes : (xs : List A) → length (filter p xs) ≡ 1 → (i : ℕ) × (a : A) × (slice_get xs i ≡ Some a) × (p a ≡ true)
  some_passes [] n = absurd (omega arith)
  some_passes (x ∷ xs) n = some_step x xs (some_passes xs) (p x) refl n

-- ---- terms and targets

module _ (p : Atom → Bool) (operands : (a : Atom) → p a ≡ true → is_operand_atom a ≡ true) where
  twice_step : (t : Term) (us vs : List Term) → filter (λ (t : Term). p t.atom) us ≡ vs → (b q : Bool) → is_operand_atom t.atom ≡ b → p t.atom ≡ q
      → filter (λ (t : Term). p t.atom) (cond b (t ∷ us) us) ≡ cond q (t ∷ vs) vs
  twice_step t us vs h true true d e = ap (λ b. cond b (t ∷ filter (λ (t : Term). p t.atom) us) (filter (λ (t : Term). p t.atom) us)) e ∙ ap (λ ts. t ∷ ts) h
  twice_step t us vs h true false d e = ap (λ b. cond b (t ∷ filter (λ (t : Term). p t.atom) us) (filter (λ (t : Term). p t.atom) us)) e ∙ h
  twice_step t us vs h false true d e = let o = operands t.atom e in cc
  twice_step t us vs h false false d e = h

  passed_twice : (ts : List Term) → filter (λ (t : Term). p t.atom) (filter (λ (t : Term). is_operand_atom t.atom) ts) ≡ filter (λ (t : Term). p t.atom) ts
  passed_twice [] = refl
  passed_twice (t ∷ ts) = twice_step t (filter (λ (t : Term). is_operand_atom t.atom) ts) (filter (λ (t : Term). p t.atom) ts) (passed_twice ts) (is_operand_atom t.atom) (p t.atom) refl refl

  in_equation : (tokens : Tokens) (e : Equation) (g : Value) → IsValueOf tokens e g → length (filter (λ (t : Term). p t.atom) e.terms) ≡ cond (p g.target) 1 0
  in_equation tokens e g v =
      ap length (sym (passed_twice e.terms) ∙ ap (filter (λ (t : Term). p t.atom)) v.is_target.only) ∙ single (p v.target.atom) v.target ∙ ap (λ a. cond (p a) 1 0) (sym v.named)
    where
      single : (b : Bool) (t : Term) → length (cond b (t ∷ []) []) ≡ cond b 1 0
      single true t = refl
      single false t = refl

  -- as many terms of the equations as targets of their values
  pub counted : (tokens : Tokens) (es : List Equation) (gs : List Value) → AreValuesOf tokens es gs
      → length (flat_map (λ (e : Equation). filter (λ (t : Term). p t.atom) e.terms) es) ≡ length (filter (λ (a : Atom). p a) (map (λ (g : Value). g.target) gs))
  counted tokens [] [] v = refl
  counted tokens [] (g ∷ gs) v = let z = v.one_each in absurd (omega arith)
  counted tokens (e ∷ es) [] v = let z = v.one_each in absurd (omega arith)
  counted tokens (e ∷ es) (g ∷ gs) v =
      let rest : AreValuesOf tokens es gs = record { one_each = (let z = v.one_each in omega arith); each = λ i. v.each (suc i) } in
      length-append (filter (λ (t : Term). p t.atom) e.terms) (flat_map (λ (e : Equation). filter (λ (t : Term). p t.atom) e.terms) es)
      ∙ regroup (p g.target) _ _ _ (in_equation tokens e g (v.each 0 e g refl refl)) (counted tokens es gs rest)
    where
      regroup : (b : Bool) (m n : ℕ) (as' : List Atom) → m ≡ cond b 1 0 → n ≡ length as' → m + n ≡ length (cond b (g.target ∷ as') as')
      regroup true m n as' d e = omega arith
      regroup false m n as' d e = omega arith

whole_operand : (k : ℕ) (a : Atom) → is_whole_of k a ≡ true → is_operand_atom a ≡ true
whole_operand k (Name j) h = refl
whole_operand k (Slice j lo hi) h = refl
whole_operand k (Field f) h = cc
whole_operand k (Signed f) h = cc
whole_operand k (Label l) h = cc

bit_operand : (k bit : ℕ) (a : Atom) → is_bit_of k bit a ≡ true → is_operand_atom a ≡ true
bit_operand k bit (Name j) h = refl
bit_operand k bit (Slice j lo hi) h = refl
bit_operand k bit (Field f) h = cc
bit_operand k bit (Signed f) h = cc
bit_operand k bit (Label l) h = cc

pub held_once : (tokens : Tokens) (es : List Equation) (gs : List Value) → AreValuesOf tokens es gs → (k : ℕ) (kind : OperandKind) → IsHeldBy (map (λ (g : Value). g.target) gs) k kind → IsHeldOnce es k kind
held_once tokens es gs v k Whole h = counted (is_whole_of k) (whole_operand k) tokens es gs v ∙ h
held_once tokens es gs v k Sliced h = λ bit l. counted (is_bit_of k bit) (bit_operand k bit) tokens es gs v ∙ h bit l
held_once tokens es gs v k (Plain f) h = tt
held_once tokens es gs v k (Extended f) h = tt
held_once tokens es gs v k (Typed t) h = tt

pub once_held : (tokens : Tokens) (es : List Equation) (gs : List Value) → AreValuesOf tokens es gs → (k : ℕ) (kind : OperandKind) → IsHeldOnce es k kind → IsHeldBy (map (λ (g : Value). g.target) gs) k kind
once_held tokens es gs v k Whole h = sym (counted (is_whole_of k) (whole_operand k) tokens es gs v) ∙ h
once_held tokens es gs v k Sliced h = λ bit l. sym (counted (is_bit_of k bit) (bit_operand k bit) tokens es gs v) ∙ h bit l
once_held tokens es gs v k (Plain f) h = tt
once_held tokens es gs v k (Extended f) h = tt
once_held tokens es gs v k (Typed t) h = tt

-- ---- the values one by one

pub values_more : (tokens : Tokens) (es : List Equation) (gs gs' : List Value) (n : ℕ) (e : Equation) (g : Value) → length gs ≡ n → ((i : ℕ) (e : Equation) (g : Value) → slice_get es i ≡ Some e → slice_get gs i ≡ Some g → IsValueOf tokens e g)
    → gs' ≡ gs ++ g ∷ [] → slice_get es n ≡ Some e → IsValueOf tokens e g → (i : ℕ) (e : Equation) (h : Value) → slice_get es i ≡ Some e → slice_get gs' i ≡ Some h → IsValueOf tokens e h
values_more tokens es gs gs' n e g size each pushed there v i d h is_there got =
    elim (push_cases gs g i h (ap (λ xs. slice_get xs i) (sym pushed) ∙ got)) [
      | inl s ↦ each i d h is_there s
      | inr s ↦ let same : e ≡ d = cc in subst (λ x. IsValueOf tokens d x) s.1 (subst (λ x. IsValueOf tokens x g) same v)
    ]

-- ---- the slices of an operand

ending_bit : (k top : ℕ) (a : Atom) → IsInOrder a → is_bit_of k top a ≡ true → is_ending k (top + 1) a ≡ false → is_bit_of k (top + 1) a ≡ true
ending_bit k top (Slice j lo hi) o h n = grind (arith, nat_tests)
ending_bit k top (Name j) o h n = cc
ending_bit k top (Field f) o h n = cc
ending_bit k top (Signed f) o h n = cc
ending_bit k top (Label l) o h n = cc

bit_low : (k bit : ℕ) (a : Atom) → is_bit_of k bit a ≡ true → low_of a ≤ bit
bit_low k bit (Slice j lo hi) h = grind (arith, nat_tests)
bit_low k bit (Name j) h = cc
bit_low k bit (Field f) h = cc
bit_low k bit (Signed f) h = cc
bit_low k bit (Label l) h = cc

bit_top : (k bit : ℕ) (a : Atom) → IsInOrder a → is_bit_of k bit a ≡ true → bit < 32
bit_top k bit (Slice j lo hi) o h = let m : hi ≤ 31 = o.1 in grind (arith, nat_tests)
bit_top k bit (Name j) o h = cc
bit_top k bit (Field f) o h = cc
bit_top k bit (Signed f) o h = cc
bit_top k bit (Label l) o h = cc

pub ending_low : (k top : ℕ) (a : Atom) → IsInOrder a → is_ending k top a ≡ true → is_bit_of k (low_of a) a ≡ true
ending_low k top (Slice j lo hi) o h = let m : lo ≤ hi = o.0 in grind (arith, nat_tests)
ending_low k top (Name j) o h = cc
ending_low k top (Field f) o h = cc
ending_low k top (Signed f) o h = cc
ending_low k top (Label l) o h = cc

pub ending_below : (k top : ℕ) (a : Atom) → IsInOrder a → is_ending k top a ≡ true → low_of a < top
ending_below k top (Slice j lo hi) o h = let m : lo ≤ hi = o.0 in grind (arith, nat_tests)
ending_below k top (Name j) o h = cc
ending_below k top (Field f) o h = cc
ending_below k top (Signed f) o h = cc
ending_below k top (Label l) o h = cc

-- at bit `top` a slice begins, or the number ends
abbrev pub IsBoundary : List Atom → ℕ → ℕ → Type 0
IsBoundary targets k top = (top ≡ 32) ⊎ ((i : ℕ) × (a : Atom) × (slice_get targets i ≡ Some a) × (is_bit_of k top a ≡ true) × (low_of a ≡ top))

pub order_at : (targets : List Atom) (i : ℕ) (a : Atom) → All IsInOrder targets → slice_get targets i ≡ Some a → IsInOrder a
order_at targets i a o e = subst IsInOrder (get_or_from_slice_get targets i a a e) (All-get_or IsInOrder targets i a (slice_get_within targets i a e) o)

-- so a slice ends there
pub ends_there : (targets : List Atom) (k below : ℕ) → All IsInOrder targets → IsHeldBy targets k Sliced → IsBoundary targets k (below + 1) → below + 1 ≤ 32 → ((i : ℕ) → IsFound targets k (below + 1) i → ⊥) → ⊥
ends_there targets k below o h b l none =
    let inside : below < 32 = omega arith in
    let r = some_passes (is_bit_of k below) targets (h below inside) in
    let order = order_at targets r.0 r.1 o r.2 in
    elim (cases (is_ending k (below + 1) r.1)) [
      | inl t ↦ none r.0 (r.1, r.2, t)
      | inr f ↦ let more = ending_bit k below r.1 order r.3 f in
          let within = bit_top k (below + 1) r.1 order more in
          elim b [
            | inl e ↦ absurd (omega arith)
            | inr s ↦ clash r.0 s.0 r.1 s.1 (one_passes (is_bit_of k (below + 1)) targets r.1 s.1 more s.3 r.0 s.0 (h (below + 1) within) r.2 s.2) r.2 s.2 (bit_low k below r.1 r.3) s.4
          ]
    ]
  where
    cases : (b : Bool) → (b ≡ true) ⊎ (b ≡ false)
    cases true = inl refl
    cases false = inr refl

    same_some : (o : Option Atom) (a b : Atom) → o ≡ Some a → o ≡ Some b → a ≡ b
    same_some o a b p q = cc

    clash : (i j : ℕ) (a b : Atom) → i ≡ j → slice_get targets i ≡ Some a → slice_get targets j ≡ Some b → low_of a ≤ below → low_of b ≡ below + 1 → ⊥
    clash i j a b e p q l m = let s = ap low_of (same_some (slice_get targets i) a b p (ap (slice_get targets) e ∙ q)) in absurd (omega arith)
