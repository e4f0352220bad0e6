-- The constructors of the tests.
use Rattle.std.proofs.Common.{ℕ, zero, suc, ◌-◌, ◌^◌, ◌≡◌, ◌≢◌, ◌≤◌, ◌++◌, true, List, [], ◌∷◌, length, Some, None, IsSome, slice_get, All, AllPairs, ℤ, pos, ◌-ℤ◌, ◌≤ℤ◌, refl, ap, sym, ◌∙◌, arith, subst}
use Rattle.std.specs.List.{flat_map}
use Rattle.std.proofs.lemmas.Int.{ints}
use Rattle.std.proofs.lemmas.List.{length-map}
use Rattle.std.proofs.lemmas.List.Elements.{All-nil, All-cons}
use Rattle.std.proofs.lemmas.List.Kept.{AllPairs-cons}
use Rattle.token_bits.specs.declared.tokens.Tokens.{Tokens}
use Rattle.token_bits.specs.declared.tokens.FieldId.{FieldId}
use Rattle.sled_model.specs.declared.constructor.Atom.{Atom}
use Rattle.sled_model.specs.declared.constructor.Atom.TheVariants.{Name, Field, Signed, Slice}
use Rattle.sled_model.specs.declared.constructor.Term.{Term}
use Rattle.sled_model.specs.declared.constructor.Equation.{Equation}
use Rattle.sled_model.specs.declared.constructor.Constructor.{Constructor}
use Rattle.sled_model.specs.declared.constructor.OperandKind.{OperandKind}
use Rattle.sled_model.specs.declared.constructor.OperandKind.TheVariants.{Whole, Sliced}
use Rattle.sled_model.specs.declared.pattern.Pattern.{Pattern, Row_of-Pattern, end_of-Pattern, more_of-Pattern, items-the_row-Pattern, items_hidden-the_row-Pattern-1}
use Rattle.sled_model.specs.declared.pattern.Argument.TheBlock.{hidden-the_row-Pattern-1}
use Rattle.sled_model.specs.declared.pattern.Pattern.TheVariants.{Bind, Both}
use Rattle.sled_model.specs.Equations.{IsBetween}
use Rattle.sled_model.specs.SolvingOrder.{bare_fields, is_among}
use Rattle.sled_model.specs.Linear.{labels_in, row_labels, IsAtomOf, IsTermOf, IsEquationOf, IsLinear}
use Rattle.eq_solver.specs.declared.plan.Plan.{Plan}
use Rattle.eq_solver.specs.declared.plan.Source.{Source}
use Rattle.eq_solver.specs.Sums.{at}
use Rattle.eq_solver.specs.Starts.{Suits}
use Rattle.eq_solver.specs.Cells.{source_from, IsPlanOf}
use Rattle.eq_solver.specs.Inputs.{IsInKind}
use Rattle.eq_solver.proofs.BareFields.{fields-Both}
use Rattle.eq_solver.proofs.Suited.{suits_of}

abbrev pub low : FieldId
low = record { 0 = 0 }

abbrev high : FieldId
high = record { 0 = 1 }

abbrev pub made : List OperandKind → List Equation → Pattern → Constructor
made kinds es p = record { name = []; result = None; operands = kinds; names = []; equations = es; body = p }

abbrev pub term : ℤ → Atom → Term
term x a = record { coefficient = x; atom = a }

abbrev pub equation : List Term → Equation
equation ts = record { terms = ts; rest = pos 0 }

-- ---- bodies

abbrev pub both_fields : Pattern
both_fields = Both (Bind low ∷ Bind high ∷ [])

bare_both : bare_fields both_fields ≡ 0 ∷ 1 ∷ []
bare_both = fields-Both (Bind low ∷ Bind high ∷ [])

row_labels-row : {n : _} (ps : Row_of-Pattern n) → row_labels ps ≡ flat_map labels_in (items-the_row-Pattern _ ps)
row_labels-row end_of-Pattern = refl
row_labels-row (more_of-Pattern p ps) = ap (λ ls. labels_in p ++ ls) (row_labels-row ps)

pub labels_both : labels_in both_fields ≡ []
labels_both = row_labels-row (hidden-the_row-Pattern-1 (Bind low ∷ Bind high ∷ [])) ∙ ap (flat_map labels_in) (items_hidden-the_row-Pattern-1 (Bind low ∷ Bind high ∷ []))

-- ---- terms

pub term_of : (c : Constructor) (n : ℕ) (a : Atom) → 1 ≤ n → n ≤ 2 ^ 16 → IsAtomOf c a → IsTermOf c (term (pos n) a)
term_of c n a l h i = record { coefficient = record { low = omega (arith, ints); high = omega (arith, ints) }; nonzero = λ e. absurd (omega (arith, ints, e, l)); atom = i }

pub minus_of : (c : Constructor) (n : ℕ) (a : Atom) → 1 ≤ n → n ≤ 2 ^ 16 → IsAtomOf c a → IsTermOf c (term (pos 0 -ℤ pos n) a)
minus_of c n a l h i = record { coefficient = record { low = omega (arith, ints); high = omega (arith, ints) }; nonzero = λ e. absurd (omega (arith, ints, e, l)); atom = i }

equation_of : (c : Constructor) (ts : List Term) → All (IsTermOf c) ts → length ts ≤ 16 → IsEquationOf c (equation ts)
equation_of c ts h l = record { terms = h; few = l; rest = record { low = omega (arith, ints); high = omega (arith, ints) } }

module _ (c : Constructor) where
  one_term : (s : Term) → IsTermOf c s → IsEquationOf c (equation (s ∷ []))
  one_term s h = equation_of c (s ∷ []) (All-cons (IsTermOf c) s [] h (All-nil (IsTermOf c))) (omega arith)

  pub two_terms : (s t : Term) → IsTermOf c s → IsTermOf c t → IsEquationOf c (equation (s ∷ t ∷ []))
  two_terms s t h k = equation_of c (s ∷ t ∷ []) (All-cons (IsTermOf c) s (t ∷ []) h (All-cons (IsTermOf c) t [] k (All-nil (IsTermOf c)))) (omega arith)

  three_terms : (s t u : Term) → IsTermOf c s → IsTermOf c t → IsTermOf c u → IsEquationOf c (equation (s ∷ t ∷ u ∷ []))
  three_terms s t u h k l =
      equation_of c (s ∷ t ∷ u ∷ []) (All-cons (IsTermOf c) s (t ∷ u ∷ []) h (All-cons (IsTermOf c) t (u ∷ []) k (All-cons (IsTermOf c) u [] l (All-nil (IsTermOf c))))) (omega arith)

-- ---- slices of one operand

abbrev pub slices_made : Constructor
slices_made = made (Sliced ∷ []) (equation (term (pos 1) (Slice 0 10 31) ∷ term (pos 0 -ℤ pos 1) (Field low) ∷ []) ∷ equation (term (pos 1) (Slice 0 0 9) ∷ []) ∷ []) (Bind low)

pub slices_linear : (tokens : Tokens) (c : Constructor) → c ≡ slices_made → IsSome (slice_get tokens.fields 0) → IsLinear tokens c
slices_linear tokens c e k =
    let c' = slices_made in
    let first = two_terms c' (term (pos 1) (Slice 0 10 31)) (term (pos 0 -ℤ pos 1) (Field low)) (term_of c' 1 (Slice 0 10 31) (omega arith) (omega arith) (refl, omega arith, omega arith)) (minus_of c' 1 (Field low) (omega arith) (omega arith) refl) in
    let second = one_term c' (term (pos 1) (Slice 0 0 9)) (term_of c' 1 (Slice 0 0 9) (omega arith) (omega arith) (refl, omega arith, omega arith)) in
    let E = IsEquationOf c' in
    subst (IsLinear tokens) (sym e) (record {
      known = All-cons (λ f. IsSome (slice_get tokens.fields f)) 0 [] k (All-nil (λ f. IsSome (slice_get tokens.fields f)));
      once = λ i j d l m. absurd (omega (arith, l, m));
      bare = All-nil (λ f. is_among (0 ∷ []) f ≡ true);
      apart = λ i j d l m. absurd (omega (arith, m));
      few_operands = omega arith;
      few_equations = omega arith;
      equations = All-cons E (equation (term (pos 1) (Slice 0 10 31) ∷ term (pos 0 -ℤ pos 1) (Field low) ∷ [])) (equation (term (pos 1) (Slice 0 0 9) ∷ []) ∷ []) first
          (All-cons E (equation (term (pos 1) (Slice 0 0 9) ∷ [])) [] second (All-nil E));
    })

pub slices_suit : (tokens : Tokens) (c : Constructor) (plan : Plan) (x : ℤ) → c ≡ slices_made → IsPlanOf tokens c plan → IsBetween (pos 0) (pos (2 ^ 32)) x → Suits plan (x ∷ []) []
slices_suit tokens c plan x e is b =
    suits_of tokens c plan is (x ∷ []) [] (record { one_each = ap (λ (d : Constructor). length d.operands) (sym e); each = λ k kind q. each k kind (ap (λ (d : Constructor). slice_get d.operands k) (sym e) ∙ q) })
    (record { one_each = ap (λ (d : Constructor). length (labels_in d.body)) (sym e); each = λ l m. absurd (omega (arith, m)) })
  where
    range : IsInKind tokens Sliced x
    range = (b.at_least, below)
      where
        below : x ≤ℤ pos (2 ^ 32 - 1)
        below = omega (arith, ints, b.below)

    each : (k : ℕ) (kind : OperandKind) → slice_get (Sliced ∷ []) k ≡ Some kind → IsInKind tokens kind (at (x ∷ []) k)
    each zero kind q = let s : Sliced ≡ kind = cc in subst (λ kind. IsInKind tokens kind x) s range
    each (suc k) kind q = cc

pub slices_size : (tokens : Tokens) (c : Constructor) (plan : Plan) → c ≡ slices_made → IsPlanOf tokens c plan → 1 ≡ length plan.sources
slices_size tokens c plan e is = sym (ap length is.sources_are ∙ length-map {B = Source} (bare_fields c.body) (source_from 0 c.operands) ∙ ap (λ (d : Constructor). length (bare_fields d.body)) e)

-- ---- sums of two fields

abbrev sum_at : ℕ → Equation
sum_at k = equation (term (pos 1) (Name k) ∷ term (pos 0 -ℤ pos 1) (Field low) ∷ term (pos 0 -ℤ pos 1) (Field high) ∷ [])

abbrev scaled_sum : Equation
scaled_sum = equation (term (pos 1) (Name 0) ∷ term (pos 0 -ℤ pos 1) (Field low) ∷ term (pos 0 -ℤ pos 65536) (Signed high) ∷ [])

abbrev one_field : Equation
one_field = equation (term (pos 1) (Name 1) ∷ term (pos 0 -ℤ pos 1) (Signed high) ∷ [])

module _ (kinds : List OperandKind) (es : List Equation) where
  low_there : is_among (bare_fields both_fields) 0 ≡ true
  low_there = ap (λ fs. is_among fs 0) bare_both

  high_there : is_among (bare_fields both_fields) 1 ≡ true
  high_there = ap (λ fs. is_among fs 1) bare_both

  sum_of_both : (k : ℕ) → slice_get kinds k ≡ Some Whole → IsEquationOf (made kinds es both_fields) (sum_at k)
  sum_of_both k w =
      let c = made kinds es both_fields in
      three_terms c (term (pos 1) (Name k)) (term (pos 0 -ℤ pos 1) (Field low)) (term (pos 0 -ℤ pos 1) (Field high)) (term_of c 1 (Name k) (omega arith) (omega arith) w) (minus_of c 1 (Field low) (omega arith) (omega arith) low_there)
      (minus_of c 1 (Field high) (omega arith) (omega arith) high_there)

  scaled_of_both : slice_get kinds 0 ≡ Some Whole → IsEquationOf (made kinds es both_fields) scaled_sum
  scaled_of_both w =
      let c = made kinds es both_fields in
      three_terms c (term (pos 1) (Name 0)) (term (pos 0 -ℤ pos 1) (Field low)) (term (pos 0 -ℤ pos 65536) (Signed high)) (term_of c 1 (Name 0) (omega arith) (omega arith) w)
      (minus_of c 1 (Field low) (omega arith) (omega arith) low_there) (minus_of c 65536 (Signed high) (omega arith) (omega arith) high_there)

  field_of_both : slice_get kinds 1 ≡ Some Whole → IsEquationOf (made kinds es both_fields) one_field
  field_of_both w =
      let c = made kinds es both_fields in
      two_terms c (term (pos 1) (Name 1)) (term (pos 0 -ℤ pos 1) (Signed high)) (term_of c 1 (Name 1) (omega arith) (omega arith) w) (minus_of c 1 (Signed high) (omega arith) (omega arith) high_there)

  both_known : (tokens : Tokens) → IsSome (slice_get tokens.fields 0) → IsSome (slice_get tokens.fields 1) → All (λ f. IsSome (slice_get tokens.fields f)) (bare_fields both_fields)
  both_known tokens k l =
      let P = λ (f : ℕ). IsSome (slice_get tokens.fields f) in
      subst (All P) (sym bare_both) (All-cons P 0 (1 ∷ []) k (All-cons P 1 [] l (All-nil P)))

  both_once : AllPairs (λ (f g : ℕ). f ≢ g) (bare_fields both_fields)
  both_once =
      let D = λ (f g : ℕ). f ≢ g in
      subst (AllPairs D) (sym bare_both) (AllPairs-cons D 0 (1 ∷ []) (All-cons (D 0) 1 [] (λ e. absurd (omega (arith, e))) (All-nil (D 0))) (λ i j d l m. absurd (omega (arith, l, m))))

abbrev pub sums_made : Constructor
sums_made = made (Whole ∷ Whole ∷ Whole ∷ []) (scaled_sum ∷ one_field ∷ sum_at 2 ∷ []) both_fields

abbrev pub sum_made : Constructor
sum_made = made (Whole ∷ []) (sum_at 0 ∷ []) both_fields

pub sums_linear : (tokens : Tokens) (c : Constructor) → c ≡ sums_made → IsSome (slice_get tokens.fields 0) → IsSome (slice_get tokens.fields 1) → IsLinear tokens c
sums_linear tokens c e k l =
    let kinds = Whole ∷ Whole ∷ Whole ∷ [] in
    let es = scaled_sum ∷ one_field ∷ sum_at 2 ∷ [] in
    let E = IsEquationOf sums_made in
    subst (IsLinear tokens) (sym e) (record {
      known = both_known kinds es tokens k l;
      once = both_once kinds es;
      bare = All-nil (λ f. is_among (bare_fields both_fields) f ≡ true);
      apart = λ i j d l m. absurd (omega (arith, m));
      few_operands = omega arith;
      few_equations = omega arith;
      equations = All-cons E scaled_sum (one_field ∷ sum_at 2 ∷ []) (scaled_of_both kinds es refl)
          (All-cons E one_field (sum_at 2 ∷ []) (field_of_both kinds es refl) (All-cons E (sum_at 2) [] (sum_of_both kinds es 2 refl) (All-nil E)));
    })

pub sum_linear : (tokens : Tokens) (c : Constructor) → c ≡ sum_made → IsSome (slice_get tokens.fields 0) → IsSome (slice_get tokens.fields 1) → IsLinear tokens c
sum_linear tokens c e k l =
    let kinds = Whole ∷ [] in
    let es = sum_at 0 ∷ [] in
    let E = IsEquationOf sum_made in
    subst (IsLinear tokens) (sym e) (record {
      known = both_known kinds es tokens k l;
      once = both_once kinds es;
      bare = All-nil (λ f. is_among (bare_fields both_fields) f ≡ true);
      apart = λ i j d l m. absurd (omega (arith, m));
      few_operands = omega arith;
      few_equations = omega arith;
      equations = All-cons E (sum_at 0) [] (sum_of_both kinds es 0 refl) (All-nil E);
    })

pub sums_suit : (tokens : Tokens) (c : Constructor) (plan : Plan) (x y z : ℤ) → c ≡ sums_made → IsPlanOf tokens c plan → IsBetween (pos 0 -ℤ pos (2 ^ 34)) (pos (2 ^ 34)) x → IsBetween (pos 0 -ℤ pos (2 ^ 34)) (pos (2 ^ 34)) y
    → IsBetween (pos 0 -ℤ pos (2 ^ 34)) (pos (2 ^ 34)) z → Suits plan (x ∷ y ∷ z ∷ []) []
sums_suit tokens c plan x y z e is p q r =
    suits_of tokens c plan is (x ∷ y ∷ z ∷ []) [] (record { one_each = ap (λ (d : Constructor). length d.operands) (sym e); each = λ k kind s. each k kind (ap (λ (d : Constructor). slice_get d.operands k) (sym e) ∙ s) })
    (record { one_each = sym (ap (λ (d : Constructor). length (labels_in d.body)) e ∙ ap length labels_both); each = λ l m. absurd (omega (arith, m)) })
  where
    range : (x : ℤ) → IsBetween (pos 0 -ℤ pos (2 ^ 34)) (pos (2 ^ 34)) x → IsInKind tokens Whole x
    range x b = let h : x ≤ℤ pos (2 ^ 34 - 1) = omega (arith, ints, b.below) in (b.at_least, h)

    each : (k : ℕ) (kind : OperandKind) → slice_get (Whole ∷ Whole ∷ Whole ∷ []) k ≡ Some kind → IsInKind tokens kind (at (x ∷ y ∷ z ∷ []) k)
    each zero kind s = let t : Whole ≡ kind = cc in subst (λ kind. IsInKind tokens kind x) t (range x p)
    each (suc zero) kind s = let t : Whole ≡ kind = cc in subst (λ kind. IsInKind tokens kind y) t (range y q)
    each (suc (suc zero)) kind s = let t : Whole ≡ kind = cc in subst (λ kind. IsInKind tokens kind z) t (range z r)
    each (suc (suc (suc k))) kind s = cc

pub sums_size : (tokens : Tokens) (c : Constructor) (plan : Plan) → c ≡ sums_made → IsPlanOf tokens c plan → 2 ≡ length plan.sources
sums_size tokens c plan e is =
    sym (ap length is.sources_are ∙ length-map {B = Source} (bare_fields c.body) (source_from 0 c.operands) ∙ ap (λ (d : Constructor). length (bare_fields d.body)) e ∙ ap length bare_both)
