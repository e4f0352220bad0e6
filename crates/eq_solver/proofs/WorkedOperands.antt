-- The constructors of the tests of operands.
use Rattle.std.proofs.Common.{ℕ, ◌+◌, ◌^◌, ◌≡◌, ◌<◌, true, List, [], ◌∷◌, length, Some, None, IsSome, slice_get, All, ℤ, pos, ◌-ℤ◌, refl, ap, sym, ◌∙◌, arith, subst}
use Rattle.std.proofs.lemmas.List.Elements.{All-nil, All-cons}
use Rattle.token_bits.specs.declared.tokens.Tokens.{Tokens}
use Rattle.sled_model.specs.declared.constructor.Atom.TheVariants.{Name, Field, Slice}
use Rattle.sled_model.specs.declared.constructor.Term.{Term}
use Rattle.sled_model.specs.declared.constructor.Constructor.{Constructor}
use Rattle.sled_model.specs.declared.constructor.OperandKind.{OperandKind}
use Rattle.sled_model.specs.declared.constructor.OperandKind.TheVariants.{Whole, Sliced}
use Rattle.sled_model.specs.declared.pattern.Pattern.TheVariants.{Bind}
use Rattle.sled_model.specs.SolvingOrder.{is_among}
use Rattle.sled_model.specs.Linear.{labels_in, IsTermOf, IsEquationOf, IsLinear}
use Rattle.eq_solver.specs.declared.plan.Plan.{Plan}
use Rattle.eq_solver.specs.Sums.{at}
use Rattle.eq_solver.specs.Steps.{AreFields}
use Rattle.eq_solver.specs.Cells.{IsPlanOf}
use Rattle.eq_solver.specs.Operands.{IsPlanWith, AreCellValues}
use Rattle.eq_solver.proofs.Linears.{sound_of}
use Rattle.eq_solver.proofs.Worked.{low, made, term, equation, term_of, minus_of, two_terms, slices_made, slices_size, sums_made, sums_size, labels_both}

pub slices_with : (tokens : Tokens) (c : Constructor) (plan : Plan) → c ≡ slices_made → IsPlanOf tokens c plan → IsPlanWith plan 0 1
slices_with tokens c plan e is = (tokens, c, is, ap (λ (d : Constructor). length (labels_in d.body)) e, ap (λ (d : Constructor). length d.operands) e)

pub slices_cells : (tokens : Tokens) (c : Constructor) (plan : Plan) (out : List ℤ) → c ≡ slices_made → IsPlanOf tokens c plan → length out ≡ 1 → AreFields (at plan.halves) (length plan.sources) (at out) → AreCellValues plan.halves out
slices_cells tokens c plan out e is l f =
    let sizes = (sound_of tokens c plan is).one_each in
    record { one_each = l ∙ slices_size tokens c plan e is ∙ sym sizes; range = λ k m. f.each k (subst (λ n. k < n) sizes m) }

pub sums_with : (tokens : Tokens) (c : Constructor) (plan : Plan) → c ≡ sums_made → IsPlanOf tokens c plan → IsPlanWith plan 0 3
sums_with tokens c plan e is = (tokens, c, is, ap (λ (d : Constructor). length (labels_in d.body)) e ∙ ap length labels_both, ap (λ (d : Constructor). length d.operands) e)

pub sums_cells : (tokens : Tokens) (c : Constructor) (plan : Plan) (out : List ℤ) → c ≡ sums_made → IsPlanOf tokens c plan → length out ≡ 2 → AreFields (at plan.halves) (length plan.sources) (at out) → AreCellValues plan.halves out
sums_cells tokens c plan out e is l f =
    let sizes = (sound_of tokens c plan is).one_each in
    record { one_each = l ∙ sums_size tokens c plan e is ∙ sym sizes; range = λ k m. f.each k (subst (λ n. k < n) sizes m) }

abbrev twice_operand_made : Constructor
twice_operand_made = made (Whole ∷ []) (equation (term (pos 2) (Name 0) ∷ term (pos 0 -ℤ pos 1) (Field low) ∷ []) ∷ []) (Bind low)

pub twice_operand_linear : (tokens : Tokens) (c : Constructor) → c ≡ twice_operand_made → IsSome (slice_get tokens.fields 0) → IsLinear tokens c
twice_operand_linear tokens c e k =
    let E = IsEquationOf twice_operand_made in
    subst (IsLinear tokens) (sym e) (record {
      known = All-cons (λ f. IsSome (slice_get tokens.fields f)) 0 [] k (All-nil (λ f. IsSome (slice_get tokens.fields f)));
      once = λ i j d l m. absurd (omega (arith, l, m));
      bare = All-nil (λ f. is_among (0 ∷ []) f ≡ true);
      apart = λ i j d l m. absurd (omega (arith, m));
      few_operands = omega arith;
      few_equations = omega arith;
      equations = All-cons E (equation (term (pos 2) (Name 0) ∷ term (pos 0 -ℤ pos 1) (Field low) ∷ [])) []
          (two_terms twice_operand_made (term (pos 2) (Name 0)) (term (pos 0 -ℤ pos 1) (Field low)) (term_of twice_operand_made 2 (Name 0) (omega arith) (omega arith) refl) (minus_of twice_operand_made 1 (Field low) (omega arith) (omega arith) refl)) (All-nil E);
    })

abbrev twice_field_made : Constructor
twice_field_made = made (Whole ∷ []) (equation (term (pos 1) (Name 0) ∷ term (pos 0 -ℤ pos 2) (Field low) ∷ []) ∷ []) (Bind low)

pub twice_field_linear : (tokens : Tokens) (c : Constructor) → c ≡ twice_field_made → IsSome (slice_get tokens.fields 0) → IsLinear tokens c
twice_field_linear tokens c e k =
    let E = IsEquationOf twice_field_made in
    subst (IsLinear tokens) (sym e) (record {
      known = All-cons (λ f. IsSome (slice_get tokens.fields f)) 0 [] k (All-nil (λ f. IsSome (slice_get tokens.fields f)));
      once = λ i j d l m. absurd (omega (arith, l, m));
      bare = All-nil (λ f. is_among (0 ∷ []) f ≡ true);
      apart = λ i j d l m. absurd (omega (arith, m));
      few_operands = omega arith;
      few_equations = omega arith;
      equations = All-cons E (equation (term (pos 1) (Name 0) ∷ term (pos 0 -ℤ pos 2) (Field low) ∷ [])) []
          (two_terms twice_field_made (term (pos 1) (Name 0)) (term (pos 0 -ℤ pos 2) (Field low)) (term_of twice_field_made 1 (Name 0) (omega arith) (omega arith) refl) (minus_of twice_field_made 2 (Field low) (omega arith) (omega arith) refl)) (All-nil E);
    })

abbrev low_byte_made : Constructor
low_byte_made = made (Sliced ∷ []) (equation (term (pos 1) (Slice 0 0 7) ∷ term (pos 0 -ℤ pos 1) (Field low) ∷ []) ∷ []) (Bind low)

pub low_byte_linear : (tokens : Tokens) (c : Constructor) → c ≡ low_byte_made → IsSome (slice_get tokens.fields 0) → IsLinear tokens c
low_byte_linear tokens c e k =
    let E = IsEquationOf low_byte_made in
    subst (IsLinear tokens) (sym e) (record {
      known = All-cons (λ f. IsSome (slice_get tokens.fields f)) 0 [] k (All-nil (λ f. IsSome (slice_get tokens.fields f)));
      once = λ i j d l m. absurd (omega (arith, l, m));
      bare = All-nil (λ f. is_among (0 ∷ []) f ≡ true);
      apart = λ i j d l m. absurd (omega (arith, m));
      few_operands = omega arith;
      few_equations = omega arith;
      equations = All-cons E (equation (term (pos 1) (Slice 0 0 7) ∷ term (pos 0 -ℤ pos 1) (Field low) ∷ [])) []
          (two_terms low_byte_made (term (pos 1) (Slice 0 0 7)) (term (pos 0 -ℤ pos 1) (Field low)) (term_of low_byte_made 1 (Slice 0 0 7) (omega arith) (omega arith) (refl, omega arith, omega arith)) (minus_of low_byte_made 1 (Field low) (omega arith) (omega arith) refl)) (All-nil E);
    })
