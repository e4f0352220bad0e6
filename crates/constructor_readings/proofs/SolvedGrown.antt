-- A constructor that can be read stays so where more classes and fields are declared.
use Rattle.std.proofs.Common.{◌≡◌, ℕ, ◌+◌, ◌-◌, ◌^◌, ◌<◌, ⊎_elim, Bool, true, false, cond, List, [], ◌∷◌, filter, slice_get, IsSome, is_some, pos, refl, sym, ap, ◌∙◌, subst, arith}
use Rattle.std.specs.Prelude.{ℤ, ◌+ℤ◌, ◌*ℤ◌, ◌≤ℤ◌, All}
use Rattle.std.specs.Option.{option_map_or}
use Rattle.std.proofs.lemmas.Bool.{eqb-true, or_cases}
use Rattle.std.proofs.lemmas.Int.{ints}
use Rattle.std.proofs.lemmas.List.Elements.{All-nil, All-cons, All-head, All-tail, All-weaker, All-filter}
use Rattle.std.proofs.lemmas.Nat.{pow_pos}
use Rattle.token_bits.specs.declared.tokens.Tokens.{Tokens}
use Rattle.token_bits.specs.Tokens.{width_of}
use Rattle.sled_model.specs.declared.constructor.Atom.{Atom}
use Rattle.sled_model.specs.declared.constructor.Atom.TheVariants.{Name, Field, Signed, Slice, Label}
use Rattle.sled_model.specs.declared.constructor.Constructor.{Constructor}
use Rattle.sled_model.specs.declared.constructor.Equation.{Equation}
use Rattle.sled_model.specs.declared.constructor.Term.{Term}
use Rattle.sled_model.specs.Equations.{Setting, half_of, sign_extended, atom_value, sum_of, IsBetween, AreFieldValues}
use Rattle.sled_model.specs.Linear.{IsLinear, IsAtomOf, IsTermOf, IsEquationOf}
use Rattle.sled_model.specs.Solved.{IsSolved, GivesOperand, IsGivenInRange, given_terms, is_operand_atom}
use Rattle.sled_model.specs.SolvingOrder.{bare_fields, is_among}
use Rattle.sled_model.proofs.LeafLemmas.{Grows, known_below}
use Rattle.match_meaning.specs.Readable.{IsReadable}

-- ---- lists

-- what is true of all is true of one that is among them
among_all : (P : ℕ → Type 0) (fs : List ℕ) (f : ℕ) → All P fs → is_among fs f ≡ true → P f
among_all P [] f h among = cc
among_all P (g ∷ fs) f h among = ⊎_elim
    (λ same. subst P (eqb-true g f same) (All-head P g fs h))
    (λ later. among_all P fs f (All-tail P g fs h) later)
    (or_cases _ (is_among fs f) among)

-- what both facts give of each, they give of all
pub all_by_both : {A : Type 0} (P Q R : A → Type 0) → ((x : A) → P x → Q x → R x) → (xs : List A) → All P xs → All Q xs → All R xs
all_by_both P Q R both [] h g = All-nil R
all_by_both P Q R both (x ∷ xs) h g =
    All-cons R x xs (both x (All-head P x xs h) (All-head Q x xs g)) (all_by_both P Q R both xs (All-tail P x xs h) (All-tail Q x xs g))

module _ (t u : Tokens) (n : ℕ) (grows : Grows t u n n) where
  abbrev IsKnown : ℕ → Type 0
  IsKnown f = IsSome (slice_get t.fields f)

  field_kept : (f : ℕ) → IsKnown f → IsSome (slice_get u.fields f)
  field_kept f h = ap is_some (grows.fields f (known_below t.fields f h)) ∙ h

  half_kept : (f : ℕ) → IsKnown f → half_of u f ≡ half_of t f
  half_kept f h = ap (λ o. pos (2 ^ (option_map_or width_of o 0 - 1))) (grows.fields f (known_below t.fields f h))

  -- ---- the values of the fields that were there before

  abbrev old_fields : (ℕ → ℤ) → ℕ → ℤ
  old_fields fields f = cond (is_some (slice_get t.fields f)) (fields f) (pos 0)

  abbrev old_setting : Setting → Setting
  old_setting setting = record { halves = half_of t; operands = setting.operands; labels = setting.labels }

  positive : (x : ℕ) → 0 < x → IsBetween (pos 0) (pos x +ℤ pos x) (pos 0)
  positive x h = record { at_least = omega (arith, ints); below = omega (arith, ints) }

  zero_within : (f : ℕ) → IsBetween (pos 0) (half_of t f +ℤ half_of t f) (pos 0)
  zero_within f = positive (2 ^ (option_map_or width_of (slice_get t.fields f) 0 - 1)) (pow_pos (option_map_or width_of (slice_get t.fields f) 0 - 1))

  old_values : (fields : ℕ → ℤ) → AreFieldValues (half_of u) fields → AreFieldValues (half_of t) (old_fields fields)
  old_values fields values f = by_test (is_some (slice_get t.fields f)) refl where
    by_test : (b : Bool) → is_some (slice_get t.fields f) ≡ b → IsBetween (pos 0) (half_of t f +ℤ half_of t f) (cond b (fields f) (pos 0))
    by_test true is = subst (λ half. IsBetween (pos 0) (half +ℤ half) (fields f)) (half_kept f is) (values f)
    by_test false is = zero_within f

  old_field : (fields : ℕ → ℤ) (f : ℕ) → IsKnown f → fields f ≡ old_fields fields f
  old_field fields f h = sym (ap (λ b. cond b (fields f) (pos 0)) h)

  module _ (c : Constructor) (linear : IsLinear t c) (setting : Setting) (fields : ℕ → ℤ) (halves : setting.halves ≡ half_of u) where
    bare_known : (f : ℕ) → is_among (bare_fields c.body) f ≡ true → IsKnown f
    bare_known f among = among_all IsKnown (bare_fields c.body) f linear.known among

    same_atom : (a : Atom) → IsAtomOf c a → atom_value setting fields a ≡ atom_value (old_setting setting) (old_fields fields) a
    same_atom (Name k) h = refl
    same_atom (Field f) h = old_field fields f.0 (bare_known f.0 h)
    same_atom (Signed f) h =
        let known = bare_known f.0 h in
        ap (λ x. sign_extended (setting.halves f.0) x) (old_field fields f.0 known)
        ∙ ap (λ half. sign_extended half (old_fields fields f.0)) (ap (λ (hs : ℕ → ℤ). hs f.0) halves ∙ half_kept f.0 known)
    same_atom (Slice k lo hi) h = refl
    same_atom (Label l) h = refl

    same_sum : (ts : List Term) → All (IsTermOf c) ts → sum_of setting fields ts ≡ sum_of (old_setting setting) (old_fields fields) ts
    same_sum [] h = refl
    same_sum (x ∷ ts) h =
        ap (λ v. (x.coefficient *ℤ v) +ℤ sum_of setting fields ts) (same_atom x.atom (All-head (IsTermOf c) x ts h).atom)
        ∙ ap (λ s. (x.coefficient *ℤ atom_value (old_setting setting) (old_fields fields) x.atom) +ℤ s) (same_sum ts (All-tail (IsTermOf c) x ts h))

  module _ (c : Constructor) (linear : IsLinear t c) where
    gives_kept : (e : Equation) → IsEquationOf c e → GivesOperand t e → GivesOperand u e
    gives_kept e is h = (
      h.0,
      h.1,
      λ setting fields x halves values labels gives.
          h.2 (old_setting setting) (old_fields fields) x refl (old_values fields values) labels
          (subst (λ s. (h.0.coefficient *ℤ x) +ℤ (s +ℤ e.rest) ≡ pos 0)
          (same_sum c linear setting fields halves (given_terms e) (All-filter _ (IsTermOf c) e.terms is.terms)) gives),
    )

    solved_kept : IsSolved t c → IsSolved u c
    solved_kept h = record {
      gives = all_by_both (IsEquationOf c) (GivesOperand t) (GivesOperand u) gives_kept c.equations linear.equations h.gives;
      held = h.held;
    }

    linear_kept : IsLinear u c
    linear_kept = record {
      known = All-weaker IsKnown (λ f. IsSome (slice_get u.fields f)) field_kept (bare_fields c.body) linear.known;
      once = linear.once;
      bare = linear.bare;
      apart = linear.apart;
      few_operands = linear.few_operands;
      few_equations = linear.few_equations;
      equations = linear.equations;
    }

  readable_kept : (c : Constructor) → IsReadable t c → IsReadable u c
  readable_kept c h = record {
    linear = linear_kept c h.linear;
    determined = h.determined;
    solved = solved_kept c h.linear h.solved;
    sides = h.sides;
    typed = h.typed;
  }

  pub all_readable : (cs : List Constructor) → All (IsReadable t) cs → All (IsReadable u) cs
  all_readable cs h = All-weaker (IsReadable t) (IsReadable u) readable_kept cs h
