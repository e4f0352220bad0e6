-- A constructor's operands and labels suit its plan.
use Rattle.std.proofs.Common.{ℕ, zero, suc, ◌+◌, ◌-◌, ◌*◌, ◌^◌, ◌≡◌, ◌<◌, ◌≤◌, Bool, true, false, if◌then◌else◌, List, [], ◌∷◌, length, get_or, Some, slice_get, All, ℤ, pos, ◌+ℤ◌, ◌-ℤ◌, ◌≤ℤ◌, inl, inr, refl, ap, sym, ◌∙◌, arith, subst}
use Rattle.std.proofs.lemmas.Int.{ints}
use Rattle.std.proofs.lemmas.List.{length-map, get_or-map, get_or_past}
use Rattle.std.proofs.lemmas.List.Elements.{All-map, All-weaker}
use Rattle.std.proofs.lemmas.Option.{slice_get_within, slice_get_cases}
use Rattle.std.proofs.lemmas.Nat.{pow-add}
use Rattle.token_bits.specs.declared.tokens.Tokens.{Tokens}
use Rattle.token_bits.specs.declared.tokens.FieldId.{FieldId}
use Rattle.token_bits.specs.Tokens.{AreTokens}
use Rattle.sled_model.specs.declared.constructor.Atom.{Atom}
use Rattle.sled_model.specs.declared.constructor.Atom.TheVariants.{Name, Field, Signed, Slice, Label}
use Rattle.sled_model.specs.declared.constructor.Term.{Term}
use Rattle.sled_model.specs.declared.constructor.Equation.{Equation}
use Rattle.sled_model.specs.declared.constructor.Constructor.{Constructor}
use Rattle.sled_model.specs.declared.constructor.OperandKind.{OperandKind}
use Rattle.sled_model.specs.declared.constructor.OperandKind.TheVariants.{Plain, Extended, Typed, Whole, Sliced}
use Rattle.sled_model.specs.Measures.{width_at}
use Rattle.sled_model.specs.Equations.{half_of, IsBetween}
use Rattle.sled_model.specs.SolvingOrder.{bare_fields, is_field_operand}
use Rattle.sled_model.specs.Linear.{IsWithin, IsAtomOf, IsTermOf, IsEquationOf}
use Rattle.eq_solver.specs.declared.plan.Plan.{Plan}
use Rattle.eq_solver.specs.declared.plan.Source.{Source}
use Rattle.eq_solver.specs.declared.plan.Source.TheVariants as source
use Rattle.eq_solver.specs.Sums.{at, IsAtom, IsTerm, IsEquation}
use Rattle.eq_solver.specs.Plans.{IsInRange, source_at}
use Rattle.eq_solver.specs.Starts.{IsSourceOf, Suits}
use Rattle.eq_solver.specs.Cells.{cell_of, celled_atom, celled_term, celled, source_of, source_from, IsPlanOf}
use Rattle.eq_solver.specs.Inputs.{IsInKind, AreOperandsOf, AreLabelsOf}
use Rattle.eq_solver.proofs.OfCells.{same_number, cell_below}
use Rattle.eq_solver.proofs.Halves.{half_between, least_power}

-- ---- widths

-- all values of a field, in halves
both_halves : (w half : ℕ) → 2 ^ (w - 1) ≡ half → 2 ^ w - 1 < half + half
both_halves zero half e = omega (arith, e)
both_halves (suc w) half e = let p : 2 ^ w ≡ half = let q : suc w - 1 ≡ w = omega arith in ap (λ k. 2 ^ k) (sym q) ∙ e in let n : suc w ≡ 1 + w = omega arith in let d : 2 ^ suc w ≡ 2 * 2 ^ w = ap (λ k. 2 ^ k) n ∙ pow-add 2 1 w in let l = least_power w in omega (arith, p, d, l)

pub plain_range : (tokens : Tokens) (f : FieldId) (x : ℤ) → pos 0 ≤ℤ x → x ≤ℤ pos (2 ^ width_at tokens f - 1) → IsBetween (pos 0) (half_of tokens f.0 +ℤ half_of tokens f.0) x
plain_range tokens f x l h = between (2 ^ width_at tokens f - 1) (2 ^ (width_at tokens f - 1)) (both_halves (width_at tokens f) (2 ^ (width_at tokens f - 1)) refl) h
  where
    between : (most half : ℕ) → most < half + half → x ≤ℤ pos most → IsBetween (pos 0) (pos half +ℤ pos half) x
    between most half b h = record { at_least = l; below = omega (arith, ints) }

pub extended_range : (tokens : Tokens) (f : FieldId) (x : ℤ) → (pos 0 -ℤ pos (2 ^ (width_at tokens f - 1))) ≤ℤ x → x ≤ℤ pos (2 ^ (width_at tokens f - 1) - 1)
    → IsBetween (pos 1) (pos (2 ^ 31 + 1)) (half_of tokens f.0) → IsBetween (pos 0 -ℤ half_of tokens f.0) (half_of tokens f.0) x
extended_range tokens f x l h b = between (2 ^ (width_at tokens f - 1)) b l h
  where
    between : (half : ℕ) → IsBetween (pos 1) (pos (2 ^ 31 + 1)) (pos half) → (pos 0 -ℤ pos half) ≤ℤ x → x ≤ℤ pos (half - 1) → IsBetween (pos 0 -ℤ pos half) (pos half) x
    between half b l h = record { at_least = l; below = omega (arith, ints, b.at_least) }

-- ---- one operand

kind_within : (tokens : Tokens) (kind : OperandKind) (x : ℤ) → AreTokens tokens → IsInKind tokens kind x → IsWithin (2 ^ 34) x
kind_within tokens (Plain f) x a h =
    let b = half_between tokens f.0 a in let r = plain_range tokens f x h.0 h.1 in within (half_of tokens f.0) b r
  where
    within : (half : ℤ) → IsBetween (pos 1) (pos (2 ^ 31 + 1)) half → IsBetween (pos 0) (half +ℤ half) x → IsWithin (2 ^ 34) x
    within half b r = record { low = omega (arith, ints, r.at_least, r.below, b.below); high = omega (arith, ints, r.at_least, r.below, b.below) }
kind_within tokens (Extended f) x a h =
    let b = half_between tokens f.0 a in let r = extended_range tokens f x h.0 h.1 b in within (half_of tokens f.0) b r
  where
    within : (half : ℤ) → IsBetween (pos 1) (pos (2 ^ 31 + 1)) half → IsBetween (pos 0 -ℤ half) half x → IsWithin (2 ^ 34) x
    within half b r = record { low = omega (arith, ints, r.at_least, r.below, b.below); high = omega (arith, ints, r.at_least, r.below, b.below) }
kind_within tokens (Typed t) x a h = record { low = omega (arith, ints, h); high = omega (arith, ints, h) }
kind_within tokens Whole x a h = record { low = omega (arith, ints, h.0); high = omega (arith, ints, h.1) }
kind_within tokens Sliced x a h = record { low = omega (arith, ints, h.0); high = omega (arith, ints, h.1) }

nothing_within : (x : ℤ) → x ≡ pos 0 → IsWithin (2 ^ 34) x
nothing_within x h = record { low = omega (arith, ints, h); high = omega (arith, ints, h) }

label_within : (x : ℤ) → IsBetween (pos 0) (pos (2 ^ 33 + 1)) x → IsWithin (2 ^ 34) x
label_within x h = record { low = omega (arith, ints, h.at_least); high = omega (arith, ints, h.below) }

-- ---- sources

source_below_if : (n j : ℕ) (kind : OperandKind) (f : ℕ) (b : Bool) → j < n → (rest : Source) → IsSourceOf n rest → IsSourceOf n (if b then source_of kind j else rest)
source_below_if n j (Plain g) f true l rest h = l
source_below_if n j (Extended g) f true l rest h = l
source_below_if n j (Typed t) f true l rest h = tt
source_below_if n j Whole f true l rest h = tt
source_below_if n j Sliced f true l rest h = tt
source_below_if n j kind f false l rest h = h

pub source_below : (n j : ℕ) (kinds : List OperandKind) (f : ℕ) → j + length kinds ≡ n → IsSourceOf n (source_from j kinds f)
source_below n j [] f e = tt
source_below n j (kind ∷ kinds) f e =
    let l : j < n = omega (arith, e) in
    let more : j + 1 + length kinds ≡ n = omega (arith, e) in
    source_below_if n j kind f (is_field_operand f kind) l (source_from (j + 1) kinds f) (source_below n (j + 1) kinds f more)

source_range_if : (tokens : Tokens) (operands : ℕ → ℤ) (j : ℕ) (kind : OperandKind) (f : ℕ) (rest : Source) (b : Bool) → AreTokens tokens → is_field_operand f kind ≡ b → IsInKind tokens kind (operands j)
    → IsInRange (half_of tokens f) operands rest → IsInRange (half_of tokens f) operands (if b then source_of kind j else rest)
source_range_if tokens operands j (Plain g) f rest true a e h r = subst (λ k. IsBetween (pos 0) (half_of tokens k +ℤ half_of tokens k) (operands j)) (same_number g.0 f e) (plain_range tokens g (operands j) h.0 h.1)
source_range_if tokens operands j (Extended g) f rest true a e h r =
    subst (λ k. IsBetween (pos 0 -ℤ half_of tokens k) (half_of tokens k) (operands j)) (same_number g.0 f e) (extended_range tokens g (operands j) h.0 h.1 (half_between tokens g.0 a))
source_range_if tokens operands j (Typed t) f rest true a e h r = tt
source_range_if tokens operands j Whole f rest true a e h r = tt
source_range_if tokens operands j Sliced f rest true a e h r = tt
source_range_if tokens operands j kind f rest false a e h r = r

source_range : (tokens : Tokens) (operands : ℕ → ℤ) (j : ℕ) (kinds : List OperandKind) (f : ℕ) → AreTokens tokens → ((k : ℕ) (kind : OperandKind) → slice_get kinds k ≡ Some kind → IsInKind tokens kind (operands (j + k)))
    → IsInRange (half_of tokens f) operands (source_from j kinds f)
source_range tokens operands j [] f a h = tt
source_range tokens operands j (kind ∷ kinds) f a h =
    source_range_if tokens operands j kind f (source_from (j + 1) kinds f) (is_field_operand f kind) a refl (let e : j + 0 ≡ j = omega arith in subst (λ i. IsInKind tokens kind (operands i)) e (h 0 kind refl))
    (source_range tokens operands (j + 1) kinds f a (λ k other q. let e : j + suc k ≡ j + 1 + k = omega arith in subst (λ i. IsInKind tokens other (operands i)) e (h (suc k) other q)))

-- ---- a plan

module _ (tokens : Tokens) (c : Constructor) (plan : Plan) (is : IsPlanOf tokens c plan) (operands labels : List ℤ) (of : AreOperandsOf tokens c operands) (at_labels : AreLabelsOf c labels) where
  operand_within : (k : ℕ) → IsWithin (2 ^ 34) (at operands k)
  operand_within k = elim ((slice_get_cases c.operands k).1) [
    | inl h ↦ kind_within tokens h.0 (at operands k) is.tokens_sound (of.each k h.0 h.2)
    | inr h ↦ nothing_within (at operands k) (get_or_past operands k (pos 0) (subst (λ n. n ≤ k) (sym of.one_each) h.0))
  ]

  size : length plan.sources ≡ length (bare_fields c.body)
  size = ap length is.sources_are ∙ length-map {B = Source} (bare_fields c.body) (source_from 0 c.operands)

  atom_suits : (a : Atom) → IsAtomOf c a → IsAtom operands (length plan.sources) (length labels) (celled_atom (bare_fields c.body) a)
  atom_suits (Name k) h = subst (λ n. k < n) (sym of.one_each) (slice_get_within c.operands k Whole h)
  atom_suits (Field f) h = subst (λ n. cell_of (bare_fields c.body) f.0 < n) (sym size) (cell_below (bare_fields c.body) f.0 h)
  atom_suits (Signed f) h = subst (λ n. cell_of (bare_fields c.body) f.0 < n) (sym size) (cell_below (bare_fields c.body) f.0 h)
  atom_suits (Slice k lo hi) h =
      let x = of.each k Sliced h.0 in
      (subst (λ n. k < n) (sym of.one_each) (slice_get_within c.operands k Sliced h.0), h.1, h.2, between (at operands k) x.0 x.1)
    where
      between : (x : ℤ) → pos 0 ≤ℤ x → x ≤ℤ pos (2 ^ 32 - 1) → IsBetween (pos 0) (pos (2 ^ 32)) x
      between x l m = record { at_least = l; below = omega (arith, ints, m) }
  atom_suits (Label l) h = subst (λ n. l < n) (sym at_labels.one_each) h

  equation_suits : (e : Equation) → IsEquationOf c e → IsEquation operands (length plan.sources) (length labels) (celled (bare_fields c.body) e)
  equation_suits e h = record {
    terms = All-map (IsTerm operands (length plan.sources) (length labels)) (celled_term (bare_fields c.body)) e.terms
        (All-weaker (IsTermOf c) (λ (t : Term). IsTerm operands (length plan.sources) (length labels) (celled_term (bare_fields c.body) t)) (λ t g. record { coefficient = g.coefficient; atom = atom_suits t.atom g.atom }) e.terms h.terms);
    few = subst (λ n. n ≤ 16) (sym (length-map {B = Term} e.terms (celled_term (bare_fields c.body)))) h.few;
    rest = h.rest;
  }

  label_place : (l : ℕ) → IsWithin (2 ^ 34) (at labels l)
  label_place l = elim ((slice_get_cases labels l).1) [
    | inl h ↦ label_within (at labels l) (at_labels.each l h.1)
    | inr h ↦ nothing_within (at labels l) (get_or_past labels l (pos 0) h.0)
  ]

  pub suits_of : Suits plan operands labels
  suits_of =
      let fs = bare_fields c.body in
      record {
        sources = subst (All (IsSourceOf (length operands))) (sym is.sources_are)
            (All-map (IsSourceOf (length operands)) (source_from 0 c.operands) fs (λ k d l. source_below (length operands) 0 c.operands (get_or fs k d) (let e : 0 + length c.operands ≡ length operands = omega (arith, of.one_each) in e)));
        range = λ k l.
            let m = subst (λ n. k < n) size l in
            let f = get_or fs k 0 in
            subst (λ half. IsInRange half (at operands) (source_at plan.sources k)) (sym (ap (λ xs. at xs k) is.halves_are ∙ get_or-map (half_of tokens) fs k 0 (pos 0) m))
            (subst (IsInRange (half_of tokens f) (at operands)) (sym (ap (λ xs. source_at xs k) is.sources_are ∙ get_or-map (source_from 0 c.operands) fs k 0 source.Hidden m))
            (source_range tokens (at operands) 0 c.operands f is.tokens_sound (λ i kind q. let e : 0 + i ≡ i = omega arith in subst (λ j. IsInKind tokens kind (at operands j)) (sym e) (of.each i kind q))));
        operand = operand_within;
        label = label_place;
        equations = subst (All (IsEquation operands (length plan.sources) (length labels))) (sym is.equations_are)
            (All-map (IsEquation operands (length plan.sources) (length labels)) (celled fs) c.equations
            (All-weaker (IsEquationOf c) (λ (e : Equation). IsEquation operands (length plan.sources) (length labels) (celled fs e)) equation_suits c.equations is.linear.equations));
      }
