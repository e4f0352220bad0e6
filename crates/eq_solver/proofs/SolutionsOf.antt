-- What a plan tells of its cells, of the constructor's fields.
use Rattle.std.proofs.Common.{ℕ, ◌+◌, ◌≡◌, ◌<◌, ◌==◌, Bool, true, false, ◌||◌, if◌then◌else◌, List, [], ◌∷◌, length, map, take, get_or, Some, option_map, slice_get, All, ℤ, pos, ◌+ℤ◌, ◌^◌, refl, ap, sym, ◌∙◌, arith, subst}
use Rattle.std.specs.List.{filter_map}
use Rattle.std.proofs.lemmas.Int.{ints}
use Rattle.std.proofs.lemmas.List.{length-map, get_or-map, take-map}
use Rattle.std.proofs.lemmas.List.Elements.{All-head, All-tail}
use Rattle.std.proofs.lemmas.Option.{slice_get-map}
use Rattle.token_bits.specs.declared.tokens.Tokens.{Tokens}
use Rattle.sled_model.specs.declared.constructor.Constructor.{Constructor}
use Rattle.sled_model.specs.declared.constructor.OperandKind.{OperandKind}
use Rattle.sled_model.specs.declared.constructor.OperandKind.TheVariants.{Plain, Extended, Typed, Whole, Sliced}
use Rattle.sled_model.specs.Equations.{Setting, half_of, sign_extended, IsSatisfied, EachSatisfied, IsBetween, AreFieldValues}
use Rattle.sled_model.specs.SolvingOrder.{bare_fields, is_among, is_hidden, solving_order}
use Rattle.sled_model.specs.Solutions.{OperandsFit, FieldsFit, CanSatisfy, equations_at, first_equations, IsFirstUnsolvable, setting_of}
use Rattle.sled_model.specs.Linear.{kind_field}
use Rattle.eq_solver.specs.declared.plan.Plan.{Plan}
use Rattle.eq_solver.specs.declared.plan.SolvingStep.{SolvingStep}
use Rattle.eq_solver.specs.declared.plan.Source.{Source}
use Rattle.eq_solver.specs.declared.plan.Source.TheVariants as source
use Rattle.eq_solver.specs.Sums.{at, setting_from}
use Rattle.eq_solver.specs.Steps.{StepsSatisfied}
use Rattle.eq_solver.specs.Plans.{FitsSource, source_at, CellsFit, IsSolution, CanFit, HasNoSolution}
use Rattle.eq_solver.specs.Cells.{cell_of, source_from, IsPlanOf, AreOnlyFields}
use Rattle.eq_solver.proofs.OfCells.{by_test, same_number, tests_same, cell_below, in_cell, AreApart}
use Rattle.eq_solver.proofs.OrderOfCells.{are_apart, equations_among}
use Rattle.eq_solver.proofs.AllTaken.{order_fresh, all_there}
use Rattle.eq_solver.proofs.Halves.{half_between}
use Rattle.eq_solver.proofs.FieldValues.{Match, by_cell, by_field, by_cell_match, by_field_match, matched, matches, half_in_cell, steps_field, steps_cell, all_equations, some_equations}

-- ---- operands

either_false : (a b : Bool) → (a || b) ≡ false → (a ≡ false) × (b ≡ false)
either_false true b h = cc
either_false false b h = (refl, h)

none_given : (j : ℕ) (kinds : List OperandKind) (f : ℕ) → is_among (filter_map kind_field kinds) f ≡ false → source_from j kinds f ≡ source.Hidden
none_given j [] f h = refl
none_given j (Plain g ∷ kinds) f h =
    let r = either_false (g.0 == f) (is_among (filter_map kind_field kinds) f) h in
    ap (λ b. if b then source.Plain j else source_from (j + 1) kinds f) r.0 ∙ none_given (j + 1) kinds f r.1
none_given j (Extended g ∷ kinds) f h =
    let r = either_false (g.0 == f) (is_among (filter_map kind_field kinds) f) h in
    ap (λ b. if b then source.Extended j else source_from (j + 1) kinds f) r.0 ∙ none_given (j + 1) kinds f r.1
none_given j (Typed t ∷ kinds) f h = none_given (j + 1) kinds f h
none_given j (Whole ∷ kinds) f h = none_given (j + 1) kinds f h
none_given j (Sliced ∷ kinds) f h = none_given (j + 1) kinds f h

-- each of these fields has the value that its operand gives
abbrev AreGiven : Setting → (ℕ → ℤ) → List ℕ → ℕ → List OperandKind → Type 0
AreGiven setting v fs j kinds = (f : ℕ) → is_among fs f ≡ true → FitsSource (setting.halves f) setting.operands (v f) (source_from j kinds f)

module _ (setting : Setting) (v : ℕ → ℤ) where
  plain_given : (j f g : ℕ) (rest : Source) (b : Bool) → (g == f) ≡ b → v g ≡ setting.operands j → FitsSource (setting.halves f) setting.operands (v f) rest
      → FitsSource (setting.halves f) setting.operands (v f) (if b then source.Plain j else rest)
  plain_given j f g rest true e h r = ap v (sym (same_number g f e)) ∙ h
  plain_given j f g rest false e h r = r

  extended_given : (j f g : ℕ) (rest : Source) (b : Bool) → (g == f) ≡ b → sign_extended (setting.halves g) (v g) ≡ setting.operands j → FitsSource (setting.halves f) setting.operands (v f) rest
      → FitsSource (setting.halves f) setting.operands (v f) (if b then source.Extended j else rest)
  extended_given j f g rest true e h r = ap (λ k. sign_extended (setting.halves k) (v k)) (sym (same_number g f e)) ∙ h
  extended_given j f g rest false e h r = r

  given_of_fit : (j : ℕ) (kinds : List OperandKind) → OperandsFit setting v j kinds → (f : ℕ) → FitsSource (setting.halves f) setting.operands (v f) (source_from j kinds f)
  given_of_fit j [] h f = tt
  given_of_fit j (Plain g ∷ kinds) h f = plain_given j f g.0 (source_from (j + 1) kinds f) (g.0 == f) refl h.0 (given_of_fit (j + 1) kinds h.1 f)
  given_of_fit j (Extended g ∷ kinds) h f = extended_given j f g.0 (source_from (j + 1) kinds f) (g.0 == f) refl h.0 (given_of_fit (j + 1) kinds h.1 f)
  given_of_fit j (Typed t ∷ kinds) h f = given_of_fit (j + 1) kinds h f
  given_of_fit j (Whole ∷ kinds) h f = given_of_fit (j + 1) kinds h f
  given_of_fit j (Sliced ∷ kinds) h f = given_of_fit (j + 1) kinds h f

  rest_given : (fs : List ℕ) (j : ℕ) (kinds : List OperandKind) (first : Source) (g : ℕ) → is_among (filter_map kind_field kinds) g ≡ false
      → ((f : ℕ) → is_among fs f ≡ true → FitsSource (setting.halves f) setting.operands (v f) (if g == f then first else source_from (j + 1) kinds f)) → AreGiven setting v fs (j + 1) kinds
  rest_given fs j kinds first g a h f m = by_test (g == f)
      (λ e. subst (FitsSource (setting.halves f) setting.operands (v f)) (sym (ap (source_from (j + 1) kinds) (sym (same_number g f e)) ∙ none_given (j + 1) kinds g a)) tt)
      (λ e. subst (λ b. FitsSource (setting.halves f) setting.operands (v f) (if b then first else source_from (j + 1) kinds f)) e (h f m))

  fit_of_given : (fs : List ℕ) (j : ℕ) (kinds : List OperandKind) → All (λ f. is_among fs f ≡ true) (filter_map kind_field kinds) → AreApart (filter_map kind_field kinds) → AreGiven setting v fs j kinds → OperandsFit setting v j kinds
  fit_of_given fs j [] b a h = tt
  fit_of_given fs j (Plain g ∷ kinds) b a h =
      let gs = filter_map kind_field kinds in
      let m = All-head (λ f. is_among fs f ≡ true) g.0 gs b in (
        subst (λ b. FitsSource (setting.halves g.0) setting.operands (v g.0) (if b then source.Plain j else source_from (j + 1) kinds g.0)) (tests_same g.0) (h g.0 m),
        fit_of_given fs (j + 1) kinds (All-tail (λ f. is_among fs f ≡ true) g.0 gs b) a.1 (rest_given fs j kinds (source.Plain j) g.0 a.0 h),
      )
  fit_of_given fs j (Extended g ∷ kinds) b a h =
      let gs = filter_map kind_field kinds in
      let m = All-head (λ f. is_among fs f ≡ true) g.0 gs b in (
        subst (λ b. FitsSource (setting.halves g.0) setting.operands (v g.0) (if b then source.Extended j else source_from (j + 1) kinds g.0)) (tests_same g.0) (h g.0 m),
        fit_of_given fs (j + 1) kinds (All-tail (λ f. is_among fs f ≡ true) g.0 gs b) a.1 (rest_given fs j kinds (source.Extended j) g.0 a.0 h),
      )
  fit_of_given fs j (Typed t ∷ kinds) b a h = fit_of_given fs (j + 1) kinds b a h
  fit_of_given fs j (Whole ∷ kinds) b a h = fit_of_given fs (j + 1) kinds b a h
  fit_of_given fs j (Sliced ∷ kinds) b a h = fit_of_given fs (j + 1) kinds b a h

-- ---- a plan's cells

module _ (tokens : Tokens) (c : Constructor) (plan : Plan) (is : IsPlanOf tokens c plan) (operands labels : List ℤ) where
  pub fields_apart : AreApart (bare_fields c.body)
  fields_apart = are_apart (bare_fields c.body) is.linear.once

  pub size : length plan.sources ≡ length (bare_fields c.body)
  size = ap length is.sources_are ∙ length-map {B = Source} (bare_fields c.body) (source_from 0 c.operands)

  source_in_cell : (f : ℕ) → is_among (bare_fields c.body) f ≡ true → source_at plan.sources (cell_of (bare_fields c.body) f) ≡ source_from 0 c.operands f
  source_in_cell f h = ap (λ xs. source_at xs (cell_of (bare_fields c.body) f)) is.sources_are ∙ in_cell (source_from 0 c.operands) (bare_fields c.body) f source.Hidden h

  -- fields of whose cells this is true fit
  pub fields_fit : (v' v : ℕ → ℤ) → Match (bare_fields c.body) v' v → AreFieldValues (half_of tokens) v → CellsFit (setting_from plan.halves operands labels) plan.sources v' → FieldsFit (setting_of tokens (at operands) (at labels)) c.operands v
  fields_fit v' v m a h =
      let fs = bare_fields c.body in
      record {
        values = a;
        operands = fit_of_given (setting_of tokens (at operands) (at labels)) v fs 0 c.operands is.linear.bare (are_apart (filter_map kind_field c.operands) is.linear.apart)
            (λ f n.
            let below = subst (λ k. cell_of fs f < k) (sym size) (cell_below fs f n) in
            subst (FitsSource (half_of tokens f) (at operands) (v f)) (source_in_cell f n)
            (subst (λ x. FitsSource (half_of tokens f) (at operands) x (source_at plan.sources (cell_of fs f))) (m f n)
            (subst (λ half. FitsSource half (at operands) (v' (cell_of fs f)) (source_at plan.sources (cell_of fs f)))
            (half_in_cell tokens fs plan.halves operands labels v' v is.halves_are m f n) (h.given (cell_of fs f) below))));
      }

  pub half_at : (k : ℕ) → k < length (bare_fields c.body) → at plan.halves k ≡ half_of tokens (get_or (bare_fields c.body) k 0)
  half_at k l = ap (λ xs. at xs k) is.halves_are ∙ get_or-map (half_of tokens) (bare_fields c.body) k 0 (pos 0) l

  pub source_there : (k : ℕ) → k < length (bare_fields c.body) → source_at plan.sources k ≡ source_from 0 c.operands (get_or (bare_fields c.body) k 0)
  source_there k l = ap (λ xs. source_at xs k) is.sources_are ∙ get_or-map (source_from 0 c.operands) (bare_fields c.body) k 0 source.Hidden l

  -- cells of fields that fit
  cells_fit : (v : ℕ → ℤ) → FieldsFit (setting_of tokens (at operands) (at labels)) c.operands v → CellsFit (setting_from plan.halves operands labels) plan.sources (by_cell (bare_fields c.body) v)
  cells_fit v h =
      let fs = bare_fields c.body in
      record {
        fields = record {
          each = λ k l.
              let f = get_or fs k 0 in
              subst (λ half. IsBetween (pos 0) (half +ℤ half) (v f)) (sym (half_at k (subst (λ n. k < n) size l))) (h.values f);
        };
        given = λ k l.
            let f = get_or fs k 0 in
            let m = subst (λ n. k < n) size l in
            subst (λ half. FitsSource half (at operands) (v f) (source_at plan.sources k)) (sym (half_at k m))
            (subst (FitsSource (half_of tokens f) (at operands) (v f)) (sym (source_there k m)) (given_of_fit (setting_of tokens (at operands) (at labels)) v 0 c.operands h.operands f));
      }

  -- values of cells in range are values of fields in range
  field_value : (v' : ℕ → ℤ) → CellsFit (setting_from plan.halves operands labels) plan.sources v' → (f : ℕ) (b : Bool) → is_among (bare_fields c.body) f ≡ b
      → IsBetween (pos 0) (half_of tokens f +ℤ half_of tokens f) (if b then v' (cell_of (bare_fields c.body) f) else pos 0)
  field_value v' h f true e =
      let fs = bare_fields c.body in
      subst (λ half. IsBetween (pos 0) (half +ℤ half) (v' (cell_of fs f))) (half_in_cell tokens fs plan.halves operands labels v' (by_field fs v') is.halves_are (by_field_match fs v') f e)
      (h.fields.each (cell_of fs f) (subst (λ k. cell_of fs f < k) (sym size) (cell_below fs f e)))
  field_value v' h f false e = let b = half_between tokens f is.tokens_sound in some (half_of tokens f) b
    where
      some : (half : ℤ) → IsBetween (pos 1) (pos (2 ^ 31 + 1)) half → IsBetween (pos 0) (half +ℤ half) (pos 0)
      some half b = record { at_least = omega (arith, ints); below = omega (arith, ints, b.at_least) }

  pub field_values : (v' : ℕ → ℤ) → CellsFit (setting_from plan.halves operands labels) plan.sources v' → AreFieldValues (half_of tokens) (by_field (bare_fields c.body) v')
  field_values v' h f = field_value v' h f (is_among (bare_fields c.body) f) refl

  -- ---- the equations

  fields_satisfied : (v' v : ℕ → ℤ) → Match (bare_fields c.body) v' v → (ss : List SolvingStep) → StepsSatisfied (setting_from plan.halves operands labels) plan.equations v' ss
      → EachSatisfied (setting_of tokens (at operands) (at labels)) v (equations_at c.equations (map (λ (s : SolvingStep). s.equation) ss))
  fields_satisfied v' v m ss h =
      steps_field tokens (bare_fields c.body) plan.halves operands labels v' v is.halves_are m c.equations plan.equations is.equations_are (equations_among c c.equations is.linear.equations) ss h

  cells_satisfied : (v : ℕ → ℤ) (ss : List SolvingStep) → EachSatisfied (setting_of tokens (at operands) (at labels)) v (equations_at c.equations (map (λ (s : SolvingStep). s.equation) ss))
      → StepsSatisfied (setting_from plan.halves operands labels) plan.equations (by_cell (bare_fields c.body) v) ss
  cells_satisfied v ss h =
      steps_cell tokens (bare_fields c.body) plan.halves operands labels (by_cell (bare_fields c.body) v) v is.halves_are (by_cell_match (bare_fields c.body) v) c.equations plan.equations is.equations_are
      (equations_among c c.equations is.linear.equations) ss h

  each_taken : (k : ℕ) → k < length c.equations → is_among (map (λ (s : SolvingStep). s.equation) plan.steps) k ≡ true
  each_taken k l =
      let fresh = order_fresh (length c.equations) c.equations (λ k. false) (is_hidden c) in
      let count : length (solving_order c) ≡ length c.equations = ap length (sym is.order) ∙ length-map {B = ℕ} plan.steps (λ (s : SolvingStep). s.equation) ∙ is.all_taken in
      ap (λ ks. is_among ks k) is.order ∙ all_there (solving_order c) (length c.equations) k fresh.apart fresh.within count l

  -- ---- a solution

  pub only_fields : (out : List ℤ) → length out ≡ length plan.sources → IsSolution (setting_from plan.halves operands labels) plan.sources plan.equations plan.steps (at out) → AreOnlyFields tokens c (at operands) (at labels) out
  only_fields out l s =
      let fs = bare_fields c.body in
      let setting = setting_of tokens (at operands) (at labels) in
      record {
        values = (by_field fs (at out), field_values (at out) s.fit, matched fs out (by_field fs (at out)) fields_apart (l ∙ size) (by_field_match fs (at out)));
        fit = λ v a e.
            let m = matches fs out v e in (
              fields_fit (at out) v m a s.fit,
              all_equations (IsSatisfied setting v) c.equations (map (λ (s : SolvingStep). s.equation) plan.steps) each_taken (fields_satisfied (at out) v m plan.steps s.satisfied),
            );
        only = λ v a e.
            matched fs out v fields_apart (l ∙ size)
            (λ f n.
            sym (s.only (by_cell fs v) (cells_fit v a) (cells_satisfied v plan.steps (some_equations (IsSatisfied setting v) c.equations (map (λ (s : SolvingStep). s.equation) plan.steps) e))
            (cell_of fs f) (subst (λ k. cell_of fs f < k) (sym size) (cell_below fs f n)))
            ∙ by_cell_match fs v f n);
      }

  -- ---- no solution

  first_numbers : (n : ℕ) → map (λ (s : SolvingStep). s.equation) (take n plan.steps) ≡ take n (solving_order c)
  first_numbers n = sym (take-map (λ (s : SolvingStep). s.equation) n plan.steps) ∙ ap (take n) is.order

  can_satisfy : (n : ℕ) → CanFit (setting_from plan.halves operands labels) plan.sources plan.equations (take n plan.steps) → CanSatisfy (setting_of tokens (at operands) (at labels)) c (first_equations c n)
  can_satisfy n h =
      let fs = bare_fields c.body in
      let v = by_field fs h.0 in (
        v,
        fields_fit h.0 v (by_field_match fs h.0) (field_values h.0 h.1) h.1,
        subst (λ ks. EachSatisfied (setting_of tokens (at operands) (at labels)) v (equations_at c.equations ks)) (first_numbers n) (fields_satisfied h.0 v (by_field_match fs h.0) (take n plan.steps) h.2),
      )

  can_fit : (n : ℕ) → CanSatisfy (setting_of tokens (at operands) (at labels)) c (first_equations c n) → CanFit (setting_from plan.halves operands labels) plan.sources plan.equations (take n plan.steps)
  can_fit n h = (
    by_cell (bare_fields c.body) h.0,
    cells_fit h.0 h.1,
    cells_satisfied h.0 (take n plan.steps) (subst (λ ks. EachSatisfied (setting_of tokens (at operands) (at labels)) h.0 (equations_at c.equations ks)) (sym (first_numbers n)) h.2),
  )

  pub first_unsolvable : (equation : ℕ) → HasNoSolution (setting_from plan.halves operands labels) plan.sources plan.equations plan.steps equation → IsFirstUnsolvable (setting_of tokens (at operands) (at labels)) c equation
  first_unsolvable equation h = record {
    place = h.place;
    named = ap (λ ks. slice_get ks h.place) (sym is.order) ∙ slice_get-map (λ (s : SolvingStep). s.equation) plan.steps h.place ∙ ap (option_map (λ (s : SolvingStep). s.equation)) h.is_there ∙ ap Some h.number;
    before = can_satisfy h.place h.before;
    after = λ x. h.after (can_fit (h.place + 1) x);
  }
