-- The equations by cells of a constructor of the language, and its plan.
use Rattle.std.proofs.Common.{ℕ, zero, suc, ◌+◌, ◌^◌, ◌≡◌, ◌<◌, Bool, false, List, [], ◌∷◌, length, map, get_or, replicate, Some, slice_get, All, ℤ, pos, ap, sym, ◌∙◌, subst}
use Rattle.std.proofs.lemmas.List.{length-map, get_or-map}
use Rattle.std.proofs.lemmas.List.Elements.{All-head, All-tail, All-cons, All-nil, All-map, All-weaker}
use Rattle.std.proofs.lemmas.Option.{slice_get-map, slice_get-get_or}
use Rattle.token_bits.specs.declared.tokens.Tokens.{Tokens}
use Rattle.token_bits.specs.Tokens.{AreTokens}
use Rattle.sled_model.specs.declared.constructor.Atom.{Atom}
use Rattle.sled_model.specs.declared.constructor.Atom.TheVariants.{Name, Field, Signed, Slice, Label}
use Rattle.sled_model.specs.declared.constructor.Term.{Term}
use Rattle.sled_model.specs.declared.constructor.Equation.{Equation}
use Rattle.sled_model.specs.declared.constructor.Constructor.{Constructor}
use Rattle.sled_model.specs.declared.constructor.OperandKind.{OperandKind}
use Rattle.eq_solver.specs.declared.plan.Source.{Source}
use Rattle.sled_model.specs.Equations.{IsBetween, half_of}
use Rattle.sled_model.specs.SolvingOrder.{bare_fields, is_hidden}
use Rattle.sled_model.specs.Linear.{IsAtomOf, IsTermOf, IsEquationOf, IsLinear}
use Rattle.eq_solver.specs.declared.plan.Plan.{Plan}
use Rattle.eq_solver.specs.declared.plan.SolvingStep.{SolvingStep}
use Rattle.eq_solver.specs.declared.plan.Work.{Work}
use Rattle.eq_solver.specs.declared.plan.Work.TheVariants.{Check, Solve}
use Rattle.eq_solver.specs.Sums.{at, IsFieldOf}
use Rattle.eq_solver.specs.Steps.{IsStep, IsWork, closed_by, AreSteps}
use Rattle.eq_solver.specs.Plans.{is_hidden_source}
use Rattle.eq_solver.specs.Starts.{IsSound}
use Rattle.eq_solver.specs.Determined.{AreFieldsOf, AreCoefficients, AreGood, IsPlan}
use Rattle.eq_solver.specs.Cells.{IsAtomAmong, celled_atom, celled_term, celled, source_from, AreValuesBy, IsPlanOf}
use Rattle.eq_solver.proofs.OfCells.{cell_below}
use Rattle.eq_solver.proofs.AllTaken.{order_fresh}
use Rattle.eq_solver.proofs.OrderOfCells.{hidden_is, order_is}
use Rattle.eq_solver.proofs.Orders.{map_some}
use Rattle.eq_solver.proofs.Rounds.{length_closed}
use Rattle.eq_solver.proofs.Halves.{half_between}

-- ---- fields in place

field_of : (c : Constructor) (a : Atom) → IsAtomOf c a → IsFieldOf (length (bare_fields c.body)) (celled_atom (bare_fields c.body) a)
field_of c (Name k) h = tt
field_of c (Field f) h = cell_below (bare_fields c.body) f.0 h
field_of c (Signed f) h = cell_below (bare_fields c.body) f.0 h
field_of c (Slice k lo hi) h = tt
field_of c (Label l) h = tt

module _ (c : Constructor) (n : ℕ) (size : n ≡ length (bare_fields c.body)) where
  field_below : (a : Atom) → IsAtomOf c a → IsFieldOf n (celled_atom (bare_fields c.body) a)
  field_below a h = subst (λ m. IsFieldOf m (celled_atom (bare_fields c.body) a)) (sym size) (field_of c a h)

  terms_below : (ts : List Term) → All (IsTermOf c) ts → All (λ (t : Term). IsFieldOf n t.atom) (map (celled_term (bare_fields c.body)) ts)
  terms_below ts h =
      All-map (λ (t : Term). IsFieldOf n t.atom) (celled_term (bare_fields c.body)) ts
      (All-weaker (IsTermOf c) (λ (t : Term). IsFieldOf n (celled_atom (bare_fields c.body) t.atom)) (λ t g. field_below t.atom g.atom) ts h)

  pub all_below : (tokens : Tokens) (es : List Equation) → IsLinear tokens c → es ≡ map (celled (bare_fields c.body)) c.equations → All (λ (e : Equation). All (λ (t : Term). IsFieldOf n t.atom) e.terms) es
  all_below tokens es linear q =
      let P = λ (e : Equation). All (λ (t : Term). IsFieldOf n t.atom) e.terms in
      subst (All P) (sym q)
      (All-map P (celled (bare_fields c.body)) c.equations
      (All-weaker (IsEquationOf c) (λ (e : Equation). P (celled (bare_fields c.body) e)) (λ e h. terms_below e.terms h.terms) c.equations linear.equations))

  good_terms : (ts : List Term) → All (IsTermOf c) ts → AreFieldsOf n (map (celled_term (bare_fields c.body)) ts) × AreCoefficients (map (celled_term (bare_fields c.body)) ts)
  good_terms [] h = (tt, tt)
  good_terms (t ∷ ts) h =
      let g = All-head (IsTermOf c) t ts h in
      let r = good_terms ts (All-tail (IsTermOf c) t ts h) in
      ((field_below t.atom g.atom, r.0), ((g.coefficient, g.nonzero), r.1))

  good_at : (es : List Equation) (k : ℕ) (e : Equation) → All (IsEquationOf c) es → slice_get es k ≡ Some e → IsEquationOf c e
  good_at [] k e h q = cc
  good_at (d ∷ es) zero e h q = let s : d ≡ e = cc in subst (IsEquationOf c) s (All-head (IsEquationOf c) d es h)
  good_at (d ∷ es) (suc k) e h q = good_at es k e (All-tail (IsEquationOf c) d es h) q

  pub all_good : (tokens : Tokens) (es : List Equation) → IsLinear tokens c → es ≡ map (celled (bare_fields c.body)) c.equations → AreGood n es
  all_good tokens es linear q k e s =
      let m = map_some (celled (bare_fields c.body)) (slice_get c.equations k) e (sym (slice_get-map (celled (bare_fields c.body)) c.equations k) ∙ ap (λ ds. slice_get ds k) (sym q) ∙ s) in
      subst (λ (x : Equation). AreFieldsOf n x.terms × AreCoefficients x.terms) m.2 (good_terms m.0.terms (good_at c.equations k m.0 linear.equations m.1).terms)

-- ---- a plan

hidden_cells : (c : Constructor) (plan : Plan) → plan.sources ≡ map (source_from 0 c.operands) (bare_fields c.body) → plan.hidden ≡ map is_hidden_source plan.sources → plan.hidden ≡ map (is_hidden c) (bare_fields c.body)
hidden_cells c plan s h = h ∙ ap (map is_hidden_source) s ∙ hidden_is c

pub plan_is : (tokens : Tokens) (c : Constructor) (plan : Plan) → AreTokens tokens → IsLinear tokens c → plan.halves ≡ map (half_of tokens) (bare_fields c.body) → plan.sources ≡ map (source_from 0 c.operands) (bare_fields c.body)
    → plan.hidden ≡ map is_hidden_source plan.sources → plan.equations ≡ map (celled (bare_fields c.body)) c.equations
    → ((halves : ℕ → ℤ) → IsPlan halves (length plan.equations) plan.equations (replicate (length plan.equations) false) plan.hidden plan.steps) → AreValuesBy tokens c plan.values plan.slices → IsPlanOf tokens c plan
plan_is tokens c plan a linear h s d e p v =
    let is = p (at plan.halves) in
    record {
      tokens_sound = a;
      linear = linear;
      halves_are = h;
      sources_are = s;
      hidden_are = d;
      equations_are = e;
      order = is.order ∙ order_is tokens c linear plan.equations plan.hidden e (hidden_cells c plan s d);
      steps_follow = is.steps;
      all_taken = is.all_taken ∙ ap length e ∙ length-map {B = Equation} c.equations (celled (bare_fields c.body));
      closed_all = is.closed_all;
      values_are = v;
    }

-- ---- its steps are sound

work_of : (halves : ℕ → ℤ) (left : List Bool) (e : Equation) (work : Work) → IsStep halves left e work → IsWork (length left) work
work_of halves left e Check h = tt
work_of halves left e (Solve f signed c) h = (h.within, h.coefficient, h.nonzero)

works_of : (halves : ℕ → ℤ) (n : ℕ) (es : List Equation) (left : List Bool) (ss : List SolvingStep) → length left ≡ n → All (λ k. k < length es) (map (λ (s : SolvingStep). s.equation) ss) → AreSteps halves es left ss
    → All (λ (s : SolvingStep). (s.equation < length es) × IsWork n s.work) ss
works_of halves n es left [] l b h = All-nil (λ (s : SolvingStep). (s.equation < length es) × IsWork n s.work)
works_of halves n es left (s ∷ ss) l b h =
    let none : Equation = record { terms = []; rest = pos 0 } in
    let numbers = map (λ (s : SolvingStep). s.equation) ss in
    let below = All-head (λ k. k < length es) s.equation numbers b in
    let e = get_or es s.equation none in
    let work = work_of halves left e s.work (h.0 e (slice_get-get_or es s.equation none below)) in
    All-cons (λ (s : SolvingStep). (s.equation < length es) × IsWork n s.work) s ss (below, subst (λ m. IsWork m s.work) l work)
    (works_of halves n es (closed_by left s.work) ss (length_closed left s.work ∙ l) (All-tail (λ k. k < length es) s.equation numbers b) h.1)

pub sound_of : (tokens : Tokens) (c : Constructor) (plan : Plan) → IsPlanOf tokens c plan → IsSound plan
sound_of tokens c plan h =
    let fs = bare_fields c.body in
    let sizes : length plan.halves ≡ length fs = ap length h.halves_are ∙ length-map {B = ℤ} fs (half_of tokens) in
    let sources = ap length h.sources_are ∙ length-map fs (source_from 0 c.operands) in
    let hidden : length plan.hidden ≡ length plan.sources = ap length h.hidden_are ∙ length-map {B = Bool} plan.sources is_hidden_source in
    let equations : length plan.equations ≡ length c.equations = ap length h.equations_are ∙ length-map {B = Equation} c.equations (celled fs) in
    let order = (order_fresh (length c.equations) c.equations (λ k. false) (is_hidden c)).within in
    record {
      one_each = sizes ∙ sym sources;
      half = λ k l.
          subst (IsBetween (pos 1) (pos (2 ^ 31 + 1))) (sym (ap (λ xs. at xs k) h.halves_are ∙ get_or-map (half_of tokens) fs k 0 (pos 0) (subst (λ n. k < n) sizes l))) (half_between tokens (get_or fs k 0) h.tokens_sound);
      hidden = h.hidden_are;
      work = works_of (at plan.halves) (length plan.sources) plan.equations plan.hidden plan.steps hidden
          (subst (λ n. All (λ k. k < n) (map (λ (s : SolvingStep). s.equation) plan.steps)) (sym equations) (subst (All (λ k. k < length c.equations)) (sym h.order) order)) h.steps_follow;
      steps = h.steps_follow;
      closed_all = h.closed_all;
    }

-- ---- the lists that the code has made

pub equations_are : (c : Constructor) (fs : List ℕ) (xs es : List Equation) → fs ≡ bare_fields c.body → xs ≡ c.equations → es ≡ map (celled fs) xs → es ≡ map (celled (bare_fields c.body)) c.equations
equations_are c fs xs es f x e = e ∙ ap (λ fs. map (celled fs) xs) f ∙ ap (map (celled (bare_fields c.body))) x

pub halves_are : (tokens : Tokens) (c : Constructor) (fs : List ℕ) (hs : List ℤ) → fs ≡ bare_fields c.body → hs ≡ map (half_of tokens) fs → hs ≡ map (half_of tokens) (bare_fields c.body)
halves_are tokens c fs hs f h = h ∙ ap (map (half_of tokens)) f

pub sources_are : (c : Constructor) (fs : List ℕ) (kinds : List OperandKind) (ss : List Source) → fs ≡ bare_fields c.body → kinds ≡ c.operands → ss ≡ map (source_from 0 kinds) fs → ss ≡ map (source_from 0 c.operands) (bare_fields c.body)
sources_are c fs kinds ss f k s = s ∙ ap (λ kinds. map (source_from 0 kinds) fs) k ∙ ap (map (source_from 0 c.operands)) f

pub hidden_are : (c : Constructor) (ss ss' : List Source) (hs : List Bool) → ss ≡ map (source_from 0 c.operands) (bare_fields c.body) → ss' ≡ ss → hs ≡ map is_hidden_source ss' → hs ≡ map (is_hidden c) (bare_fields c.body)
hidden_are c ss ss' hs s e h = h ∙ ap (map is_hidden_source) (e ∙ s) ∙ hidden_is c

pub hidden_size : (c : Constructor) (hs : List Bool) → hs ≡ map (is_hidden c) (bare_fields c.body) → length hs ≡ length (bare_fields c.body)
hidden_size c hs h = ap length h ∙ length-map {B = Bool} (bare_fields c.body) (is_hidden c)
