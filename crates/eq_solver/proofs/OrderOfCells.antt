-- The solving order by cells, and condition 12 by cells, are those of the constructor.
use Rattle.std.proofs.Common.{ℕ, zero, suc, ◌+◌, ◌≡◌, ◌≢◌, ◌<◌, ◌==◌, nat_le, Bool, true, false, not, ◌&&◌, ◌||◌, if◌then◌else◌, List, [], ◌∷◌, length, map, set, replicate, Option, Some, None, option_map, slice_get, All, AllPairs, refl, ap, sym, ◌∙◌, arith, subst, length-set}
use Rattle.std.specs.List.{list_any, list_all}
use Rattle.std.specs.Option.{option_map_or}
use Rattle.std.proofs.lemmas.List.{length-map, length-replicate}
use Rattle.std.proofs.lemmas.Simd.{map-map}
use Rattle.std.proofs.lemmas.List.Elements.{All-head, All-tail}
use Rattle.std.proofs.lemmas.Option.{slice_get-map, slice_get_within}
use Rattle.token_bits.specs.declared.tokens.Tokens.{Tokens}
use Rattle.sled_model.specs.declared.constructor.Atom.{Atom}
use Rattle.sled_model.specs.declared.constructor.Atom.TheVariants.{Name, Field, Signed, Slice, Label}
use Rattle.sled_model.specs.declared.constructor.Term.{Term}
use Rattle.sled_model.specs.declared.constructor.Equation.{Equation}
use Rattle.sled_model.specs.declared.constructor.Constructor.{Constructor}
use Rattle.sled_model.specs.declared.constructor.OperandKind.{OperandKind}
use Rattle.sled_model.specs.declared.constructor.OperandKind.TheVariants.{Plain, Extended, Typed, Whole, Sliced}
use Rattle.sled_model.specs.SolvingOrder.{bare_fields, is_among, is_field_operand, is_hidden, unknown_fields, including, excluding, next_equation, unknown_at, order_from, solving_order, unknown_after, hold_single, IsDetermined}
use Rattle.sled_model.specs.Linear.{IsAtomOf, IsTermOf, IsEquationOf, IsLinear}
use Rattle.eq_solver.specs.declared.plan.Open.TheVariants.{Nothing}
use Rattle.eq_solver.specs.declared.plan.Source.{Source}
use Rattle.eq_solver.specs.declared.plan.Source.TheVariants as source
use Rattle.eq_solver.specs.Plans.{is_hidden_source}
use Rattle.eq_solver.specs.Solving.{open_of, open_at, closed, cell_order, none_open}
use Rattle.eq_solver.specs.Determined.{left_by, IsSingle, AreSingle, DeterminesAll}
use Rattle.eq_solver.specs.Cells.{IsAtomAmong, celled, source_of, source_from}
use Rattle.eq_solver.proofs.OfCells.{tests_other, AreAtomsAmong, AreApart, closed_by_cells, map_same}
use Rattle.eq_solver.proofs.Numbers.{AreEquationsAmong, Tells, next_same, first_is, among_at, single_cases, tells_more}

-- n rounds give the same by cells and by field numbers
pub record AreSame (n : ℕ) (fs : List ℕ) (es : List Equation) (taken : List Bool) (done u : ℕ → Bool) : Type 0 where
  pub order : cell_order n (map (celled fs) es) taken (map u fs) ≡ order_from n es done u
  pub after : left_by (map (celled fs) es) (map u fs) (order_from n es done u) ≡ map (unknown_after es u (order_from n es done u)) fs
  pub single_held : AreSingle (map (celled fs) es) (map u fs) (order_from n es done u) → hold_single es u (order_from n es done u) ≡ true
  pub held_single : hold_single es u (order_from n es done u) ≡ true → AreSingle (map (celled fs) es) (map u fs) (order_from n es done u)

both : (a b : Bool) → a ≡ true → b ≡ true → (a && b) ≡ true
both a b h k = ap (λ x. x && b) h ∙ k

pub both_true : (a b : Bool) → (a && b) ≡ true → (a ≡ true) × (b ≡ true)
both_true true b h = (refl, h)
both_true false b h = cc

same_some : (o : Option Equation) (e d : Equation) → o ≡ Some e → o ≡ Some d → e ≡ d
same_some o e d p q = cc

same_if : (n : ℕ) (fs : List ℕ) (es : List Equation) (taken : List Bool) (done u : ℕ → Bool) → AreApart fs → AreEquationsAmong fs es → length taken ≡ length es → Tells taken done
    → ((taken' : List Bool) (done' u' : ℕ → Bool) → length taken' ≡ length es → Tells taken' done' → AreSame n fs es taken' done' u')
    → (o : Option ℕ) → next_equation done u 0 es ≡ o → AreSame (suc n) fs es taken done u
same_if n fs es taken done u a h l t rec None q =
    let es' = map (celled fs) es in
    let left = map u fs in
    let cells : cell_order (suc n) es' taken left ≡ [] =
    ap (λ o. option_map_or (λ k. k ∷ cell_order n es' (set taken k true) (closed left (open_at es' left k))) o []) (next_same fs u taken done 0 es t h ∙ q) in
    let numbers : order_from (suc n) es done u ≡ [] = ap (λ o. option_map_or (λ k. k ∷ order_from n es (including done k) (excluding u (unknown_at es u k))) o []) q in
    record {
      order = cells ∙ sym numbers;
      after = subst (λ ks. left_by es' left ks ≡ map (unknown_after es u ks) fs) (sym numbers) refl;
      single_held = subst (λ ks. AreSingle es' left ks → hold_single es u ks ≡ true) (sym numbers) (λ s. refl);
      held_single = subst (λ ks. hold_single es u ks ≡ true → AreSingle es' left ks) (sym numbers) (λ s. tt);
    }
same_if n fs es taken done u a h l t rec (Some k) q =
    let es' = map (celled fs) es in
    let left = map u fs in
    let f = first_is u done es k q in
    let e = f.equation in
    let among = among_at fs es k e h f.is_there in
    let unknown : unknown_at es u k ≡ unknown_fields u e.terms = ap (λ o. option_map_or (λ (x : Equation). unknown_fields u x.terms) o []) f.is_there in
    let there : slice_get es' k ≡ Some (celled fs e) = slice_get-map (celled fs) es k ∙ ap (option_map (celled fs)) f.is_there in
    let opens : open_at es' left k ≡ open_of left (celled fs e).terms = ap (λ o. option_map_or (λ (x : Equation). open_of left x.terms) o Nothing) there in
    let u' = excluding u (unknown_at es u k) in
    let closes : closed left (open_at es' left k) ≡ map u' fs = ap (closed left) opens ∙ closed_by_cells fs u e.terms a among f.few ∙ ap (λ us. map (excluding u us) fs) (sym unknown) in
    let below : k < length taken = subst (λ m. k < m) (sym l) (slice_get_within es k e f.is_there) in
    let r = rec (set taken k true) (including done k) u' (length-set taken k true ∙ l) (tells_more taken done k below t) in
    let ks = order_from n es (including done k) u' in
    let cells : cell_order (suc n) es' taken left ≡ k ∷ cell_order n es' (set taken k true) (map u' fs) =
    ap (λ o. option_map_or (λ k. k ∷ cell_order n es' (set taken k true) (closed left (open_at es' left k))) o []) (next_same fs u taken done 0 es t h ∙ q) ∙ ap (λ z. k ∷ cell_order n es' (set taken k true) z) closes in
    let numbers : order_from (suc n) es done u ≡ k ∷ ks = ap (λ o. option_map_or (λ k. k ∷ order_from n es (including done k) (excluding u (unknown_at es u k))) o []) q in
    let s = single_cases fs u e (unknown_fields u e.terms) refl among f.few in
    record {
      order = cells ∙ ap (λ js. k ∷ js) r.order ∙ sym numbers;
      after = subst (λ js. left_by es' left js ≡ map (unknown_after es u js) fs) (sym numbers) (ap (λ z. left_by es' z ks) closes ∙ r.after);
      single_held = subst (λ js. AreSingle es' left js → hold_single es u js ≡ true) (sym numbers)
          (λ x. both _ _ (ap (λ us. nat_le (length us) 1) unknown ∙ s.0 (x.0 (celled fs e) there)) (r.single_held (subst (λ z. AreSingle es' z ks) closes x.1)));
      held_single = subst (λ js. hold_single es u js ≡ true → AreSingle es' left js) (sym numbers)
          (λ y. let b = both_true (nat_le (length (unknown_at es u k)) 1) (hold_single es u' ks) y in (
            (λ d p. subst (IsSingle left) (same_some (slice_get es' k) (celled fs e) d there p) (s.1 (ap (λ us. nat_le (length us) 1) (sym unknown) ∙ b.0))),
            subst (λ z. AreSingle es' z ks) (sym closes) (r.held_single b.1),
          ));
    }

same : (n : ℕ) (fs : List ℕ) (es : List Equation) (taken : List Bool) (done u : ℕ → Bool) → AreApart fs → AreEquationsAmong fs es → length taken ≡ length es → Tells taken done → AreSame n fs es taken done u
same zero fs es taken done u a h l t = record { order = refl; after = refl; single_held = λ s. refl; held_single = λ s. tt }
same (suc n) fs es taken done u a h l t = same_if n fs es taken done u a h l t (λ taken' done' u' l' t'. same n fs es taken' done' u' a h l' t') (next_equation done u 0 es) refl

-- ---- of a constructor

none_among : (f : ℕ) (fs : List ℕ) → All (λ g. f ≢ g) fs → is_among fs f ≡ false
none_among f [] h = refl
none_among f (g ∷ fs) h = neither (g == f) (is_among fs f) (tests_other g f (λ e. All-head (λ g. f ≢ g) g fs h (sym e))) (none_among f fs (All-tail (λ g. f ≢ g) g fs h))
  where
    neither : (a b : Bool) → a ≡ false → b ≡ false → (a || b) ≡ false
    neither true b h k = h
    neither false b h k = k

pub are_apart : (fs : List ℕ) → AllPairs (λ f g. f ≢ g) fs → AreApart fs
are_apart [] h = tt
are_apart (f ∷ fs) h = (none_among f fs (λ k d l. h zero (suc k) d (omega arith) (omega arith)), are_apart fs (λ i j d l m. h (suc i) (suc j) d (omega arith) (omega arith)))

pub atom_among : (c : Constructor) (a : Atom) → IsAtomOf c a → IsAtomAmong (bare_fields c.body) a
atom_among c (Name k) h = tt
atom_among c (Field f) h = h
atom_among c (Signed f) h = h
atom_among c (Slice k lo hi) h = tt
atom_among c (Label l) h = tt

pub atoms_among : (c : Constructor) (ts : List Term) → All (IsTermOf c) ts → AreAtomsAmong (bare_fields c.body) ts
atoms_among c [] h = tt
atoms_among c (t ∷ ts) h = (atom_among c t.atom (All-head (IsTermOf c) t ts h).atom, atoms_among c ts (All-tail (IsTermOf c) t ts h))

pub equations_among : (c : Constructor) (es : List Equation) → All (IsEquationOf c) es → AreEquationsAmong (bare_fields c.body) es
equations_among c [] h = tt
equations_among c (e ∷ es) h = (atoms_among c e.terms (All-head (IsEquationOf c) e es h).terms, equations_among c es (All-tail (IsEquationOf c) e es h))

tells_none : (n : ℕ) → Tells (replicate n false) (λ k. false)
tells_none zero j = refl
tells_none (suc n) zero = refl
tells_none (suc n) (suc j) = tells_none n j

pub same_of : (tokens : Tokens) (c : Constructor) → IsLinear tokens c → AreSame (length c.equations) (bare_fields c.body) c.equations (replicate (length c.equations) false) (λ k. false) (is_hidden c)
same_of tokens c h =
    same (length c.equations) (bare_fields c.body) c.equations (replicate (length c.equations) false) (λ k. false) (is_hidden c)
    (are_apart (bare_fields c.body) h.once) (equations_among c c.equations h.equations) (length-replicate (length c.equations) false) (tells_none (length c.equations))

-- the fields that no operand gives are the hidden ones
plain_hidden : (j : ℕ) (f : ℕ) (rest : Source) (b r : Bool) → is_hidden_source rest ≡ not r → is_hidden_source (if b then source.Plain j else rest) ≡ not (b || r)
plain_hidden j f rest true r h = refl
plain_hidden j f rest false r h = h

extended_hidden : (j : ℕ) (f : ℕ) (rest : Source) (b r : Bool) → is_hidden_source rest ≡ not r → is_hidden_source (if b then source.Extended j else rest) ≡ not (b || r)
extended_hidden j f rest true r h = refl
extended_hidden j f rest false r h = h

kind_hidden : (j : ℕ) (kind : OperandKind) (f : ℕ) (rest : Source) (r : Bool) → is_hidden_source rest ≡ not r
    → is_hidden_source (if is_field_operand f kind then source_of kind j else rest) ≡ not (is_field_operand f kind || r)
kind_hidden j (Plain g) f rest r h = plain_hidden j f rest (g.0 == f) r h
kind_hidden j (Extended g) f rest r h = extended_hidden j f rest (g.0 == f) r h
kind_hidden j (Typed t) f rest r h = h
kind_hidden j Whole f rest r h = h
kind_hidden j Sliced f rest r h = h

source_hidden : (j : ℕ) (kinds : List OperandKind) (f : ℕ) → is_hidden_source (source_from j kinds f) ≡ not (list_any (is_field_operand f) kinds)
source_hidden j [] f = refl
source_hidden j (kind ∷ kinds) f = kind_hidden j kind f (source_from (j + 1) kinds f) (list_any (is_field_operand f) kinds) (source_hidden (j + 1) kinds f)

pub hidden_is : (c : Constructor) → map is_hidden_source (map (source_from 0 c.operands) (bare_fields c.body)) ≡ map (is_hidden c) (bare_fields c.body)
hidden_is c =
    map-map is_hidden_source (source_from 0 c.operands) (bare_fields c.body)
    ∙ map_same (λ f. is_hidden_source (source_from 0 c.operands f)) (is_hidden c) (bare_fields c.body)
    (λ f h. source_hidden 0 c.operands f ∙ ap (λ b. b && not (list_any (is_field_operand f) c.operands)) (sym h))

none_open_is : (u : ℕ → Bool) (fs : List ℕ) → none_open (map u fs) ≡ list_all (λ f. not (u f)) fs
none_open_is u [] = refl
none_open_is u (f ∷ fs) = ap (λ b. not (u f) && b) (none_open_is u fs)

module _ (tokens : Tokens) (c : Constructor) (linear : IsLinear tokens c) where
  cell_order_is : cell_order (length c.equations) (map (celled (bare_fields c.body)) c.equations) (replicate (length c.equations) false) (map (is_hidden c) (bare_fields c.body)) ≡ solving_order c
  cell_order_is = (same_of tokens c linear).order

  all_determined : DeterminesAll (length c.equations) (map (celled (bare_fields c.body)) c.equations) (replicate (length c.equations) false) (map (is_hidden c) (bare_fields c.body)) → IsDetermined c
  all_determined d =
      let s = same_of tokens c linear in
      record {
        takes = ap length (sym s.order) ∙ d.takes;
        determines = sym (none_open_is (unknown_after c.equations (is_hidden c) (solving_order c)) (bare_fields c.body)) ∙ ap none_open (sym s.after)
            ∙ ap (λ ks. none_open (left_by (map (celled (bare_fields c.body)) c.equations) (map (is_hidden c) (bare_fields c.body)) ks)) (sym s.order) ∙ d.determines;
        single = s.single_held (subst (AreSingle (map (celled (bare_fields c.body)) c.equations) (map (is_hidden c) (bare_fields c.body))) s.order d.single);
      }

  determined_all : IsDetermined c → DeterminesAll (length c.equations) (map (celled (bare_fields c.body)) c.equations) (replicate (length c.equations) false) (map (is_hidden c) (bare_fields c.body))
  determined_all d =
      let s = same_of tokens c linear in
      record {
        takes = ap length s.order ∙ d.takes;
        determines = ap (λ ks. none_open (left_by (map (celled (bare_fields c.body)) c.equations) (map (is_hidden c) (bare_fields c.body)) ks)) s.order ∙ ap none_open s.after
            ∙ none_open_is (unknown_after c.equations (is_hidden c) (solving_order c)) (bare_fields c.body) ∙ d.determines;
        single = subst (AreSingle (map (celled (bare_fields c.body)) c.equations) (map (is_hidden c) (bare_fields c.body))) (sym s.order) (s.held_single d.single);
      }

  -- the same where the lists are only known to be these
  pub order_is : (es : List Equation) (hidden : List Bool) → es ≡ map (celled (bare_fields c.body)) c.equations → hidden ≡ map (is_hidden c) (bare_fields c.body)
      → cell_order (length es) es (replicate (length es) false) hidden ≡ solving_order c
  order_is es hidden e d =
      ap (λ n. cell_order n es (replicate n false) hidden) (ap length e ∙ length-map {B = Equation} c.equations (celled (bare_fields c.body)))
      ∙ ap (λ x. cell_order (length c.equations) x (replicate (length c.equations) false) hidden) e
      ∙ ap (λ x. cell_order (length c.equations) (map (celled (bare_fields c.body)) c.equations) (replicate (length c.equations) false) x) d ∙ cell_order_is

  determines_is : (es : List Equation) (hidden : List Bool) → es ≡ map (celled (bare_fields c.body)) c.equations → hidden ≡ map (is_hidden c) (bare_fields c.body)
      → DeterminesAll (length es) es (replicate (length es) false) hidden ≡ DeterminesAll (length c.equations) (map (celled (bare_fields c.body)) c.equations) (replicate (length c.equations) false) (map (is_hidden c) (bare_fields c.body))
  determines_is es hidden e d =
      ap (λ n. DeterminesAll n es (replicate n false) hidden) (ap length e ∙ length-map {B = Equation} c.equations (celled (bare_fields c.body)))
      ∙ ap (λ x. DeterminesAll (length c.equations) x (replicate (length c.equations) false) hidden) e
      ∙ ap (λ x. DeterminesAll (length c.equations) (map (celled (bare_fields c.body)) c.equations) (replicate (length c.equations) false) x) d

  pub is_determined : (es : List Equation) (hidden : List Bool) → es ≡ map (celled (bare_fields c.body)) c.equations → hidden ≡ map (is_hidden c) (bare_fields c.body)
      → DeterminesAll (length es) es (replicate (length es) false) hidden → IsDetermined c
  is_determined es hidden e d h = all_determined (subst (λ X. X) (determines_is es hidden e d) h)

  pub determines : (es : List Equation) (hidden : List Bool) → es ≡ map (celled (bare_fields c.body)) c.equations → hidden ≡ map (is_hidden c) (bare_fields c.body)
      → IsDetermined c → DeterminesAll (length es) es (replicate (length es) false) hidden
  determines es hidden e d h = subst (λ X. X) (sym (determines_is es hidden e d)) (determined_all h)
