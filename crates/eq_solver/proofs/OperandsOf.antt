-- The operands that a plan writes are the only ones.
use Rattle.std.proofs.Common.{ℕ, zero, suc, ◌+◌, ◌-◌, ◌*◌, ◌/◌, ◌%◌, ◌^◌, ◌≡◌, ◌≢◌, ◌==◌, ◌<◌, ◌≤◌, ◌⊎◌, inl, inr, Bool, true, false, cond, List, [], ◌∷◌, length, map, filter, get_or, All, slice_get, Some, None, Option, IsSome, option_map, ℤ, pos, negsuc, ◌+ℤ◌, ◌-ℤ◌, ◌≤ℤ◌, ◌<ℤ◌, unsigned_abs, refl, ap, sym, ◌∙◌, arith, subst}
use Rattle.std.specs.List.{filter_map, cons_option}
use Rattle.std.specs.Option.{option_map_or}
use Rattle.std.proofs.lemmas.Bool.Decides.{nat_tests}
use Rattle.std.proofs.lemmas.Int.{ints}
use Rattle.std.proofs.lemmas.Nat.{pow-add}
use Rattle.std.proofs.lemmas.Option.{slice_get-map, slice_get_within, slice_get-get_or}
use Rattle.std.proofs.lemmas.List.{length-map}
use Rattle.std.proofs.lemmas.List.Elements.{All-get_or, All-head, All-tail}
use Rattle.token_bits.specs.declared.tokens.Tokens.{Tokens}
use Rattle.token_bits.specs.declared.tokens.FieldId.{FieldId}
use Rattle.token_bits.specs.declared.tokens.Field.{Field}
use Rattle.token_bits.specs.Tokens.{width_of}
use Rattle.sled_model.specs.declared.constructor.Atom.{Atom}
use Rattle.sled_model.specs.declared.constructor.Atom.TheVariants as atom
use Rattle.sled_model.specs.declared.constructor.Term.{Term}
use Rattle.sled_model.specs.declared.constructor.Equation.{Equation}
use Rattle.sled_model.specs.declared.constructor.Constructor.{Constructor}
use Rattle.sled_model.specs.declared.constructor.OperandKind.{OperandKind}
use Rattle.sled_model.specs.declared.constructor.OperandKind.TheVariants.{Plain, Extended, Typed, Whole, Sliced}
use Rattle.sled_model.specs.declared.constructor.TypeId.{TypeId}
use Rattle.sled_model.specs.Measures.{width_at}
use Rattle.sled_model.specs.Equations.{Setting, half_of, sign_extended, slice_of, atom_value, sum_of, IsBetween, IsSatisfied, EachSatisfied, AreFieldValues}
use Rattle.sled_model.specs.SolvingOrder.{bare_fields, is_among}
use Rattle.sled_model.specs.Linear.{kind_field, labels_in}
use Rattle.sled_model.specs.Solved.{is_operand_atom, is_whole_of, is_bit_of, least_value, value_limit, AreLabelValues}
use Rattle.sled_model.specs.Solutions.{OperandsFit, setting_of}
use Rattle.eq_solver.specs.declared.plan.Plan.{Plan}
use Rattle.eq_solver.specs.declared.plan.Value.{Value}
use Rattle.eq_solver.specs.Pieces as pieces
use Rattle.eq_solver.specs.Sums.{at, setting_from}
use Rattle.eq_solver.specs.declared.plan.Source.{Source}
use Rattle.eq_solver.specs.Ranges.{IsInOrder}
use Rattle.eq_solver.specs.Cells.{cell_of, celled_value, source_from, IsPlanOf}
use Rattle.eq_solver.specs.Inputs.{IsInKind}
use Rattle.eq_solver.specs.Values.{is_slice_of}
use Rattle.eq_solver.specs.Given.{value_at, pieces_of}
use Rattle.eq_solver.specs.Operands.{IsNoField, AreCellValues, AreOnlyOperands, AreWritten}
use Rattle.eq_solver.proofs.OfCells.{same_number, cell_at, cell_below}
use Rattle.eq_solver.proofs.OrderOfCells.{are_apart}
use Rattle.eq_solver.proofs.Orders.{map_some}
use Rattle.eq_solver.proofs.FieldValues.{Match, by_field, by_field_match, matched, matches}
use Rattle.eq_solver.proofs.SolutionsOf.{fields_fit}
use Rattle.eq_solver.proofs.Held.{one_passes, some_passes}
use Rattle.eq_solver.proofs.Conditions.{some_at}
use Rattle.eq_solver.proofs.Assembly.{assembled_matches, only_number, number_below}
use Rattle.eq_solver.proofs.SlicesWritten.{small_pieces}
use Rattle.eq_solver.proofs.PiecesOf.{HasPiece, holds_bit, matches_all}
use Rattle.eq_solver.proofs.WritableOf.{IsThere, value_there, value_is}
use Rattle.eq_solver.proofs.Writable.{targets_are, target_there, orders, operand_at, kind_at, no_whole, slice_kind_of, in_range, value_in_range, chain_of, unsliced, slice_fits}

-- ---- the atom of a target

passes_if : (b : Bool) (x : Term) (us : List Term) (target : Term) → is_operand_atom x.atom ≡ b → (us ≡ target ∷ [] → is_operand_atom target.atom ≡ true) → cond b (x ∷ us) us ≡ target ∷ [] → is_operand_atom target.atom ≡ true
passes_if true x us target h go e = subst (λ (t : Term). is_operand_atom t.atom ≡ true) (same e) h
  where
    same : {a b : Term} {xs ys : List Term} → a ∷ xs ≡ b ∷ ys → a ≡ b
    same e = cc
passes_if false x us target h go e = go e

passes : (ts : List Term) (target : Term) → filter (λ (t : Term). is_operand_atom t.atom) ts ≡ target ∷ [] → is_operand_atom target.atom ≡ true
passes [] target e = cc
passes (x ∷ ts) target e = passes_if (is_operand_atom x.atom) x (filter (λ (t : Term). is_operand_atom t.atom) ts) target refl (passes ts target) e

same_value : (o : Option Value) (g h : Value) → o ≡ Some g → o ≡ Some h → g ≡ h
same_value o g h p q = cc

same_equation : (o : Option Equation) (g h : Equation) → o ≡ Some g → o ≡ Some h → g ≡ h
same_equation o g h p q = cc

whole_name : (k : ℕ) (a : Atom) → is_whole_of k a ≡ true → a ≡ atom.Name k
whole_name k (atom.Name j) h = ap atom.Name (same_number j k h)
whole_name k (atom.Slice j lo hi) h = cc
whole_name k (atom.Field f) h = cc
whole_name k (atom.Signed f) h = cc
whole_name k (atom.Label l) h = cc

low_bit : (k lo hi : ℕ) → lo ≤ hi → is_bit_of k lo (atom.Slice k lo hi) ≡ true
low_bit k lo hi l = grind (arith, nat_tests)

slice_test : (k lo hi : ℕ) → is_slice_of k (atom.Slice k lo hi) ≡ true
slice_test k lo hi = grind (arith, nat_tests)

abs_of : (x : ℤ) → pos 0 ≤ℤ x → pos (unsigned_abs x) ≡ x
abs_of (pos n) l = refl
abs_of (negsuc n) l = absurd (omega (arith, ints))

-- ---- field operands

abbrev FitsKind : Setting → (ℕ → ℤ) → ℕ → OperandKind → Type 0
FitsKind setting v j (Plain f) = v f.0 ≡ setting.operands j
FitsKind setting v j (Extended f) = sign_extended (setting.halves f.0) (v f.0) ≡ setting.operands j
FitsKind setting v j _ = Unit {0}

first_fits : (setting : Setting) (v : ℕ → ℤ) (j : ℕ) (kind : OperandKind) (kinds : List OperandKind) → OperandsFit setting v j (kind ∷ kinds) → FitsKind setting v j kind × OperandsFit setting v (j + 1) kinds
first_fits setting v j (Plain f) kinds h = h
first_fits setting v j (Extended f) kinds h = h
first_fits setting v j (Typed t) kinds h = (tt, h)
first_fits setting v j Whole kinds h = (tt, h)
first_fits setting v j Sliced kinds h = (tt, h)

same_kind : (x y : OperandKind) → Some x ≡ Some y → x ≡ y
same_kind x y e = cc

fit_at : (setting : Setting) (v : ℕ → ℤ) (j : ℕ) (kinds : List OperandKind) (i : ℕ) (kind : OperandKind) → OperandsFit setting v j kinds → slice_get kinds i ≡ Some kind → FitsKind setting v (j + i) kind
fit_at setting v j [] i kind h e = cc
fit_at setting v j (x ∷ xs) zero kind h e =
    let z : j ≡ j + 0 = omega arith in
    subst (λ n. FitsKind setting v n kind) z (subst (FitsKind setting v j) (same_kind x kind e) (first_fits setting v j x xs h).0)
fit_at setting v j (x ∷ xs) (suc i) kind h e =
    let z : (j + 1) + i ≡ j + suc i = omega arith in
    subst (λ n. FitsKind setting v n kind) z (fit_at setting v (j + 1) xs i kind (first_fits setting v j x xs h).1 e)

-- ---- the fields of field operands are known

kept_first : (P : ℕ → Type 0) (o : Option ℕ) (fs : List ℕ) (f : ℕ) → o ≡ Some f → All P (cons_option o fs) → P f
kept_first P None fs f e h = cc
kept_first P (Some g) fs f e h = let s : g ≡ f = cc in subst P s (All-head P g fs h)

kept_rest : (P : ℕ → Type 0) (o : Option ℕ) (fs : List ℕ) → All P (cons_option o fs) → All P fs
kept_rest P None fs h = h
kept_rest P (Some g) fs h = All-tail P g fs h

of_kind : (P : ℕ → Type 0) (kinds : List OperandKind) (i : ℕ) (kind : OperandKind) (f : ℕ) → All P (filter_map kind_field kinds) → slice_get kinds i ≡ Some kind → kind_field kind ≡ Some f → P f
of_kind P [] i kind f h e k = cc
of_kind P (x ∷ xs) zero kind f h e k = kept_first P (kind_field x) (filter_map kind_field xs) f (ap kind_field (same_kind x kind e) ∙ k) h
of_kind P (x ∷ xs) (suc i) kind f h e k = of_kind P xs i kind f (kept_rest P (kind_field x) (filter_map kind_field xs) h) e k

some_width : (o : Option Field) → IsSome o → 0 < option_map_or width_of o 0
some_width None h = cc
some_width (Some field) h = omega arith

double : (w : ℕ) → 0 < w → 2 ^ (w - 1) + 2 ^ (w - 1) ≡ 2 ^ w
double zero l = absurd (omega arith)
double (suc w) l =
    let q : suc w - 1 ≡ w = omega arith in let n : suc w ≡ 1 + w = omega arith in let d : 2 ^ suc w ≡ 2 * 2 ^ w = ap (λ k. 2 ^ k) n ∙ pow-add 2 1 w in let e : 2 ^ (suc w - 1) ≡ 2 ^ w = ap (λ k. 2 ^ k) q in omega (arith, d, e)

plain_in : (tokens : Tokens) (f : FieldId) (x : ℤ) → 0 < width_at tokens f → IsBetween (pos 0) (half_of tokens f.0 +ℤ half_of tokens f.0) x → IsInKind tokens (Plain f) x
plain_in tokens f x p b = within (2 ^ (width_at tokens f - 1)) (2 ^ width_at tokens f) (double (width_at tokens f) p) b
  where
    within : (half all : ℕ) → half + half ≡ all → IsBetween (pos 0) (pos half +ℤ pos half) x → (pos 0 ≤ℤ x) × (x ≤ℤ pos (all - 1))
    within half all e b = let l = b.at_least in let h = b.below in (l, omega (arith, ints, e, h))

extended_in : (tokens : Tokens) (f : FieldId) (x : ℤ) → IsBetween (pos 0) (half_of tokens f.0 +ℤ half_of tokens f.0) x → IsInKind tokens (Extended f) (sign_extended (half_of tokens f.0) x)
extended_in tokens f x b = within (2 ^ (width_at tokens f - 1)) b
  where
    within : (half : ℕ) → IsBetween (pos 0) (pos half +ℤ pos half) x → ((pos 0 -ℤ pos half) ≤ℤ sign_extended (pos half) x) × (sign_extended (pos half) x ≤ℤ pos (half - 1))
    within half b = let l = b.at_least in let h = b.below in (grind (arith, ints, nat_tests, l, h), grind (arith, ints, nat_tests, l, h))

module _ (tokens : Tokens) (c : Constructor) (plan : Plan) (is : IsPlanOf tokens c plan) (labels fields : List ℤ) (cells : AreCellValues plan.halves fields) (ranges : AreLabelValues (at labels)) (out : List ℤ)
    (done : AreWritten plan.halves labels fields plan.sources plan.values plan.slices out) where
  -- a value of the plan, by a target of it
  value_of_target : (j : ℕ) (a : Atom) → slice_get (map (λ (g : Value). g.target) is.values_are.given) j ≡ Some a → (g : Value) × (slice_get plan.values j ≡ Some g) × (g.target ≡ a)
  value_of_target j a s =
      map_some (λ (g : Value). g.target) (slice_get plan.values j) a (sym (slice_get-map (λ (g : Value). g.target) plan.values j) ∙ ap (λ xs. slice_get xs j) (sym (targets_are tokens c plan is)) ∙ s)

  small : (k : ℕ) → pieces.AreSmall (pieces_of (setting_from plan.halves [] labels) (at fields) plan.values k plan.slices)
  small k = small_pieces (setting_from plan.halves [] labels) (at fields) plan.values (λ j g s. slice_fits c plan labels fields g g.target (value_in_range tokens c plan is labels fields cells ranges j g s)) k plan.slices

  -- a sliced operand has each of its slices
  slice_has : (j : ℕ) (g : Value) (k lo hi : ℕ) → slice_get plan.values j ≡ Some g → g.target ≡ atom.Slice k lo hi → slice_of lo hi (at out k) ≡ value_at (setting_from plan.halves [] labels) (at fields) g
  slice_has j g k lo hi s e =
      let w = setting_from plan.halves [] labels in
      let order : (lo ≤ hi) × (hi ≤ 31) = subst IsInOrder e (orders tokens c plan is j g s) in
      let sliced = slice_kind_of tokens c plan is k j g s (ap (is_slice_of k) e ∙ slice_test k lo hi) in
      let chain = chain_of tokens c plan is labels fields cells ranges k sliced in
      let ps = pieces_of w (at fields) plan.values k plan.slices in
      let lo_below : lo < 32 = (let a = order.0 in let b = order.1 in omega (arith, a, b)) in
      let held = holds_bit w (at fields) plan.values (map (λ (g : Value). g.target) is.values_are.given) (targets_are tokens c plan is) (orders tokens c plan is) k (pieces.assembled 0 ps) lo plan.slices 32 lo_below
      (is.values_are.solved_by.slices_order.chains k sliced) (assembled_matches 32 0 ps chain (small k)) in
      let here : is_bit_of k lo g.target ≡ true = ap (is_bit_of k lo) e ∙ low_bit k lo hi order.0 in
      let number = one_passes (is_bit_of k lo) (map (λ (g : Value). g.target) is.values_are.given) g.target held.1.target here held.3 j held.0 (is.values_are.solved_by.held k Sliced sliced lo lo_below) (target_there tokens c plan is j g s) (target_there tokens c plan is held.0 held.1 held.2) in
      let same = same_value (slice_get plan.values j) held.1 g (ap (slice_get plan.values) number ∙ held.2) s in
      let P : Value → Type 0 = λ x. HasPiece w (at fields) (pieces.assembled 0 ps) x x.target in
      let has : HasPiece w (at fields) (pieces.assembled 0 ps) g (atom.Slice k lo hi) = subst (HasPiece w (at fields) (pieces.assembled 0 ps) g) e (subst P same held.4) in
      let range : IsBetween (pos 0) (pos (2 ^ (hi - lo + 1))) (value_at w (at fields) g) = subst (λ a. IsBetween (least_value a) (value_limit a) (value_at w (at fields) g)) e (value_in_range tokens c plan is labels fields cells ranges j g s) in
      ap (slice_of lo hi) (done.made k chain) ∙ ap pos has ∙ abs_of _ range.at_least

  target_has : (v : ℕ → ℤ) (j : ℕ) (g : Value) (a : Atom) → slice_get plan.values j ≡ Some g → g.target ≡ a → is_operand_atom a ≡ true → atom_value (setting_of tokens (at out) (at labels)) v a ≡ value_at (setting_from plan.halves [] labels) (at fields) g
  target_has v j g (atom.Name k) s e o = done.has j g s k e
  target_has v j g (atom.Slice k lo hi) s e o = slice_has j g k lo hi s e
  target_has v j g (atom.Field f) s e o = cc
  target_has v j g (atom.Signed f) s e o = cc
  target_has v j g (atom.Label l) s e o = cc

  operand_target : (j : ℕ) (g : Value) → slice_get plan.values j ≡ Some g → is_operand_atom g.target ≡ true
  operand_target j g s =
      let t = value_there tokens c plan is j g s in
      subst (λ a. is_operand_atom a ≡ true) (sym t.value_of.named ∙ ap (λ (g : Value). g.target) t.celled_is) (passes t.equation.terms t.value_of.target t.value_of.is_target.only)

  -- the plan's value of each equation
  at_equation : (i : ℕ) (e : Equation) → slice_get c.equations i ≡ Some e → (g : Value) × (slice_get plan.values i ≡ Some g)
  at_equation i e s =
      let v = is.values_are.solved_by.values in
      let l = slice_get_within c.equations i e s in
      let g = some_at is.values_are.given i (let z = v.one_each in omega (arith, z, l)) in
      (celled_value (bare_fields c.body) g.0, ap (λ xs. slice_get xs i) is.values_are.celled_are ∙ slice_get-map (celled_value (bare_fields c.body)) is.values_are.given i ∙ ap (option_map (celled_value (bare_fields c.body))) g.1)

  holds : (v : ℕ → ℤ) → map v (bare_fields c.body) ≡ fields → EachSatisfied (setting_of tokens (at out) (at labels)) v c.equations
  holds v m i d l =
      let s = slice_get-get_or c.equations i d l in
      let g = at_equation i (get_or c.equations i d) s in
      let t = value_there tokens c plan is i g.0 g.1 in
      subst (IsSatisfied (setting_of tokens (at out) (at labels)) v) (same_equation (slice_get c.equations i) t.equation (get_or c.equations i d) t.equation_there s)
      (t.value_of.gives.from (setting_of tokens (at out) (at labels)) v
      (ap (λ (g : Value). atom_value (setting_of tokens (at out) (at labels)) v g.target) t.celled_is
      ∙ target_has v i g.0 g.0.target g.1 refl (operand_target i g.0 g.1) ∙ value_is tokens c plan is labels fields (at out) v i g.0 (matches (bare_fields c.body) fields v m) t))

  -- other operands with which the equations hold have the values too
  other_has : (v u : ℕ → ℤ) → map v (bare_fields c.body) ≡ fields → EachSatisfied (setting_of tokens u (at labels)) v c.equations → (j : ℕ) (g : Value) → slice_get plan.values j ≡ Some g
      → atom_value (setting_of tokens u (at labels)) v g.target ≡ value_at (setting_from plan.halves [] labels) (at fields) g
  other_has v u m h j g s =
      let t = value_there tokens c plan is j g s in
      let q = subst (IsSatisfied (setting_of tokens u (at labels)) v) (same_equation (slice_get c.equations j) (get_or c.equations j t.equation) t.equation (slice_get-get_or c.equations j t.equation (slice_get_within c.equations j t.equation t.equation_there)) t.equation_there)
      (h j t.equation (slice_get_within c.equations j t.equation t.equation_there)) in
      sym (ap (λ (g : Value). atom_value (setting_of tokens u (at labels)) v g.target) t.celled_is) ∙ t.value_of.gives.to (setting_of tokens u (at labels)) v q
      ∙ sym (value_is tokens c plan is labels fields u v j g (matches (bare_fields c.body) fields v m) t)

  whole_value : (k : ℕ) → slice_get c.operands k ≡ Some Whole → (j : ℕ) × (g : Value) × (slice_get plan.values j ≡ Some g) × (g.target ≡ atom.Name k)
  whole_value k s =
      let r = some_passes (is_whole_of k) (map (λ (g : Value). g.target) is.values_are.given) (is.values_are.solved_by.held k Whole s) in
      let g = value_of_target r.0 r.1 r.2 in
      (r.0, g.0, g.1, g.2 ∙ whole_name k r.1 r.3)

  only_whole : (v u : ℕ → ℤ) → map v (bare_fields c.body) ≡ fields → EachSatisfied (setting_of tokens u (at labels)) v c.equations → (k : ℕ) → slice_get c.operands k ≡ Some Whole → u k ≡ at out k
  only_whole v u m h k s =
      let r = whole_value k s in
      sym (ap (atom_value (setting_of tokens u (at labels)) v) r.3) ∙ other_has v u m h r.0 r.1 r.2 ∙ sym (done.has r.0 r.1 r.2 k r.3)

  piece_read : (x k : ℕ) (u v : ℕ → ℤ) (g : Value) (a : Atom) → u k ≡ pos x → is_slice_of k a ≡ true → atom_value (setting_of tokens u (at labels)) v a ≡ value_at (setting_from plan.halves [] labels) (at fields) g
      → HasPiece (setting_from plan.halves [] labels) (at fields) x g a
  piece_read x k u v g (atom.Slice j lo hi) e t h = ap unsigned_abs (sym (ap (slice_of lo hi) (ap u (same_number j k t) ∙ e)) ∙ h)
  piece_read x k u v g (atom.Name j) e t h = tt
  piece_read x k u v g (atom.Field f) e t h = tt
  piece_read x k u v g (atom.Signed f) e t h = tt
  piece_read x k u v g (atom.Label l) e t h = tt

  only_sliced : (v u : ℕ → ℤ) → map v (bare_fields c.body) ≡ fields → EachSatisfied (setting_of tokens u (at labels)) v c.equations → (k : ℕ) → slice_get c.operands k ≡ Some Sliced → (y : ℤ) → u k ≡ y → pos 0 ≤ℤ y → y ≤ℤ pos (2 ^ 32 - 1) → u k ≡ at out k
  only_sliced v u m h k s (pos x) e l n =
      let w = setting_from plan.halves [] labels in
      let ps = pieces_of w (at fields) plan.values k plan.slices in
      let chain = chain_of tokens c plan is labels fields cells ranges k s in
      let below : x < 2 ^ 32 = omega (arith, ints, n) in
      let all = matches_all w (at fields) plan.values (map (λ (g : Value). g.target) is.values_are.given) (targets_are tokens c plan is) (orders tokens c plan is) k x plan.slices
      (λ j g q t. piece_read x k u v g g.target e t (other_has v u m h j g q)) in
      e ∙ ap pos (only_number ps chain x below all) ∙ sym (done.made k chain)
  only_sliced v u m h k s (negsuc x) e l n = absurd (omega (arith, ints, l))

  only_these : (v u : ℕ → ℤ) → map v (bare_fields c.body) ≡ fields → ((k : ℕ) (kind : OperandKind) → slice_get c.operands k ≡ Some kind → IsInKind tokens kind (u k)) → EachSatisfied (setting_of tokens u (at labels)) v c.equations
      → (k : ℕ) (kind : OperandKind) → slice_get c.operands k ≡ Some kind → (kind ≡ Whole) ⊎ (kind ≡ Sliced) → u k ≡ at out k
  only_these v u m r h k kind s (inl e) = only_whole v u m h k (s ∙ ap Some e)
  only_these v u m r h k kind s (inr e) = let b : (pos 0 ≤ℤ u k) × (u k ≤ℤ pos (2 ^ 32 - 1)) = r k Sliced (s ∙ ap Some e) in only_sliced v u m h k (s ∙ ap Some e) (u k) refl b.0 b.1

  fits_fields : (v : ℕ → ℤ) → AreFieldValues (half_of tokens) v → map v (bare_fields c.body) ≡ fields → OperandsFit (setting_of tokens (at out) (at labels)) v 0 c.operands
  fits_fields v a m =
      let size : length plan.sources ≡ length plan.halves = ap length is.sources_are ∙ length-map {B = Source} (bare_fields c.body) (source_from 0 c.operands) ∙ sym (ap length is.halves_are ∙ length-map {B = ℤ} (bare_fields c.body) (half_of tokens)) in
      (fields_fit tokens c plan is out labels (at fields) v (matches (bare_fields c.body) fields v m) a (record { fields = record { each = λ f l. cells.range f (subst (λ n. f < n) size l) }; given = done.fits })).operands

  known_width : (k : ℕ) (kind : OperandKind) (f : FieldId) → slice_get c.operands k ≡ Some kind → kind_field kind ≡ Some f.0 → 0 < width_at tokens f
  known_width k kind f s e =
      let fs = bare_fields c.body in
      let among = of_kind (λ g. is_among fs g ≡ true) c.operands k kind f.0 is.linear.bare s e in
      some_width (slice_get tokens.fields f.0) (subst (λ g. IsSome (slice_get tokens.fields g)) (cell_at fs f.0 0 among)
      (All-get_or (λ g. IsSome (slice_get tokens.fields g)) fs (cell_of fs f.0) 0 (cell_below fs f.0 among) is.linear.known))

  fields_are : map (by_field (bare_fields c.body) (at fields)) (bare_fields c.body) ≡ fields
  fields_are =
      let fs = bare_fields c.body in
      matched fs fields (by_field fs (at fields)) (are_apart fs is.linear.once) (cells.one_each ∙ ap length is.halves_are ∙ length-map {B = ℤ} fs (half_of tokens)) (by_field_match fs (at fields))

  fields_range : AreFieldValues (half_of tokens) (by_field (bare_fields c.body) (at fields))
  fields_range = (in_range tokens c plan is labels fields cells ranges).fields_range

  field_fits : (k : ℕ) (kind : OperandKind) → slice_get c.operands k ≡ Some kind → FitsKind (setting_of tokens (at out) (at labels)) (by_field (bare_fields c.body) (at fields)) k kind
  field_fits k kind s =
      let z : 0 + k ≡ k = omega arith in
      subst (λ n. FitsKind (setting_of tokens (at out) (at labels)) (by_field (bare_fields c.body) (at fields)) n kind) z
      (fit_at (setting_of tokens (at out) (at labels)) (by_field (bare_fields c.body) (at fields)) 0 c.operands k kind (fits_fields (by_field (bare_fields c.body) (at fields)) fields_range fields_are) s)

  whole_in : (x : ℤ) → IsBetween (pos 0 -ℤ pos (2 ^ 34)) (pos (2 ^ 34)) x → IsInKind tokens Whole x
  whole_in x b = let l = b.at_least in let h = b.below in (l, omega (arith, ints, h))

  sliced_in : (x : ℕ) → x < 2 ^ 32 → IsInKind tokens Sliced (pos x)
  sliced_in x l = (omega (arith, ints), omega (arith, ints, l))

  typed_or : (o : Option OperandKind) (kind : OperandKind) (f : ℕ) → o ≡ Some kind → kind_field kind ≡ Some f → (t : TypeId) → o ≡ Some (Typed t) → ⊥
  typed_or o (Plain g) f e h t s = cc
  typed_or o (Extended g) f e h t s = cc
  typed_or o (Typed u) f e h t s = cc
  typed_or o Whole f e h t s = cc
  typed_or o Sliced f e h t s = cc

  not_whole : (o : Option OperandKind) (t : TypeId) → o ≡ Some (Typed t) → o ≡ Some Whole → ⊥
  not_whole o t e d = cc

  not_sliced : (o : Option OperandKind) (t : TypeId) → o ≡ Some (Typed t) → o ≡ Some Sliced → ⊥
  not_sliced o t e d = cc

  all_in_kind : (k : ℕ) (kind : OperandKind) → slice_get c.operands k ≡ Some kind → IsInKind tokens kind (at out k)
  all_in_kind k (Plain f) s = subst (IsInKind tokens (Plain f)) (field_fits k (Plain f) s) (plain_in tokens f (by_field (bare_fields c.body) (at fields) f.0) (known_width k (Plain f) f s refl) (fields_range f.0))
  all_in_kind k (Extended f) s = subst (IsInKind tokens (Extended f)) (field_fits k (Extended f) s) (extended_in tokens f (by_field (bare_fields c.body) (at fields) f.0) (fields_range f.0))
  all_in_kind k (Typed t) s =
      done.nothing k (λ f l o. (let a = operand_at tokens c plan is f k l o in typed_or (slice_get c.operands k) a.kind _ (kind_at tokens c plan is _ k a) a.field t s))
      (no_whole tokens c plan is k (not_whole (slice_get c.operands k) t s)) (unsliced tokens c plan is labels fields cells ranges k (not_sliced (slice_get c.operands k) t s))
  all_in_kind k Whole s =
      let r = whole_value k s in
      let w = setting_from plan.halves [] labels in
      subst (IsInKind tokens Whole) (sym (done.has r.0 r.1 r.2 k r.3))
      (whole_in (value_at w (at fields) r.1) (subst (λ a. IsBetween (least_value a) (value_limit a) (value_at w (at fields) r.1)) r.3 (value_in_range tokens c plan is labels fields cells ranges r.0 r.1 r.2)))
  all_in_kind k Sliced s =
      let chain = chain_of tokens c plan is labels fields cells ranges k s in
      subst (IsInKind tokens Sliced) (sym (done.made k chain)) (sliced_in _ (number_below _ chain (small k)))

  pub only_operands : AreOnlyOperands tokens c fields (at labels) (at out)
  only_operands = record { range = all_in_kind; fit = fits_fields; satisfied = holds; only = only_these }
