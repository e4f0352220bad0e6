-- What a plan needs to write operands holds of the plan of a constructor.
use Rattle.std.proofs.Common.{ℕ, zero, suc, ◌+◌, ◌-◌, ◌^◌, ◌≡◌, ◌≢◌, ◌==◌, ◌<◌, ◌≤◌, ◌⊎◌, inl, inr, Bool, true, false, if◌then◌else◌, List, [], ◌∷◌, length, map, filter, get_or, All, slice_get, Some, None, Option, option_map, ℤ, pos, ◌+ℤ◌, ◌≤ℤ◌, ◌<ℤ◌, refl, ap, sym, ◌∙◌, arith, subst}
use Rattle.std.proofs.lemmas.Bool.Decides.{nat_tests}
use Rattle.std.proofs.lemmas.Int.{ints}
use Rattle.std.proofs.lemmas.Option.{slice_get-map, slice_get_within, slice_get-get_or}
use Rattle.std.proofs.lemmas.List.{length-map, get_or-map}
use Rattle.std.proofs.lemmas.List.Elements.{All-map}
use Rattle.token_bits.specs.declared.tokens.Tokens.{Tokens}
use Rattle.sled_model.specs.declared.constructor.Atom.{Atom}
use Rattle.sled_model.specs.declared.constructor.Atom.TheVariants as atom
use Rattle.sled_model.specs.declared.constructor.Constructor.{Constructor}
use Rattle.sled_model.specs.declared.constructor.OperandKind.{OperandKind}
use Rattle.sled_model.specs.declared.constructor.OperandKind.TheVariants.{Plain, Extended, Typed, Whole, Sliced}
use Rattle.sled_model.specs.Equations.{half_of, sum_of, IsBetween, AreFieldValues}
use Rattle.sled_model.specs.SolvingOrder.{bare_fields, is_among, is_field_operand}
use Rattle.sled_model.specs.Linear.{labels_in, kind_field, IsAtomOf, IsWithin}
use Rattle.sled_model.specs.Solved.{is_whole_of, least_value, value_limit, AreLabelValues}
use Rattle.sled_model.specs.Solutions.{setting_of}
use Rattle.eq_solver.specs.declared.plan.Plan.{Plan}
use Rattle.eq_solver.specs.declared.plan.Value.{Value}
use Rattle.eq_solver.specs.declared.plan.Source.{Source}
use Rattle.eq_solver.specs.declared.plan.Source.TheVariants as source
use Rattle.eq_solver.specs.Pieces as pieces
use Rattle.eq_solver.specs.Sums.{at, setting_from, AreValues}
use Rattle.eq_solver.specs.Plans.{source_at}
use Rattle.eq_solver.specs.Starts.{IsSourceOf}
use Rattle.eq_solver.specs.Cells.{cell_of, celled_value, source_of, source_from, IsPlanOf}
use Rattle.eq_solver.specs.Ranges.{IsInOrder, AreInRange}
use Rattle.eq_solver.specs.Values.{is_slice_of}
use Rattle.eq_solver.specs.Given.{value_at, AreApart, FitsSlice, pieces_of}
use Rattle.eq_solver.specs.Operands.{IsOperandOf, AreSourcesApart, IsNoField, IsNoWhole, AreCellValues, AreWritable}
use Rattle.eq_solver.proofs.OfCells.{same_number, cell_below}
use Rattle.eq_solver.proofs.OrderOfCells.{are_apart}
use Rattle.eq_solver.proofs.FieldValues.{Match, by_field, by_field_match, half_in_cell, cell_back}
use Rattle.eq_solver.proofs.Halves.{half_between}
use Rattle.eq_solver.proofs.Linears.{sound_of}
use Rattle.eq_solver.proofs.Suited.{source_below}
use Rattle.eq_solver.proofs.Held.{one_passes}
use Rattle.eq_solver.proofs.PiecesOf.{chain_pieces, no_pieces}
use Rattle.eq_solver.proofs.WritableOf.{IsThere, value_there, target_of, placed_value, value_is}

-- ---- field operands

-- operand number k, from number j on, is this field
pub record IsFieldAt (j : ℕ) (kinds : List OperandKind) (f k : ℕ) : Type 0 where
  pub place : ℕ
  pub number : k ≡ j + place
  pub kind : OperandKind
  pub there : slice_get kinds place ≡ Some kind
  pub field : kind_field kind ≡ Some f

at_first : (j : ℕ) (kind : OperandKind) (kinds : List OperandKind) (f k : ℕ) → is_field_operand f kind ≡ true → IsOperandOf (source_of kind j) k → IsFieldAt j (kind ∷ kinds) f k
at_first j (Plain g) kinds f k e o = record { place = 0; number = (let z = o in omega (arith, z)); kind = Plain g; there = refl; field = ap Some (same_number g.0 f e) }
at_first j (Extended g) kinds f k e o = record { place = 0; number = (let z = o in omega (arith, z)); kind = Extended g; there = refl; field = ap Some (same_number g.0 f e) }
at_first j (Typed t) kinds f k e o = absurd o
at_first j Whole kinds f k e o = absurd o
at_first j Sliced kinds f k e o = absurd o

later : (j : ℕ) (kind : OperandKind) (kinds : List OperandKind) (f k : ℕ) → IsFieldAt (j + 1) kinds f k → IsFieldAt j (kind ∷ kinds) f k
later j kind kinds f k h = record { place = suc h.place; number = (let z = h.number in omega (arith, z)); kind = h.kind; there = h.there; field = h.field }

source_if : (j : ℕ) (kind : OperandKind) (kinds : List OperandKind) (f k : ℕ) (b : Bool) → is_field_operand f kind ≡ b → (IsOperandOf (source_from (j + 1) kinds f) k → IsFieldAt (j + 1) kinds f k)
    → IsOperandOf (if b then source_of kind j else source_from (j + 1) kinds f) k → IsFieldAt j (kind ∷ kinds) f k
source_if j kind kinds f k true e rec o = at_first j kind kinds f k e o
source_if j kind kinds f k false e rec o = later j kind kinds f k (rec o)

source_operand : (j : ℕ) (kinds : List OperandKind) (f k : ℕ) → IsOperandOf (source_from j kinds f) k → IsFieldAt j kinds f k
source_operand j [] f k o = absurd o
source_operand j (kind ∷ kinds) f k o = source_if j kind kinds f k (is_field_operand f kind) refl (source_operand (j + 1) kinds f k) o

slice_kind : (c : Constructor) (k : ℕ) (a : Atom) → IsAtomOf c a → is_slice_of k a ≡ true → slice_get c.operands k ≡ Some Sliced
slice_kind c k (atom.Slice j lo hi) h e = let s : j ≡ k = same_number j k e in ap (slice_get c.operands) (sym s) ∙ h.0
slice_kind c k (atom.Name j) h e = cc
slice_kind c k (atom.Field f) h e = cc
slice_kind c k (atom.Signed f) h e = cc
slice_kind c k (atom.Label l) h e = cc

sliced_or_not : (o : Option OperandKind) → (o ≡ Some Sliced) ⊎ ((o ≡ Some Sliced) → ⊥)
sliced_or_not None = inr (λ e. cc)
sliced_or_not (Some Sliced) = inl refl
sliced_or_not (Some Whole) = inr (λ e. cc)
sliced_or_not (Some (Plain f)) = inr (λ e. cc)
sliced_or_not (Some (Extended f)) = inr (λ e. cc)
sliced_or_not (Some (Typed t)) = inr (λ e. cc)

not_slice : (k : ℕ) (a : Atom) (b : Bool) → is_slice_of k a ≡ b → (is_slice_of k a ≡ true → ⊥) → is_slice_of k a ≡ false
not_slice k a true e n = absurd (n e)
not_slice k a false e n = e

no_field_kind : (o : Option OperandKind) (kind : OperandKind) (f : ℕ) → o ≡ Some kind → kind_field kind ≡ Some f → (o ≡ Some Sliced) ⊎ (o ≡ Some Whole) → ⊥
no_field_kind o (Plain g) f e h (inl s) = cc
no_field_kind o (Extended g) f e h (inl s) = cc
no_field_kind o (Typed t) f e h s = cc
no_field_kind o Whole f e h s = cc
no_field_kind o Sliced f e h s = cc
no_field_kind o (Plain g) f e h (inr s) = cc
no_field_kind o (Extended g) f e h (inr s) = cc

pub slice_fits : (c : Constructor) (plan : Plan) (labels fields : List ℤ) (h : Value) (a : Atom) → IsBetween (least_value a) (value_limit a) (value_at (setting_from plan.halves [] labels) (at fields) h) → FitsSlice (setting_from plan.halves [] labels) (at fields) h a
slice_fits c plan labels fields h (atom.Slice k lo hi) b = b
slice_fits c plan labels fields h (atom.Name k) b = tt
slice_fits c plan labels fields h (atom.Field f) b = tt
slice_fits c plan labels fields h (atom.Signed f) b = tt
slice_fits c plan labels fields h (atom.Label l) b = tt

module _ (tokens : Tokens) (c : Constructor) (plan : Plan) (is : IsPlanOf tokens c plan) where
  pub operand_at : (f k : ℕ) → f < length plan.sources → IsOperandOf (source_at plan.sources f) k → IsFieldAt 0 c.operands (get_or (bare_fields c.body) f 0) k
  operand_at f k l o =
      let m : f < length (bare_fields c.body) = subst (λ n. f < n) (ap length is.sources_are ∙ length-map {B = Source} (bare_fields c.body) (source_from 0 c.operands)) l in
      source_operand 0 c.operands (get_or (bare_fields c.body) f 0) k
      (subst (λ s. IsOperandOf s k) (ap (λ xs. source_at xs f) is.sources_are ∙ get_or-map (source_from 0 c.operands) (bare_fields c.body) f 0 source.Hidden m) o)

  pub kind_at : (f k : ℕ) (a : IsFieldAt 0 c.operands f k) → slice_get c.operands k ≡ Some a.kind
  kind_at f k a = let e : k ≡ a.place = (let z = a.number in omega (arith, z)) in ap (slice_get c.operands) e ∙ a.there

  sources_apart : AreSourcesApart plan.sources
  sources_apart f g k l m o p =
      let fs = bare_fields c.body in
      let a = operand_at f k l o in
      let b = operand_at g k m p in
      let size : length plan.sources ≡ length fs = ap length is.sources_are ∙ length-map {B = Source} fs (source_from 0 c.operands) in
      let same : get_or fs f 0 ≡ get_or fs g 0 = one_field (slice_get c.operands k) a.kind b.kind _ _ (kind_at _ k a) (kind_at _ k b) a.field b.field in
      let apart = are_apart fs is.linear.once in
      sym (cell_back fs f apart (subst (λ n. f < n) size l)) ∙ ap (cell_of fs) same ∙ cell_back fs g apart (subst (λ n. g < n) size m)
    where
      one_field : (o : Option OperandKind) (x y : OperandKind) (f g : ℕ) → o ≡ Some x → o ≡ Some y → kind_field x ≡ Some f → kind_field y ≡ Some g → f ≡ g
      one_field o x y f g p q r s = let e : x ≡ y = cc in let d = ap kind_field e in cc

  whole_kind : (k j : ℕ) (g : Value) → slice_get plan.values j ≡ Some g → g.target ≡ atom.Name k → slice_get c.operands k ≡ Some Whole
  whole_kind k j g s e = let t = value_there tokens c plan is j g s in subst (IsAtomOf c) (ap (λ (g : Value). g.target) t.celled_is ∙ e) (target_of tokens c plan is j g t)

  pub slice_kind_of : (k j : ℕ) (g : Value) → slice_get plan.values j ≡ Some g → is_slice_of k g.target ≡ true → slice_get c.operands k ≡ Some Sliced
  slice_kind_of k j g s e = let t = value_there tokens c plan is j g s in slice_kind c k g.target (subst (IsAtomOf c) (ap (λ (g : Value). g.target) t.celled_is) (target_of tokens c plan is j g t)) e

  pub no_whole : (k : ℕ) → (slice_get c.operands k ≡ Some Whole → ⊥) → IsNoWhole plan.values k
  no_whole k n j g s e = n (whole_kind k j g s e)

  pub no_field : (k : ℕ) → (slice_get c.operands k ≡ Some Sliced) ⊎ (slice_get c.operands k ≡ Some Whole) → IsNoField plan.sources k
  no_field k h f l o = let a = operand_at f k l o in no_field_kind (slice_get c.operands k) a.kind _ (kind_at _ k a) a.field h

  pub targets_are : map (λ (g : Value). g.target) is.values_are.given ≡ map (λ (g : Value). g.target) plan.values
  targets_are = targets_same is.values_are.given ∙ ap (map (λ (g : Value). g.target)) (sym is.values_are.celled_are)
    where
      targets_same : (gs : List Value) → map (λ (g : Value). g.target) gs ≡ map (λ (g : Value). g.target) (map (celled_value (bare_fields c.body)) gs)
      targets_same [] = refl
      targets_same (g ∷ gs) = ap (λ xs. g.target ∷ xs) (targets_same gs)

  pub orders : (j : ℕ) (g : Value) → slice_get plan.values j ≡ Some g → IsInOrder g.target
  orders j g s = let t = value_there tokens c plan is j g s in subst IsInOrder (ap (λ (g : Value). g.target) t.celled_is) t.value_of.order

  pub target_there : (j : ℕ) (g : Value) → slice_get plan.values j ≡ Some g → slice_get (map (λ (g : Value). g.target) is.values_are.given) j ≡ Some g.target
  target_there j g s = ap (λ xs. slice_get xs j) targets_are ∙ slice_get-map (λ (g : Value). g.target) plan.values j ∙ ap (option_map (λ (g : Value). g.target)) s

  wholes_apart : AreApart plan.values
  wholes_apart i j k g h s t d e =
      one_passes (is_whole_of k) (map (λ (g : Value). g.target) is.values_are.given) g.target h.target (ap (is_whole_of k) d ∙ named k) (ap (is_whole_of k) e ∙ named k) i j
      (is.values_are.solved_by.held k Whole (whole_kind k i g s d)) (target_there i g s) (target_there j h t)
    where
      named : (k : ℕ) → is_whole_of k (atom.Name k) ≡ true
      named k = grind (arith, nat_tests)

  module _ (labels fields : List ℤ) (cells : AreCellValues plan.halves fields) (ranges : AreLabelValues (at labels)) where
    field_range : (f : ℕ) (b : Bool) → is_among (bare_fields c.body) f ≡ b → IsBetween (pos 0) (half_of tokens f +ℤ half_of tokens f) (if b then at fields (cell_of (bare_fields c.body) f) else pos 0)
    field_range f true e =
        let size : length plan.halves ≡ length (bare_fields c.body) = ap length is.halves_are ∙ length-map {B = ℤ} (bare_fields c.body) (half_of tokens) in
        subst (λ h. IsBetween (pos 0) (h +ℤ h) (at fields (cell_of (bare_fields c.body) f))) (half_in_cell tokens (bare_fields c.body) plan.halves [] labels (at fields) (by_field (bare_fields c.body) (at fields)) is.halves_are (by_field_match (bare_fields c.body) (at fields)) f e)
        (cells.range (cell_of (bare_fields c.body) f) (subst (λ n. cell_of (bare_fields c.body) f < n) (sym size) (cell_below (bare_fields c.body) f e)))
    field_range f false e = zero_in (half_of tokens f) (half_between tokens f is.tokens_sound)
      where
        zero_in : (half : ℤ) → IsBetween (pos 1) (pos (2 ^ 31 + 1)) half → IsBetween (pos 0) (half +ℤ half) (pos 0)
        zero_in half b = record { at_least = omega (arith, ints); below = (let l = b.at_least in omega (arith, ints, l)) }

    pub in_range : AreInRange tokens (setting_of tokens (at []) (at labels)) (by_field (bare_fields c.body) (at fields))
    in_range = record { halves = refl; fields_range = λ f. field_range f (is_among (bare_fields c.body) f) refl; labels_range = ranges }

    -- the value is one that its target can have
    pub value_in_range : (j : ℕ) (g : Value) → slice_get plan.values j ≡ Some g → IsBetween (least_value g.target) (value_limit g.target) (value_at (setting_from plan.halves [] labels) (at fields) g)
    value_in_range j g s =
        let t = value_there tokens c plan is j g s in
        subst (λ a. IsBetween (least_value a) (value_limit a) (value_at (setting_from plan.halves [] labels) (at fields) g)) (ap (λ (g : Value). g.target) t.celled_is)
        (subst (IsBetween (least_value t.value.target) (value_limit t.value.target)) (sym (value_is tokens c plan is labels fields (at []) (by_field (bare_fields c.body) (at fields)) j g (by_field_match (bare_fields c.body) (at fields)) t))
        (t.value_of.range (setting_of tokens (at []) (at labels)) (by_field (bare_fields c.body) (at fields)) in_range))

    label_within : (x : ℤ) → IsBetween (pos 0) (pos (2 ^ 32 + 32)) x → IsWithin (2 ^ 34) x
    label_within x h = record { low = omega (arith, ints, h.at_least); high = omega (arith, ints, h.below) }

    pub chain_of : (k : ℕ) → slice_get c.operands k ≡ Some Sliced → pieces.IsChain 32 (pieces_of (setting_from plan.halves [] labels) (at fields) plan.values k plan.slices)
    chain_of k s = chain_pieces (setting_from plan.halves [] labels) (at fields) plan.values _ targets_are orders k plan.slices 32 (is.values_are.solved_by.slices_order.chains k s)

    pub unsliced : (k : ℕ) → (slice_get c.operands k ≡ Some Sliced → ⊥) → pieces_of (setting_from plan.halves [] labels) (at fields) plan.values k plan.slices ≡ []
    unsliced k n = no_pieces (setting_from plan.halves [] labels) (at fields) plan.values _ targets_are orders k plan.slices (λ j g s. not_slice k g.target _ refl (λ e. n (slice_kind_of k j g s e)))

    pub writable : length (labels_in c.body) ≡ length labels → AreWritable plan.halves labels fields plan.sources plan.values plan.slices (length c.operands)
    writable count =
        let fs = bare_fields c.body in
        let size : length plan.halves ≡ length fs = ap length is.halves_are ∙ length-map {B = ℤ} fs (half_of tokens) in
        let sizes : length plan.sources ≡ length fs = ap length is.sources_are ∙ length-map {B = Source} fs (source_from 0 c.operands) in
        record {
          one_each = size ∙ sym sizes;
          given = record {
            one_each = sym cells.one_each;
            half = (sound_of tokens c plan is).half;
            operand = λ k. record { low = omega (arith, ints); high = omega (arith, ints) };
            label = λ k. label_within (at labels k) (ranges k);
            field = cells.range;
          };
          sources_in = subst (All (IsSourceOf (length c.operands))) (sym is.sources_are)
              (All-map (IsSourceOf (length c.operands)) (source_from 0 c.operands) fs (λ k d l. source_below (length c.operands) 0 c.operands (get_or fs k d) (let e : 0 + length c.operands ≡ length c.operands = omega arith in e)));
          apart = sources_apart;
          placed = λ j d l. (let g = get_or plan.values j d in let s = slice_get-get_or plan.values j d l in placed_value tokens c plan is (length fields) (length labels) j g (cells.one_each ∙ size) (sym count) (value_there tokens c plan is j g s));
          distinct = wholes_apart;
          fits = λ j g s. slice_fits c plan labels fields g g.target (value_in_range j g s);
          within = subst (λ n. All (λ m. m < n) plan.slices) (ap length targets_are ∙ length-map {B = Atom} plan.values (λ (g : Value). g.target)) is.values_are.solved_by.slices_order.within;
          chains = λ k. elim (sliced_or_not (slice_get c.operands k)) [
            | inl s ↦ inr (chain_of k s, no_field k (inl s), no_whole k (λ w. sliced_whole (slice_get c.operands k) s w))
            | inr n ↦ inl (unsliced k n)
          ];
          fields_only = λ f k l o. no_whole k (λ w. (let a = operand_at f k l o in no_field_kind (slice_get c.operands k) a.kind _ (kind_at _ k a) a.field (inr w)));
        }
      where
        sliced_whole : (o : Option OperandKind) → o ≡ Some Sliced → o ≡ Some Whole → ⊥
        sliced_whole o p q = cc
