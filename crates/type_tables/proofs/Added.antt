-- Tables to which a type or a constructor is added.
use Rattle.std.proofs.Common.{◌≡◌, ⊎_elim, ℕ, ◌+◌, ◌<◌, ◌≤◌, max, Bool, true, false, if◌then◌else◌, ◌||◌, List, [], ◌∷◌, ◌++◌, length, set, get_or, slice_get, Option, Some, None, refl, sym, ap, ◌∙◌, subst, arith, add-zero}
use Rattle.std.specs.List.{list_any}
use Rattle.std.specs.Option.{option_map}
use Rattle.std.proofs.lemmas.Bool.{cases_Bool, eqb-true, eqb-false}
use Rattle.std.proofs.lemmas.Option.{slice_get_within, slice_get-get_or}
use Rattle.std.proofs.lemmas.List.{append-nil, length_push, length-set}
use Rattle.sled_model.specs.declared.constructor.TypeId.{TypeId}
use Rattle.sled_model.specs.declared.constructor.Constructor.{Constructor}
use Rattle.sled_model.specs.declared.spec.Spec.{Spec}
use Rattle.sled_model.specs.Measures.{Weighed, Sized, capped, each_from, weighed, type_weight, sized, type_size}
use Rattle.sled_model.specs.Results.{makes}
use Rattle.sled_model.specs.Shapes.{shaped, type_shapes, known_shapes}
use Rattle.sled_model.specs.Specs.{IsSpec}
use Rattle.sled_model.proofs.MeasureLaws.{each_from_push, type_weight_push, type_size_push}
use Rattle.pattern_shapes.specs.Forms.{SameMembers}
use Rattle.pattern_shapes.proofs.Joined.{same_self, same_then, once_none}
use Rattle.type_tables.specs.declared.measures.Measures.{Measures}
use Rattle.type_tables.specs.declared.types.TypeEntry.{TypeEntry}
use Rattle.type_tables.specs.declared.table.TypeTable.{TypeTable}
use Rattle.type_tables.specs.Types.{is_of_type, with_uses, GainsConstructor, GainsMade, GainMade}
use Rattle.type_tables.specs.Tables.{is_used_type, IsEntryOf, IsTableOf, AreMeasuresOf}
use Rattle.type_tables.proofs.Lists.{push_cases, set_here, set_elsewhere, found_below, any_push, same_append}
use Rattle.type_tables.proofs.TypeLaws.{type_shapes_push, weight_unmade, size_unmade, shapes_unmade, not_used, made_below}

-- ---- a type more

abbrev pub no_entry : TypeEntry
no_entry = record { weight = 0; size = 0; shapes = []; used = false }

pub empty_entry : (spec : Spec) → IsSpec spec → (t : TypeId) → length spec.type_names ≤ t.0 → IsEntryOf spec t no_entry
empty_entry spec sound t past =
    let n = length spec.type_names in let below = made_below spec sound in
    record {
      weight = sym (ap capped (weight_unmade n t past spec.tokens [] spec.constructors below));
      size = sym (ap capped (size_unmade n t past [] spec.constructors below));
      shapes = subst (SameMembers []) (sym (shapes_unmade n t past spec.tokens [] spec.constructors below)) (same_self []);
      once = once_none;
      used = sym (not_used n t past spec.tokens spec.constructors sound.constructors);
    }

module _ (spec : Spec) (name : List ℕ) where
  abbrev more_types : Spec
  more_types = record spec { type_names = spec.type_names ++ name ∷ [] }

  still_entry : (t : TypeId) (entry : TypeEntry) → IsEntryOf spec t entry → IsEntryOf more_types t entry
  still_entry t entry h = record { weight = h.weight; size = h.size; shapes = h.shapes; once = h.once; used = h.used }

  pub type_added : (old new : TypeTable) → new.types.items ≡ old.types.items ++ no_entry ∷ [] → IsSpec spec → IsTableOf spec old → IsTableOf more_types new
  type_added old new e sound h = record {
    count = ap length e ∙ length_push old.types.items no_entry ∙ ap (λ n. n + 1) h.count ∙ sym (length_push spec.type_names name);
    entries = λ t entry is. ⊎_elim
        (λ l. still_entry t entry (h.entries t entry l))
        (λ r. let past : length spec.type_names ≤ t.0 = let at : t.0 ≡ length old.types.items = r.0 in let same = h.count in omega arith in
        still_entry t entry (subst (IsEntryOf spec t) r.1 (empty_entry spec sound t past)))
        (push_cases old.types.items no_entry entry t.0 (sym (ap (λ es. slice_get es t.0) e) ∙ is));
  }

-- ---- a constructor more, of the type that it makes

module _ (made : Option TypeId) (measures : Measures) where
  pub gain_set : (id : TypeId) (olds : List TypeEntry) (old new : TypeEntry) → made ≡ Some id → id.0 < length olds → old ≡ get_or olds id.0 old
      → GainsConstructor measures (get_or olds id.0 old) new → GainMade made measures olds (set olds id.0 new)
  gain_set id olds old new is within here gains = record {
    count = length-set olds id.0 new;
    each = λ t o n iso isn. record {
      its = λ e.
          let same : id.0 ≡ t.0 = eqb-true id.0 t.0 (sym (ap (makes t) is) ∙ e) in
          let first : slice_get olds id.0 ≡ Some old = slice_get-get_or olds id.0 old within ∙ ap (λ x. Some x) (sym here) in
          let second : slice_get (set olds id.0 new) id.0 ≡ Some new = set_here olds id.0 new within in
          let one : Some o ≡ Some old = sym iso ∙ ap (slice_get olds) (sym same) ∙ first in
          let other : Some n ≡ Some new = sym isn ∙ ap (slice_get (set olds id.0 new)) (sym same) ∙ second in
          let a : old ≡ o = cc in let b : new ≡ n = cc in
          subst (λ x. GainsConstructor measures x n) a (subst (GainsConstructor measures old) b (subst (λ x. GainsConstructor measures x new) (sym here) gains));
      other = λ e.
          let kept : slice_get (set olds id.0 new) t.0 ≡ slice_get olds t.0 = set_elsewhere olds id.0 t.0 new (eqb-false id.0 t.0 (sym (ap (makes t) is) ∙ e)) in
          let same : Some n ≡ Some o = sym isn ∙ kept ∙ iso in cc;
    };
  }

  gain_none : (olds : List TypeEntry) → ((t : TypeId) → t.0 < length olds → makes t made ≡ false) → GainMade made measures olds olds
  gain_none olds h = record {
    count = refl;
    each = λ t o n iso isn. record {
      its = λ e. let no = h t (slice_get_within olds t.0 o iso) in absurd (cc (e, no));
      other = λ e. let same : Some n ≡ Some o = sym isn ∙ iso in cc;
    };
  }

  pub gain_past : (id : TypeId) (olds : List TypeEntry) → made ≡ Some id → length olds ≤ id.0 → GainMade made measures olds olds
  gain_past id olds is past = gain_none olds (λ t within. ap (makes t) is ∙ differ t within (makes t (Some id)) refl)
    where
      differ : (t : TypeId) → t.0 < length olds → (b : Bool) → makes t (Some id) ≡ b → b ≡ false
      differ t within true e = let same : id.0 ≡ t.0 = eqb-true id.0 t.0 e in absurd (omega arith)
      differ t within false e = refl

-- ---- a constructor more

mapped_some : {A B : Type 0} (f : A → B) (o : Option A) (y : B) → option_map f o ≡ Some y → (x : A) × (o ≡ Some x) × (f x ≡ y)
mapped_some f None y e = cc
mapped_some f (Some x) y e = (x, refl, cc)

-- with what it has now, capped, it has as much as with all of it
capped_more : (a b m n : ℕ) → a ≡ capped m → b ≡ capped n → capped (a + b) ≡ capped (m + n)
capped_more a b m n e d = omega (arith, e, d)

capped_most : (a b m n : ℕ) → a ≡ capped m → b ≡ capped n → max a b ≡ capped (max m n)
capped_most a b m n e d = omega (arith, e, d)

max_none : (n : ℕ) → max n 0 ≡ n
max_none n = omega arith

module _ (spec : Spec) (c : Constructor) (measures : Measures) (are : AreMeasuresOf spec c measures) where
  abbrev more_constructors : Spec
  more_constructors = record spec { constructors = spec.constructors ++ c ∷ []; constructor_names = spec.constructor_names ++ c.name ∷ [] }

  abbrev weights : List Weighed
  weights = each_from (weighed spec.tokens) [] spec.constructors

  abbrev sizes : List Sized
  sizes = each_from sized [] spec.constructors

  module _ (t : TypeId) where
    weight_now : (b : Bool) → makes t c.result ≡ b
        → type_weight (each_from (weighed spec.tokens) [] (spec.constructors ++ c ∷ [])) t ≡ type_weight weights t + (if b then (weighed spec.tokens weights c).weight else 0)
    weight_now b e =
        ap (λ ws. type_weight ws t) (each_from_push (weighed spec.tokens) [] spec.constructors c) ∙ type_weight_push weights (weighed spec.tokens weights c) t
        ∙ ap (λ v. type_weight weights t + (if v then (weighed spec.tokens weights c).weight else 0)) e

    size_now : (b : Bool) → makes t c.result ≡ b
        → type_size (each_from sized [] (spec.constructors ++ c ∷ [])) t ≡ max (type_size sizes t) (if b then (sized sizes c).size else 0)
    size_now b e =
        ap (λ ws. type_size ws t) (each_from_push sized [] spec.constructors c) ∙ type_size_push sizes (sized sizes c) t
        ∙ ap (λ v. max (type_size sizes t) (if v then (sized sizes c).size else 0)) e

    shapes_now : (b : Bool) → makes t c.result ≡ b
        → type_shapes (known_shapes more_constructors) t ≡ type_shapes (known_shapes spec) t ++ (if b then (shaped spec.tokens (known_shapes spec) c).shapes else [])
    shapes_now b e =
        let known = known_shapes spec in let last = shaped spec.tokens known c in
        ap (λ ss. type_shapes ss t) (each_from_push (shaped spec.tokens) [] spec.constructors c) ∙ type_shapes_push known last t
        ∙ ap (λ v. type_shapes known t ++ (if v then last.shapes else [])) e

    used_now : is_used_type more_constructors t.0 ≡ (is_used_type spec t.0 || list_any (is_of_type t.0) c.operands)
    used_now = any_push (λ (d : Constructor). list_any (is_of_type t.0) d.operands) spec.constructors c

    module _ (old new : TypeEntry) (h : IsEntryOf spec t old) where
      entry_made : makes t c.result ≡ true → GainsConstructor measures old new → IsEntryOf more_constructors t (with_uses t.0 c.operands new)
      entry_made e gains = record {
        weight = gains.weight ∙ capped_more old.weight measures.weight _ _ h.weight are.weight ∙ ap capped (sym (weight_now true e));
        size = gains.size ∙ capped_most old.size measures.size _ _ h.size are.size ∙ ap capped (sym (size_now true e));
        shapes = subst (SameMembers new.shapes) (sym (shapes_now true e))
            (same_then new.shapes (old.shapes ++ measures.form.shapes) _ gains.shapes (same_append old.shapes _ measures.form.shapes _ h.shapes are.form.members));
        once = gains.once h.once;
        used = ap (λ u. u || list_any (is_of_type t.0) c.operands) (gains.used ∙ h.used) ∙ sym used_now;
      }

      entry_other : makes t c.result ≡ false → new ≡ old → IsEntryOf more_constructors t (with_uses t.0 c.operands new)
      entry_other e same =
          let W = type_weight weights t in let S = type_size sizes t in let T = type_shapes (known_shapes spec) t in
          subst (λ x. IsEntryOf more_constructors t (with_uses t.0 c.operands x)) (sym same) (record {
            weight = h.weight ∙ ap capped (sym (weight_now false e ∙ add-zero W));
            size = h.size ∙ ap capped (sym (size_now false e ∙ max_none S));
            shapes = subst (SameMembers old.shapes) (sym (shapes_now false e ∙ append-nil T)) h.shapes;
            once = h.once;
            used = ap (λ u. u || list_any (is_of_type t.0) c.operands) h.used ∙ sym used_now;
          })

      entry_gains : GainsMade c.result measures t old new → IsEntryOf more_constructors t (with_uses t.0 c.operands new)
      entry_gains gains = ⊎_elim (λ e. entry_made e (gains.its e)) (λ e. entry_other e (gains.other e)) (cases_Bool (makes t c.result))

  pub constructor_added : (old new : TypeTable) (middle : List TypeEntry) → GainMade c.result measures old.types.items middle → length new.types.items ≡ length middle
      → ((t : ℕ) → slice_get new.types.items t ≡ option_map (with_uses t c.operands) (slice_get middle t)) → IsTableOf spec old → IsTableOf more_constructors new
  constructor_added old new middle gain long marked h = record {
    count = long ∙ gain.count ∙ h.count;
    entries = λ t entry is.
        let from = mapped_some (with_uses t.0 c.operands) (slice_get middle t.0) entry (sym (marked t.0) ∙ is) in
        let below : t.0 < length old.types.items = let l = slice_get_within middle t.0 from.0 from.1 in let same = gain.count in omega arith in
        let first = found_below old.types.items t.0 below in
        subst (IsEntryOf more_constructors t) from.2 (entry_gains t first.0 from.0 (h.entries t first.0 first.1) (gain.each t first.0 from.0 first.1 from.1));
  }
