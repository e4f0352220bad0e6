-- What a table says, as types and constructors are added.
use Rattle.std.proofs.Common.{◌≡◌, ◌≢◌, ⊎_elim, ℕ, zero, suc, ◌+◌, ◌<◌, ◌≤◌, max, Bool, true, false, if◌then◌else◌, List, [], ◌∷◌, ◌++◌, length, map, take, drop, get_or, slice_get, AllPairs, IfSome, Option, Some, None, refl, sym, ap, subst, ◌∙◌, arith, append_assoc}
use Rattle.std.specs.Option.{option_map_or}
use Rattle.std.proofs.lemmas.Bool.{cases_Bool, cases_lt, eqb-true}
use Rattle.std.proofs.lemmas.List.{map-append, length-map, length-append, length-take-le, get_or_past, get_or_append_left, take-append-drop, take-map, take_all, take_more}
use Rattle.std.proofs.lemmas.List.Elements.{All-nil, All-take}
use Rattle.token_bits.proofs.Sound.{All-slice_get}
use Rattle.token_bits.specs.declared.tokens.Tokens.{Tokens}
use Rattle.sled_model.specs.declared.spec.Spec.{Spec}
use Rattle.sled_model.specs.declared.constructor.TypeId.{TypeId}
use Rattle.sled_model.specs.declared.constructor.OperandKind.{OperandKind}
use Rattle.sled_model.specs.declared.constructor.OperandKind.TheVariants.{Plain, Extended, Typed, Whole, Sliced}
use Rattle.sled_model.specs.declared.constructor.Constructor.{Constructor}
use Rattle.sled_model.specs.Leaves.{IsNoApplication, AllLeaves}
use Rattle.sled_model.specs.Measures.{Sized, Measured, capped, sized, measured, type_len, kind_len, operand_len}
use Rattle.sled_model.specs.Results.{makes}
use Rattle.sled_model.specs.Specs.{IsSpec, IsBodyLeaf, IsConstructorOf, names_of, constructor_names_of}
use Rattle.sled_model.proofs.MeasureLaws.{each_from_push}
use Rattle.sled_model.proofs.ShapeContexts.{AllLeaves-weaker}
use Rattle.pattern_normal.proofs.Measured.{found_at}
use Rattle.type_tables.specs.Tables.{IsTableOf, body_size}
use Rattle.type_tables.proofs.Lists.{mapped_at}
use Rattle.application_measures.specs.declared.table.ApplicationTable.{ApplicationTable}
use Rattle.application_measures.specs.Parts.{len_among}
use Rattle.application_measures.specs.Tables.{IsApplicationTableOf, len_in, sizes_of, lens_of, with_types, with_constructor}
use Rattle.application_measures.proofs.LengthLaws.{len_same_capped, len_unapplied, type_len_push}

capped_twice : (n : ℕ) → capped (capped n) ≡ capped n
capped_twice n = omega arith

-- ---- a front of a description is one

front_pairs : {X : Type 0} (R : X → X → Type 0) (xs ys : List X) → AllPairs R (xs ++ ys) → AllPairs R xs
front_pairs R xs ys h i j d less within =
    let long = length-append xs ys in
    let a = get_or_append_left xs ys d i (omega arith) in let b = get_or_append_left xs ys d j within in
    subst (λ x. R x (get_or xs j d)) a (subst (λ y. R (get_or (xs ++ ys) i d) y) b (h i j d less (omega arith)))

module _ (spec : Spec) where
  -- the description with its first k types, and no constructors
  abbrev pub first_types : ℕ → Spec
  first_types k = record spec { type_names = take k spec.type_names; constructors = []; constructor_names = [] }

  -- the description with its first k constructors
  abbrev pub first_constructors : ℕ → Spec
  first_constructors k = record spec { constructors = take k spec.constructors; constructor_names = take k spec.constructor_names }

  names_front : (k : ℕ) → names_of (first_types k) ++ drop k spec.type_names ≡ names_of spec
  names_front k = simp append_assoc (ap (λ ts. spec.class_names ++ (spec.field_names ++ ts)) (take-append-drop k spec.type_names))

  module _ (sound : IsSpec spec) (k : ℕ) where
    pub types_sound : IsSpec (first_types k)
    types_sound = record {
      tokens = sound.tokens;
      classes = sound.classes;
      fields = sound.fields;
      names = front_pairs (λ one other. one ≢ other) (names_of (first_types k)) (drop k spec.type_names) (subst (AllPairs (λ one other. one ≢ other)) (sym (names_front k)) sound.names);
      constructor_names = refl;
      different = λ i j d less within. absurd (omega arith);
      constructors = All-nil (IsConstructorOf spec.tokens (length (take k spec.type_names)));
      few = omega arith;
    }

    constructor_front : constructor_names_of (first_constructors k) ++ map (λ (c : Constructor). c.name) (drop k spec.constructors) ≡ constructor_names_of spec
    constructor_front =
        let f = λ (c : Constructor). c.name in
        sym (map-append f (take k spec.constructors) (drop k spec.constructors)) ∙ ap (map f) (take-append-drop k spec.constructors)

    pub constructors_sound : k ≤ length spec.constructors → IsSpec (first_constructors k)
    constructors_sound within = record {
      tokens = sound.tokens;
      classes = sound.classes;
      fields = sound.fields;
      names = sound.names;
      constructor_names = ap (take k) sound.constructor_names ∙ take-map (λ (c : Constructor). c.name) k spec.constructors;
      different = front_pairs (λ one other. one ≢ other) (constructor_names_of (first_constructors k)) (map (λ (c : Constructor). c.name) (drop k spec.constructors))
          (subst (AllPairs (λ one other. one ≢ other)) (sym constructor_front) sound.different);
      constructors = All-take (IsConstructorOf spec.tokens (length spec.type_names)) k spec.constructors sound.constructors;
      few = (let short = length-take-le k spec.constructors within in let few = sound.few in omega arith);
    }

    pub one_type_more : k < length spec.type_names → record (first_types k) { type_names = take k spec.type_names ++ get_or spec.type_names k [] ∷ [] } ≡ first_types (k + 1)
    one_type_more within = ap (λ ts. record spec { type_names = ts; constructors = []; constructor_names = [] }) (sym (take_more spec.type_names k [] within))

    pub one_constructor_more : (c : Constructor) → k < length spec.constructors → c ≡ get_or spec.constructors k c
        → with_constructor (first_constructors k) c ≡ first_constructors (k + 1)
    one_constructor_more c within is =
        let f = λ (d : Constructor). d.name in let cs = spec.constructors in
        let grown : take k cs ++ c ∷ [] ≡ take (k + 1) cs = ap (λ d. take k cs ++ d ∷ []) is ∙ sym (take_more cs k c within) in
        let named : take k spec.constructor_names ++ c.name ∷ [] ≡ take (k + 1) spec.constructor_names =
        ap (λ ns. take k ns ++ c.name ∷ []) sound.constructor_names ∙ ap (λ ns. ns ++ c.name ∷ []) (take-map f k cs)
        ∙ sym (map-append f (take k cs) (c ∷ [])) ∙ ap (map f) grown ∙ sym (take-map f (k + 1) cs) ∙ ap (take (k + 1)) (sym sound.constructor_names) in
        ap (λ ds. record spec { constructors = ds; constructor_names = take k spec.constructor_names ++ c.name ∷ [] }) grown
        ∙ ap (λ ns. record spec { constructors = take (k + 1) cs; constructor_names = ns }) named

  pub all_types : (k : ℕ) → length spec.type_names ≤ k → first_types k ≡ with_types spec
  all_types k past = ap (λ ts. record spec { type_names = ts; constructors = []; constructor_names = [] }) (take_all k spec.type_names past)

  pub no_constructors : with_types spec ≡ first_constructors 0
  no_constructors = refl

  pub all_constructors : IsSpec spec → (k : ℕ) → length spec.constructors ≤ k → first_constructors k ≡ spec
  all_constructors sound k past =
      let named : length spec.constructor_names ≡ length spec.constructors = ap length sound.constructor_names ∙ length-map spec.constructors (λ (c : Constructor). c.name) in
      ap (λ ds. record spec { constructors = ds; constructor_names = take k spec.constructor_names }) (take_all k spec.constructors past)
      ∙ ap (λ ns. record spec { constructor_names = ns }) (take_all k spec.constructor_names (omega arith))

-- ---- a constructor more

none_made : (n : ℕ) (o : Option TypeId) (t : TypeId) → IfSome o (λ r. r.0 < n) → n ≤ t.0 → (b : Bool) → makes t o ≡ b → b ≡ false
none_made n o t h past false e = refl
none_made n None t h past true e = cc
none_made n (Some r) t h past true e = (let same : r.0 ≡ t.0 = eqb-true r.0 t.0 e in let less : r.0 < n = h in absurd (omega arith))

max_none : (n : ℕ) → max n 0 ≡ n
max_none n = omega arith

capped_most : (a b m n : ℕ) → a ≡ capped m → b ≡ capped n → max a b ≡ capped (max m n)
capped_most a b m n e d = omega (arith, e, d)

pub applies_nothing : (tokens : Tokens) (types : ℕ) (c : Constructor) → IsConstructorOf tokens types c → AllLeaves IsNoApplication c.body
applies_nothing tokens types c known = AllLeaves-weaker (IsBodyLeaf tokens c.operands) IsNoApplication (λ q leaf h. h.alone) c.body known.body

-- constructor number k of a description
pub constructor_known : (spec : Spec) → IsSpec spec → (k : ℕ) (c : Constructor) → k < length spec.constructors → c ≡ get_or spec.constructors k c
    → IsConstructorOf spec.tokens (length spec.type_names) c
constructor_known spec sound k c within is =
    All-slice_get (IsConstructorOf spec.tokens (length spec.type_names)) spec.constructors k c (found_at spec.constructors k c within is) sound.constructors

module _ (spec : Spec) (c : Constructor) (known : IsConstructorOf spec.tokens (length spec.type_names) c) (old : ApplicationTable) (of : IsApplicationTableOf spec old) where
  plain : AllLeaves IsNoApplication c.body
  plain = applies_nothing spec.tokens (length spec.type_names) c known

  kind_long : (kind : OperandKind) → capped (len_in old.type_lens kind) ≡ capped (kind_len (lens_of spec) kind)
  kind_long (Typed t) = ap capped (of.type_lens t) ∙ capped_twice (type_len (lens_of spec) t)
  kind_long (Plain f) = refl
  kind_long (Extended f) = refl
  kind_long Whole = refl
  kind_long Sliced = refl

  found_long : (o : Option OperandKind) → capped (option_map_or (len_in old.type_lens) o 0) ≡ capped (option_map_or (kind_len (lens_of spec)) o 0)
  found_long None = refl
  found_long (Some kind) = kind_long kind

  abbrev whole_len : ℕ
  whole_len = (measured spec.tokens (lens_of spec) c).len

  pub len_found : capped (len_among spec.tokens (map (len_in old.type_lens) c.operands) c.body) ≡ capped whole_len
  len_found =
      len_same_capped spec.tokens [] (λ k. get_or (map (len_in old.type_lens) c.operands) k 0) (operand_len (lens_of spec) c.operands)
      (λ k. ap capped (mapped_at (len_in old.type_lens) c.operands k 0) ∙ found_long (slice_get c.operands k)) c.body
      ∙ ap capped (len_unapplied spec.tokens [] (lens_of spec) (operand_len (lens_of spec) c.operands) c.body plain)

  module _ (t : TypeId) where
    len_now : (b : Bool) → makes t c.result ≡ b → type_len (lens_of (with_constructor spec c)) t ≡ max (type_len (lens_of spec) t) (if b then whole_len else 0)
    len_now b e =
        ap (λ ms. type_len ms t) (each_from_push (measured spec.tokens) [] spec.constructors c) ∙ type_len_push (lens_of spec) (measured spec.tokens (lens_of spec) c) t
        ∙ ap (λ v. max (type_len (lens_of spec) t) (if v then whole_len else 0)) e

    unmade : makes t c.result ≡ false → type_len (lens_of (with_constructor spec c)) t ≡ type_len (lens_of spec) t
    unmade e = len_now false e ∙ max_none (type_len (lens_of spec) t)

  module _ (new : ApplicationTable) (len : ℕ) (long : len ≡ capped whole_len) (count : length new.type_lens ≡ length old.type_lens)
      (each : (t : TypeId) → t.0 < length old.type_lens
      → get_or new.type_lens t.0 0 ≡ (if makes t c.result then max (get_or old.type_lens t.0 0) len else get_or old.type_lens t.0 0)) where
    long_made : (t : TypeId) → t.0 < length old.type_lens → makes t c.result ≡ true → get_or new.type_lens t.0 0 ≡ capped (type_len (lens_of (with_constructor spec c)) t)
    long_made t less e =
        each t less ∙ ap (λ b. if b then max (get_or old.type_lens t.0 0) len else get_or old.type_lens t.0 0) e
        ∙ capped_most (get_or old.type_lens t.0 0) len (type_len (lens_of spec) t) whole_len (of.type_lens t) long ∙ ap capped (sym (len_now t true e))

    long_other : (t : TypeId) → t.0 < length old.type_lens → makes t c.result ≡ false → get_or new.type_lens t.0 0 ≡ capped (type_len (lens_of (with_constructor spec c)) t)
    long_other t less e =
        each t less ∙ ap (λ b. if b then max (get_or old.type_lens t.0 0) len else get_or old.type_lens t.0 0) e ∙ of.type_lens t ∙ ap capped (sym (unmade t e))

    long_past : (t : TypeId) → length old.type_lens ≤ t.0 → get_or new.type_lens t.0 0 ≡ capped (type_len (lens_of (with_constructor spec c)) t)
    long_past t past =
        let none : makes t c.result ≡ false = none_made (length old.type_lens) c.result t (subst (λ n. IfSome c.result (λ r. r.0 < n)) (sym of.count) known.result) past (makes t c.result) refl in
        get_or_past new.type_lens t.0 0 (omega arith) ∙ sym (get_or_past old.type_lens t.0 0 past) ∙ of.type_lens t ∙ ap capped (sym (unmade t none))

    type_lens_now : (t : TypeId) → get_or new.type_lens t.0 0 ≡ capped (type_len (lens_of (with_constructor spec c)) t)
    type_lens_now t = ⊎_elim
        (λ less. ⊎_elim (λ e. long_made t less e) (λ e. long_other t less e) (cases_Bool (makes t c.result)))
        (λ past. long_past t past)
        (cases_lt t.0 (length old.type_lens))

    pub table_added : (size : ℕ) → size ≡ capped (body_size spec c.operands c.body) → IsTableOf (with_constructor spec c) new.types
        → new.sizes ≡ old.sizes ++ size ∷ [] → new.lens ≡ old.lens ++ len ∷ [] → IsApplicationTableOf (with_constructor spec c) new
    table_added size large types sizes lens = record {
      types = types;
      sizes = sizes ∙ ap (λ ns. ns ++ size ∷ []) of.sizes ∙ ap (λ n. map (λ (d : Sized). capped d.size) (sizes_of spec) ++ n ∷ []) large
          ∙ sym (map-append (λ (d : Sized). capped d.size) (sizes_of spec) (sized (sizes_of spec) c ∷ []))
          ∙ ap (map (λ (d : Sized). capped d.size)) (sym (each_from_push sized [] spec.constructors c));
      lens = lens ∙ ap (λ ns. ns ++ len ∷ []) of.lens ∙ ap (λ n. map (λ (d : Measured). capped d.len) (lens_of spec) ++ n ∷ []) long
          ∙ sym (map-append (λ (d : Measured). capped d.len) (lens_of spec) (measured spec.tokens (lens_of spec) c ∷ []))
          ∙ ap (map (λ (d : Measured). capped d.len)) (sym (each_from_push (measured spec.tokens) [] spec.constructors c));
      count = count ∙ of.count;
      type_lens = type_lens_now;
    }

-- ---- no constructors yet

pub types_only : (spec : Spec) (table : ApplicationTable) → IsTableOf (with_types spec) table.types → length table.type_lens ≡ length spec.type_names
    → ((t : ℕ) → get_or table.type_lens t 0 ≡ 0) → table.sizes ≡ [] → table.lens ≡ [] → IsApplicationTableOf (with_types spec) table
types_only spec table types count none sizes lens = record { types = types; sizes = sizes; lens = lens; count = count; type_lens = λ t. none t.0 }

pub one_zero_more : (ns : List ℕ) → ((t : ℕ) → get_or ns t 0 ≡ 0) → (t : ℕ) → get_or (ns ++ 0 ∷ []) t 0 ≡ 0
one_zero_more [] h zero = refl
one_zero_more [] h (suc t) = refl
one_zero_more (n ∷ ns) h zero = h 0
one_zero_more (n ∷ ns) h (suc t) = one_zero_more ns (λ k. h (suc k)) t
