-- The one instance that the entries of a body mean, where each choice among them means one.
use Rattle.std.proofs.Common.{ℕ, zero, suc, ◌+◌, ◌≡◌, ◌≢◌, Bool, true, false, List, [], ◌∷◌, All, AllPairs, Contains, slice_get, Option, Some, None, ℤ, pos, refl, sym, ap, ◌∙◌, subst, arith}
use Rattle.std.specs.Prelude.{◌&&◌}
use Rattle.std.specs.List.{filter_map, cons_option}
use Rattle.std.specs.Option.{option_map, option_map_or}
use Rattle.std.proofs.lemmas.List.Elements.{All-nil, All-cons, All-contains}
use Rattle.token_bits.specs.declared.tokens.FieldId.{FieldId}
use Rattle.sled_model.specs.declared.constructor.ConstructorId.{ConstructorId}
use Rattle.sled_model.specs.declared.constructor.TypeId.{TypeId}
use Rattle.sled_model.specs.declared.constructor.OperandKind.{OperandKind}
use Rattle.sled_model.specs.declared.constructor.OperandKind.TheVariants.{Plain, Extended, Typed, Whole, Sliced}
use Rattle.sled_model.specs.declared.constructor.Constructor.{Constructor}
use Rattle.sled_model.specs.declared.instance.Instance.{Instance}
use Rattle.sled_model.specs.declared.instance.Operand.{Operand}
use Rattle.sled_model.specs.declared.instance.Operand.TheVariants.{Num, Sub}
use Rattle.sled_model.specs.declared.raw.RawEntry.{RawEntry}
use Rattle.sled_model.specs.declared.raw.RawEntry.TheVariants.{Choice}
use Rattle.sled_model.specs.declared.spec.Spec.{Spec}
use Rattle.sled_model.specs.Equations.{half_of, sign_extended, EachSatisfied}
use Rattle.sled_model.specs.Instances.{Means, means, OperandsMean, no_more, plain, extended, typed, whole, sliced, numbers_of, fields_in, labels_at}
use Rattle.sled_model.specs.Kinds.{is_of, is_of_kind, are_of_kinds, admits}
use Rattle.sled_model.specs.Linear.{kind_field}
use Rattle.sled_model.specs.Results.{Known, Context, makes, choice_of, operands_in}
use Rattle.sled_model.specs.SolvingOrder.{bare_fields, is_among}
use Rattle.sled_model.proofs.KindLaws.{is_of_kind-Sub}
use Rattle.sled_model.proofs.Members.{Contains-here, Contains-there}
use Rattle.asm_text.specs.Writable.{HasNoPlace}
use Rattle.asm_text.proofs.WritableLaws.{HasNoPlace-Sub}
use Rattle.match_meaning.specs.Readable.{IsReadable}
use Rattle.instance_reading.specs.Reading.{IsMeant, IsOnlyMeant}
use Rattle.instance_reading.proofs.Numbers.{AreAlike, AreOnlyNumbers}
use Rattle.instance_reading.proofs.BodyReads.{read_field, IsChoiceFor, Reads}
use Rattle.instance_reading.proofs.Entries.{one_value, IsRead, read_of, choice_at}
use Rattle.instance_reading.proofs.Choices.{choice_same}
use Rattle.instance_reading.proofs.Inversions.{invert_none, invert_plain, invert_extended, invert_typed, invert_whole, invert_sliced, ranges, HaveNumbers, number_at, have_numbers}

-- ---- small laws

both : (a b : Bool) → a ≡ true → b ≡ true → (a && b) ≡ true
both true b e d = d
both false b e d = cc

-- the field of a field operand is one of those
pub field_there : (kinds : List OperandKind) (j : ℕ) (kind : OperandKind) (f : ℕ) → slice_get kinds j ≡ Some kind → kind_field kind ≡ Some f → Contains (filter_map kind_field kinds) f
field_there [] j kind f e d = cc
field_there (k ∷ kinds) zero kind f e d =
    let same : k ≡ kind = cc in
    subst (λ o. Contains (cons_option o (filter_map kind_field kinds)) f) (sym (ap kind_field same ∙ d)) (Contains-here f (filter_map kind_field kinds))
field_there (k ∷ kinds) (suc j) kind f e d = later (kind_field k) (filter_map kind_field kinds) (field_there kinds j kind f e d)
  where
    later : (o : Option ℕ) (xs : List ℕ) → Contains xs f → Contains (cons_option o xs) f
    later None xs h = h
    later (Some x) xs h = Contains-there x xs f h

same_type : (o : Option OperandKind) (t u : TypeId) → o ≡ Some (Typed t) → o ≡ Some (Typed u) → t ≡ u
same_type o t u e d = cc

some_entry : (a b : RawEntry) → Some a ≡ Some b → a ≡ b
some_entry a b e = cc

some_constructor : (a b : Constructor) → Some a ≡ Some b → a ≡ b
some_constructor a b e = cc

-- ---- operands

module _ (spec : Spec) (location : ℕ) (c : Constructor) (readable : IsReadable spec.tokens c) (earlier : List Known) (bytes : List ℕ) (stop : ℕ) (entries : List RawEntry) where
  abbrev pub around : Context
  around = record { tokens = spec.tokens; operands = c.operands; known = earlier }

  -- each choice means one instance
  abbrev pub ChoicesMean : Type 0
  ChoicesMean = (j : ℕ) (entry : RawEntry) (h : IsChoiceFor around bytes stop j entry) → (i : Instance) × IsOnlyMeant spec location (record { 0 = h.number }) h.found.binds i

  -- the constructors before it are of the description
  abbrev pub AreKnown : Type 0
  AreKnown = (j : ℕ) (x : Known) → slice_get earlier j ≡ Some x → slice_get spec.constructors j ≡ Some x.constructor

  module _ (reads : Reads around bytes stop (bare_fields c.body) (operands_in c.body) entries) (choices : ChoicesMean) (known : AreKnown) (u : ℕ → ℤ)
      (solution : AreOnlyNumbers spec.tokens c (labels_at location entries) (fields_in entries) u) where
    -- the operands from number j on
    record OnlyOperands (j : ℕ) (kinds : List OperandKind) (os : List Operand) : Type 0 where
      mean : OperandsMean spec location c entries j kinds os
      only : (others : List Operand) → OperandsMean spec location c entries j kinds others → HaveNumbers u j kinds others → others ≡ os
      admitted : are_of_kinds spec kinds os ≡ true
      placeless : All HasNoPlace os
      numbers : HaveNumbers u j kinds os

    one_each : AllPairs (λ f g. f ≢ g) (filter_map read_field entries)
    one_each = subst (AllPairs (λ f g. f ≢ g)) (sym reads.values) readable.linear.once

    read_at : (j : ℕ) (kind : OperandKind) (f : FieldId) → slice_get c.operands j ≡ Some kind → kind_field kind ≡ Some f.0 → IsRead entries f
    read_at j kind f s e =
        read_of entries f
        (subst (λ fs. is_among fs f.0 ≡ true) (sym reads.values)
        (All-contains (λ f. is_among (bare_fields c.body) f ≡ true) (filter_map kind_field c.operands) f.0 readable.linear.bare (field_there c.operands j kind f.0 s e)))

    -- one operand in front of others
    module _ (j : ℕ) (kinds : List OperandKind) (os : List Operand) (rest : OnlyOperands (j + 1) kinds os) where
      with_plain : (f : FieldId) → slice_get c.operands j ≡ Some (Plain f) → (os : List Operand) × OnlyOperands j (Plain f ∷ kinds) os
      with_plain f s =
          let r = read_at j (Plain f) f s refl in (
            Num (pos r.value) ∷ os,
            record {
              mean = plain r.value r.offset r.there rest.mean;
              only = λ others h n. (
                  let v = invert_plain spec location c entries j f kinds others h in
                  let numbers = subst (HaveNumbers u j (Plain f ∷ kinds)) v.5 n in
                  let same = one_value entries f v.0 r.value v.1 r.offset one_each v.3 r.there in
                  v.5 ∙ ap (λ os. Num (pos v.0) ∷ os) (rest.only v.2 v.4 numbers.1) ∙ ap (λ n. Num (pos n) ∷ os) same);
              admitted = rest.admitted;
              placeless = All-cons HasNoPlace (Num (pos r.value)) os tt rest.placeless;
              numbers = (λ n. absurd n, rest.numbers);
            },
          )

      with_extended : (f : FieldId) → slice_get c.operands j ≡ Some (Extended f) → (os : List Operand) × OnlyOperands j (Extended f ∷ kinds) os
      with_extended f s =
          let r = read_at j (Extended f) f s refl in
          let wide = λ (n : ℕ). sign_extended (half_of spec.tokens f.0) (pos n) in (
            Num (wide r.value) ∷ os,
            record {
              mean = extended r.value r.offset r.there rest.mean;
              only = λ others h n. (
                  let v = invert_extended spec location c entries j f kinds others h in
                  let numbers = subst (HaveNumbers u j (Extended f ∷ kinds)) v.5 n in
                  let same = one_value entries f v.0 r.value v.1 r.offset one_each v.3 r.there in
                  v.5 ∙ ap (λ os. Num (wide v.0) ∷ os) (rest.only v.2 v.4 numbers.1) ∙ ap (λ n. Num (wide n) ∷ os) same);
              admitted = rest.admitted;
              placeless = All-cons HasNoPlace (Num (wide r.value)) os tt rest.placeless;
              numbers = (λ n. absurd n, rest.numbers);
            },
          )

      with_whole : slice_get c.operands j ≡ Some Whole → (os : List Operand) × OnlyOperands j (Whole ∷ kinds) os
      with_whole s = (
        Num (u j) ∷ os,
        record {
          mean = whole (solution.range j Whole s tt) rest.mean;
          only = λ others h n. (
              let v = invert_whole spec location c entries j kinds others h in
              let numbers = subst (HaveNumbers u j (Whole ∷ kinds)) v.4 n in
              v.4 ∙ ap (λ os. Num v.0 ∷ os) (rest.only v.1 v.3 numbers.1) ∙ ap (λ n. Num n ∷ os) (numbers.0 tt));
          admitted = rest.admitted;
          placeless = All-cons HasNoPlace (Num (u j)) os tt rest.placeless;
          numbers = (λ n. refl, rest.numbers);
        },
      )

      with_sliced : slice_get c.operands j ≡ Some Sliced → (os : List Operand) × OnlyOperands j (Sliced ∷ kinds) os
      with_sliced s = (
        Num (u j) ∷ os,
        record {
          mean = sliced (solution.range j Sliced s tt) rest.mean;
          only = λ others h n. (
              let v = invert_sliced spec location c entries j kinds others h in
              let numbers = subst (HaveNumbers u j (Sliced ∷ kinds)) v.4 n in
              v.4 ∙ ap (λ os. Num v.0 ∷ os) (rest.only v.1 v.3 numbers.1) ∙ ap (λ n. Num n ∷ os) (numbers.0 tt));
          admitted = rest.admitted;
          placeless = All-cons HasNoPlace (Num (u j)) os tt rest.placeless;
          numbers = (λ n. refl, rest.numbers);
        },
      )

      -- an instance, for its choice
      module _ (t : TypeId) (s : slice_get c.operands j ≡ Some (Typed t)) (entry : RawEntry) (chosen : choice_of c entries j ≡ Some entry) (h : IsChoiceFor around bytes stop j entry)
          (i : Instance) (meant : IsOnlyMeant spec location (record { 0 = h.number }) h.found.binds i) where
        choice_is : choice_of c entries j ≡ Some (Choice i.constructor (record { entries = h.found.binds }) [])
        choice_is = chosen ∙ ap Some (h.is ∙ ap (λ k. Choice k (record { entries = h.found.binds }) []) (sym meant.meant.of))

        only_sub : (other : Instance) (inner : List RawEntry) → choice_of c entries j ≡ Some (Choice other.constructor (record { entries = inner }) []) → Means spec location inner other → other ≡ i
        only_sub other inner e m =
            let same = choice_same other.constructor i.constructor inner h.found.binds (some_entry _ _ (sym e ∙ choice_is)) in
            meant.only other (record { of = same.0 ∙ meant.meant.of; meaning = subst (λ es. Means spec location es other) same.1 m })

        of_type : option_map_or (is_of (Some t)) (slice_get spec.constructors i.constructor.0) false ≡ true
        of_type =
            let there = known h.number h.known h.is_known in
            ap (λ (k : ConstructorId). option_map_or (is_of (Some t)) (slice_get spec.constructors k.0) false) meant.meant.of ∙ ap (λ o. option_map_or (is_of (Some t)) o false) there
            ∙ ap (λ t. makes t h.known.constructor.result) (same_type (slice_get c.operands j) t h.of_type s h.kind) ∙ h.makes_type

        admitted_sub : is_of_kind spec (Typed t) (Sub i) ≡ true
        admitted_sub = is_of_kind-Sub spec (Typed t) i ∙ both _ _ of_type meant.admitted

        sub_operands : OnlyOperands j (Typed t ∷ kinds) (Sub i ∷ os)
        sub_operands = record {
          mean = typed i h.found.binds choice_is meant.meant.meaning rest.mean;
          only = λ others m n. (
              let v = invert_typed spec location c entries j t kinds others m in
              let numbers = subst (HaveNumbers u j (Typed t ∷ kinds)) v.6 n in
              v.6 ∙ ap (λ os. Sub v.0 ∷ os) (rest.only v.2 v.5 numbers.1) ∙ ap (λ i. Sub i ∷ os) (only_sub v.0 v.1 v.3 v.4));
          admitted = both _ _ admitted_sub rest.admitted;
          placeless = All-cons HasNoPlace (Sub i) os (HasNoPlace-Sub i meant.placeless) rest.placeless;
          numbers = (λ n. absurd n, rest.numbers);
        }

      with_typed : (t : TypeId) → slice_get c.operands j ≡ Some (Typed t) → (os : List Operand) × OnlyOperands j (Typed t ∷ kinds) os
      with_typed t s =
          let found = choice_at around bytes stop c entries j reads.choices (readable.typed j t s) in
          let inner = choices j found.0 found.2 in
          (Sub inner.0 ∷ os, sub_operands t s found.0 found.1 found.2 inner.0 inner.1)

      with_operand : (kind : OperandKind) → slice_get c.operands j ≡ Some kind → (os : List Operand) × OnlyOperands j (kind ∷ kinds) os
      with_operand (Plain f) s = with_plain f s
      with_operand (Extended f) s = with_extended f s
      with_operand (Typed t) s = with_typed t s
      with_operand Whole s = with_whole s
      with_operand Sliced s = with_sliced s

    operands_from : (j : ℕ) (kinds : List OperandKind) → ((m : ℕ) (kind : OperandKind) → slice_get kinds m ≡ Some kind → slice_get c.operands (j + m) ≡ Some kind) → (os : List Operand) × OnlyOperands j kinds os
    operands_from j [] at = ([], record { mean = no_more; only = λ others h n. invert_none spec location c entries j others h; admitted = refl; placeless = All-nil HasNoPlace; numbers = tt })
    operands_from j (kind ∷ kinds) at =
        let rest = operands_from (j + 1) kinds (λ m k e. let same : j + suc m ≡ j + 1 + m = omega arith in sym (ap (slice_get c.operands) same) ∙ at (suc m) k e) in
        let here : j + 0 ≡ j = omega arith in
        with_operand j kinds rest.0 rest.1 kind (sym (ap (slice_get c.operands) here) ∙ at 0 kind refl)

    all_operands : (os : List Operand) × OnlyOperands 0 c.operands os
    all_operands = operands_from 0 c.operands (λ m kind e. let same : 0 + m ≡ m = omega arith in ap (slice_get c.operands) same ∙ e)

    -- ---- the instance

    module _ (k : ConstructorId) (is_c : slice_get spec.constructors k.0 ≡ Some c) (os : List Operand) (all : OnlyOperands 0 c.operands os) where
      abbrev made : Instance
      made = record { constructor = k; operands = os }

      alike : AreAlike c (numbers_of os) u
      alike m kind e n = let same : 0 + m ≡ m = omega arith in number_at u 0 c.operands os all.numbers m kind e n ∙ ap u same

      is_made : IsMeant spec location k entries made
      is_made = record { of = refl; meaning = means c is_c all.mean (solution.holds (numbers_of os) alike) }

      only_operands : (others : List Operand) → OperandsMean spec location c entries 0 c.operands others
          → EachSatisfied (record { halves = half_of spec.tokens; operands = numbers_of others; labels = labels_at location entries }) (fields_in entries) c.equations → others ≡ os
      only_operands others h es =
          let same = solution.only (numbers_of others) (ranges spec location c entries 0 c.operands others h) es in
          all.only others h (have_numbers u spec location c entries 0 c.operands others h (λ m kind e n. let z : m ≡ 0 + m = omega arith in same m kind e n ∙ ap u z))

      only_made : (other : Instance) → other.constructor ≡ k → Means spec location entries other → other ≡ made
      only_made other e (means d s h es) =
          let same : d ≡ c = some_constructor d c (sym s ∙ ap (λ (k : ConstructorId). slice_get spec.constructors k.0) e ∙ is_c) in
          let operands = only_operands other.operands (subst (λ (d : Constructor). OperandsMean spec location d entries 0 d.operands other.operands) same h)
          (subst (λ (d : Constructor). EachSatisfied (record { halves = half_of spec.tokens; operands = numbers_of other.operands; labels = labels_at location entries }) (fields_in entries) d.equations) same es) in
          ap (λ k. let i : Instance = record { constructor = k; operands = other.operands } in i) e ∙ ap (λ os. let i : Instance = record { constructor = k; operands = os } in i) operands

      is_admitted : admits spec made ≡ true
      is_admitted = ap (λ o. option_map_or (λ kinds. are_of_kinds spec kinds os) (option_map (λ (c : Constructor). c.operands) o) false) is_c ∙ all.admitted

      is_only_meant : IsOnlyMeant spec location k entries made
      is_only_meant = record { meant = is_made; only = λ other m. only_made other m.of m.meaning; admitted = is_admitted; placeless = all.placeless }

    pub one_meant : (k : ConstructorId) → slice_get spec.constructors k.0 ≡ Some c → (i : Instance) × IsOnlyMeant spec location k entries i
    one_meant k is_c = (made k is_c all_operands.0 all_operands.1, is_only_meant k is_c all_operands.0 all_operands.1)
