-- Operands that were read one after the other are those that the entries mean.
use Rattle.std.proofs.Common.{ℕ, zero, suc, ◌+◌, ◌≡◌, ◌≢◌, ◌<◌, ◌≤◌, ◌⊎◌, inl, inr, true, List, [], ◌∷◌, ◌++◌, length, take, get_or, AllPairs, slice_get, Some, ℤ, pos, refl, sym, ap, ◌∙◌, subst, arith}
use Rattle.std.specs.List.{filter_map}
use Rattle.std.specs.Option.{option_map_or}
use Rattle.std.proofs.lemmas.Bool.{cases_lt}
use Rattle.std.proofs.lemmas.Int.{ints}
use Rattle.std.proofs.lemmas.List.{get_or_past, length-take, take_more}
use Rattle.std.proofs.lemmas.List.Elements.{All-contains}
use Rattle.std.proofs.lemmas.Option.{slice_get_past}
use Rattle.token_bits.specs.declared.tokens.FieldId.{FieldId}
use Rattle.sled_model.specs.declared.constructor.ConstructorId.{ConstructorId}
use Rattle.sled_model.specs.declared.constructor.OperandKind.{OperandKind}
use Rattle.sled_model.specs.declared.constructor.OperandKind.TheVariants.{Plain, Extended, Typed, Whole, Sliced}
use Rattle.sled_model.specs.declared.constructor.Constructor.{Constructor}
use Rattle.sled_model.specs.declared.instance.Operand.{Operand}
use Rattle.sled_model.specs.declared.instance.Operand.TheVariants.{Num}
use Rattle.sled_model.specs.declared.raw.RawEntry.{RawEntry}
use Rattle.sled_model.specs.declared.spec.Spec.{Spec}
use Rattle.sled_model.specs.Equations.{half_of, sign_extended}
use Rattle.sled_model.specs.Instances.{Means, means, OperandsMean, no_more, plain, extended, typed, whole, sliced, operand_number, numbers_of, fields_in, labels_at, IsWholeNumber, IsSlicedNumber}
use Rattle.sled_model.specs.Linear.{kind_field}
use Rattle.sled_model.specs.SolvingOrder.{bare_fields, is_among}
use Rattle.eq_solver.specs.Inputs.{IsInKind}
use Rattle.eq_solver.specs.Sums.{at}
use Rattle.match_meaning.specs.Readable.{IsReadable}
use Rattle.instance_reading.specs.Operands.{AreNumbersOf, IsOperandAt, AreOperandsFrom}
use Rattle.instance_reading.proofs.BodyReads.{read_field}
use Rattle.instance_reading.proofs.Entries.{IsRead, read_of}
use Rattle.instance_reading.proofs.Meant.{field_there}
use Rattle.instance_reading.proofs.Settings.{satisfied_same}
use Rattle.instance_reading.proofs.Valued.{value_is}

module _ (spec : Spec) (location : ℕ) (c : Constructor) (entries : List RawEntry) (numbers : List ℤ) where
  abbrev From : ℕ → List OperandKind → List Operand → Type 0
  From j kinds os = AreOperandsFrom spec location c entries numbers j kinds os

  abbrev At : ℕ → OperandKind → Operand → Type 0
  At j kind o = IsOperandAt spec location c entries j kind (at numbers j) o

  -- one operand more
  pub one_more : (j : ℕ) (kinds : List OperandKind) (os : List Operand) (kind : OperandKind) (o : Operand) (n : ℕ) → From j kinds os → n ≡ j + length kinds → At n kind o → From j (kinds ++ kind ∷ []) (os ++ o ∷ [])
  one_more j [] [] kind o n h e d = let here : n ≡ j = omega (arith, e) in (subst (λ n. At n kind o) here d, tt)
  one_more j [] (p ∷ os) kind o n h e d = absurd h
  one_more j (k ∷ kinds) [] kind o n h e d = absurd h
  one_more j (k ∷ kinds) (p ∷ os) kind o n h e d = (h.0, one_more (j + 1) kinds os kind o n h.1 (omega (arith, e)) d)

  pub as_many : (j : ℕ) (kinds : List OperandKind) (os : List Operand) → From j kinds os → length os ≡ length kinds
  as_many j [] [] h = refl
  as_many j [] (o ∷ os) h = absurd h
  as_many j (k ∷ kinds) [] h = absurd h
  as_many j (k ∷ kinds) (o ∷ os) h = let n = as_many (j + 1) kinds os h.1 in omega (arith, n)

  -- so a program reads one more
  pub operand_more : (i : ℕ) (kinds : List OperandKind) (kind : OperandKind) (os more : List Operand) (o : Operand) (n : ℤ) → kinds ≡ c.operands → i < length kinds → From 0 (take i c.operands) os
      → IsOperandAt spec location c entries i (get_or kinds i kind) n o → n ≡ at numbers i → more ≡ os ++ o ∷ [] → From 0 (take (i + 1) c.operands) more
  operand_more i kinds kind os more o n e l h is same d =
      let within : i < length c.operands = subst (λ ks. i < length ks) e l in
      let here : At i (get_or c.operands i kind) o =
      subst (λ ks. At i (get_or ks i kind) o) e (subst (λ n. IsOperandAt spec location c entries i (get_or kinds i kind) n o) same is) in
      let many = length-take i c.operands in
      let count : i ≡ 0 + length (take i c.operands) = omega (arith, many, within) in
      subst (From 0 (take (i + 1) c.operands)) (sym d)
      (subst (λ ks. From 0 ks (os ++ o ∷ [])) (sym (take_more c.operands i kind within)) (one_more 0 (take i c.operands) os (get_or c.operands i kind) o i h count here))

  module _ (readable : IsReadable spec.tokens c) (apart : AllPairs (λ f g. f ≢ g) (filter_map read_field entries)) (fields : filter_map read_field entries ≡ bare_fields c.body)
      (given : AreNumbersOf spec.tokens c location entries numbers) where
    -- ---- their numbers

    number_of : (j : ℕ) (kind : OperandKind) (o : Operand) → slice_get c.operands j ≡ Some kind → At j kind o → operand_number o ≡ at numbers j
    number_of j (Plain f) o s h = ap operand_number h
    number_of j (Extended f) o s h = ap operand_number h
    number_of j (Typed t) o s h = ap operand_number h.4 ∙ sym (given.range j (Typed t) s)
    number_of j Whole o s h = ap operand_number h
    number_of j Sliced o s h = ap operand_number h

    number_from : (j : ℕ) (kinds : List OperandKind) (os : List Operand) → ((m : ℕ) (kind : OperandKind) → slice_get kinds m ≡ Some kind → slice_get c.operands (j + m) ≡ Some kind) → From j kinds os
        → (m : ℕ) → m < length kinds → numbers_of os m ≡ at numbers (j + m)
    number_from j [] os there h m l = absurd (omega (arith, l))
    number_from j (k ∷ kinds) [] there h m l = absurd h
    number_from j (k ∷ kinds) (o ∷ os) there h zero l =
        let here : j + 0 ≡ j = omega arith in number_of j k o (ap (slice_get c.operands) (sym here) ∙ there 0 k refl) h.0 ∙ ap (at numbers) (sym here)
    number_from j (k ∷ kinds) (o ∷ os) there h (suc m) l =
        let same : j + 1 + m ≡ j + suc m = omega arith in
        number_from (j + 1) kinds os (λ m kind e. let same : j + suc m ≡ j + 1 + m = omega arith in sym (ap (slice_get c.operands) same) ∙ there (suc m) kind e) h.1 m (omega (arith, l)) ∙ ap (at numbers) same

    there_from : (m : ℕ) (kind : OperandKind) → slice_get c.operands m ≡ Some kind → slice_get c.operands (0 + m) ≡ Some kind
    there_from m kind e = let same : 0 + m ≡ m = omega arith in ap (slice_get c.operands) same ∙ e

    numbers_same : (os : List Operand) → From 0 c.operands os → (k : ℕ) → at numbers k ≡ numbers_of os k
    numbers_same os h k = by_place (cases_lt k (length c.operands))
      where
        by_place : (k < length c.operands) ⊎ (length c.operands ≤ k) → at numbers k ≡ numbers_of os k
        by_place (inl l) = let same : 0 + k ≡ k = omega arith in sym (number_from 0 c.operands os there_from h k l ∙ ap (at numbers) same)
        by_place (inr l) =
            let many = as_many 0 c.operands os h in let count = given.one_each in
            get_or_past numbers k (pos 0) (omega (arith, count, l)) ∙ sym (ap (λ o. option_map_or operand_number o (pos 0)) (slice_get_past os k (omega (arith, many, l))))

    -- ---- what they mean

    read_at : (j : ℕ) (kind : OperandKind) (f : FieldId) → slice_get c.operands j ≡ Some kind → kind_field kind ≡ Some f.0 → IsRead entries f
    read_at j kind f s e =
        read_of entries f
        (subst (λ fs. is_among fs f.0 ≡ true) (sym fields)
        (All-contains (λ f. is_among (bare_fields c.body) f ≡ true) (filter_map kind_field c.operands) f.0 readable.linear.bare (field_there c.operands j kind f.0 s e)))

    abbrev Mean : ℕ → List OperandKind → List Operand → Type 0
    Mean j kinds os = OperandsMean spec location c entries j kinds os

    whole_number : (x : ℤ) → IsInKind spec.tokens Whole x → IsWholeNumber x
    whole_number x h = let low = h.0 in let high = h.1 in record { at_least = low; below = omega (arith, ints, high) }

    sliced_number : (x : ℤ) → IsInKind spec.tokens Sliced x → IsSlicedNumber x
    sliced_number x h = let low = h.0 in let high = h.1 in record { at_least = low; below = omega (arith, ints, high) }

    with_operand : (j : ℕ) (kind : OperandKind) (kinds : List OperandKind) (o : Operand) (os : List Operand) → slice_get c.operands j ≡ Some kind → At j kind o → Mean (j + 1) kinds os → Mean j (kind ∷ kinds) (o ∷ os)
    with_operand j (Plain f) kinds o os s h rest =
        let r = read_at j (Plain f) f s refl in
        let same : Num (pos r.value) ≡ o = ap Num (sym (value_is entries f r.value r.offset apart r.there) ∙ given.plain j f s) ∙ sym h in
        subst (λ o. Mean j (Plain f ∷ kinds) (o ∷ os)) same (plain r.value r.offset r.there rest)
    with_operand j (Extended f) kinds o os s h rest =
        let r = read_at j (Extended f) f s refl in
        let half = half_of spec.tokens f.0 in
        let same : Num (sign_extended half (pos r.value)) ≡ o = ap Num (ap (sign_extended half) (sym (value_is entries f r.value r.offset apart r.there)) ∙ given.extended j f s) ∙ sym h in
        subst (λ o. Mean j (Extended f ∷ kinds) (o ∷ os)) same (extended r.value r.offset r.there rest)
    with_operand j (Typed t) kinds o os s h rest = subst (λ o. Mean j (Typed t ∷ kinds) (o ∷ os)) (sym h.4) (typed h.0 h.1 h.2 h.3 rest)
    with_operand j Whole kinds o os s h rest = subst (λ o. Mean j (Whole ∷ kinds) (o ∷ os)) (sym h) (whole (whole_number (at numbers j) (given.range j Whole s)) rest)
    with_operand j Sliced kinds o os s h rest = subst (λ o. Mean j (Sliced ∷ kinds) (o ∷ os)) (sym h) (sliced (sliced_number (at numbers j) (given.range j Sliced s)) rest)

    mean_from : (j : ℕ) (kinds : List OperandKind) (os : List Operand) → ((m : ℕ) (kind : OperandKind) → slice_get kinds m ≡ Some kind → slice_get c.operands (j + m) ≡ Some kind) → From j kinds os → Mean j kinds os
    mean_from j [] [] there h = no_more
    mean_from j [] (o ∷ os) there h = absurd h
    mean_from j (k ∷ kinds) [] there h = absurd h
    mean_from j (k ∷ kinds) (o ∷ os) there h =
        let here : j + 0 ≡ j = omega arith in
        with_operand j k kinds o os (ap (slice_get c.operands) (sym here) ∙ there 0 k refl) h.0
        (mean_from (j + 1) kinds os (λ m kind e. let same : j + suc m ≡ j + 1 + m = omega arith in sym (ap (slice_get c.operands) same) ∙ there (suc m) kind e) h.1)

    pub they_mean : (k : ConstructorId) (os : List Operand) → slice_get spec.constructors k.0 ≡ Some c → From 0 c.operands os → Means spec location entries (record { constructor = k; operands = os })
    they_mean k os s h =
        means c s (mean_from 0 c.operands os there_from h)
        (satisfied_same spec.tokens c (at numbers) (numbers_of os) (labels_at location entries) (labels_at location entries) (fields_in entries) (numbers_same os h) (λ l m. refl) c.equations readable.linear.equations given.satisfied)
