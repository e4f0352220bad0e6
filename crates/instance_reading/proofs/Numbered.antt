-- The numbers that the plan of a constructor gives to its operands.
use Rattle.std.proofs.Common.{ℕ, zero, suc, ◌+◌, ◌^◌, ◌≡◌, ◌≢◌, ◌<◌, List, [], ◌∷◌, length, map, AllPairs, slice_get, Some, ℤ, refl, sym, ap, ◌∙◌, subst, arith}
use Rattle.std.specs.List.{filter_map}
use Rattle.token_bits.specs.declared.tokens.FieldId.{FieldId}
use Rattle.token_bits.specs.declared.tokens.Tokens.{Tokens}
use Rattle.sled_model.specs.declared.constructor.ConstructorId.{ConstructorId}
use Rattle.sled_model.specs.declared.constructor.OperandKind.{OperandKind}
use Rattle.sled_model.specs.declared.constructor.OperandKind.TheVariants.{Plain, Extended, Typed, Whole, Sliced}
use Rattle.sled_model.specs.declared.constructor.Constructor.{Constructor}
use Rattle.sled_model.specs.declared.raw.RawEntry.{RawEntry}
use Rattle.sled_model.specs.declared.spec.Spec.{Spec}
use Rattle.sled_model.specs.Equations.{Setting, half_of, sign_extended, AreFieldValues}
use Rattle.sled_model.specs.Instances.{fields_in, labels_at}
use Rattle.sled_model.specs.Linear.{labels_in, IsLinear}
use Rattle.sled_model.specs.Solved.{AreLabelValues}
use Rattle.sled_model.specs.Solutions.{OperandsFit, setting_of}
use Rattle.sled_model.specs.SolvingOrder.{bare_fields}
use Rattle.eq_solver.specs.Cells.{IsPlanOf}
use Rattle.eq_solver.specs.Operands.{IsPlanWith, AreCellValues, AreOnlyOperands}
use Rattle.eq_solver.specs.Sums.{at}
use Rattle.match_meaning.specs.Readable.{IsReadable, IsReadableSpec}
use Rattle.instance_reading.specs.Entries.{values_read, AreAddresses}
use Rattle.instance_reading.specs.Operands.{AreNumbersOf}
use Rattle.instance_reading.specs.Plans.{IsBodyPlan}
use Rattle.instance_reading.specs.Reading.{IsBodyResult}
use Rattle.instance_reading.specs.declared.plans.BodyPlan.{BodyPlan}
use Rattle.instance_reading.proofs.BodyReads.{read_field}
use Rattle.instance_reading.proofs.Bodies.{some_same, can_read, what_is_read, stop}
use Rattle.instance_reading.proofs.Bodies.{is_c as known_is}
use Rattle.instance_reading.proofs.Entries.{fields_range, labels_range}
use Rattle.instance_reading.proofs.Settings.{satisfied_same}
use Rattle.instance_reading.proofs.Valued.{values_same, cell_values, label_values}

-- ---- operands that are fields, one after the other

module _ (setting : Setting) (v : ℕ → ℤ) where
  fit_later : (j : ℕ) (kind : OperandKind) (kinds : List OperandKind) → OperandsFit setting v j (kind ∷ kinds) → OperandsFit setting v (j + 1) kinds
  fit_later j (Plain f) kinds h = h.1
  fit_later j (Extended f) kinds h = h.1
  fit_later j (Typed t) kinds h = h
  fit_later j Whole kinds h = h
  fit_later j Sliced kinds h = h

  pub fit_plain : (j : ℕ) (kinds : List OperandKind) → OperandsFit setting v j kinds → (m : ℕ) (f : FieldId) → slice_get kinds m ≡ Some (Plain f) → v f.0 ≡ setting.operands (j + m)
  fit_plain j [] h m f e = cc
  fit_plain j (kind ∷ kinds) h zero f e =
      let same : kind ≡ Plain f = cc in let here : j ≡ j + 0 = omega arith in
      (subst (λ (kind : OperandKind). OperandsFit setting v j (kind ∷ kinds)) same h).0 ∙ ap setting.operands here
  fit_plain j (kind ∷ kinds) h (suc m) f e =
      let same : j + 1 + m ≡ j + suc m = omega arith in fit_plain (j + 1) kinds (fit_later j kind kinds h) m f e ∙ ap setting.operands same

  pub fit_extended : (j : ℕ) (kinds : List OperandKind) → OperandsFit setting v j kinds → (m : ℕ) (f : FieldId) → slice_get kinds m ≡ Some (Extended f) → sign_extended (setting.halves f.0) (v f.0) ≡ setting.operands (j + m)
  fit_extended j [] h m f e = cc
  fit_extended j (kind ∷ kinds) h zero f e =
      let same : kind ≡ Extended f = cc in let here : j ≡ j + 0 = omega arith in
      (subst (λ (kind : OperandKind). OperandsFit setting v j (kind ∷ kinds)) same h).0 ∙ ap setting.operands here
  fit_extended j (kind ∷ kinds) h (suc m) f e =
      let same : j + 1 + m ≡ j + suc m = omega arith in fit_extended (j + 1) kinds (fit_later j kind kinds h) m f e ∙ ap setting.operands same

-- ---- numbers

pub numbers_of : (tokens : Tokens) (c : Constructor) (location : ℕ) (entries : List RawEntry) (labels numbers : List ℤ) → IsLinear tokens c → length numbers ≡ length c.operands
    → AreFieldValues (half_of tokens) (fields_in entries) → map (fields_in entries) (bare_fields c.body) ≡ values_read entries → AreAddresses location entries (length (labels_in c.body)) labels
    → AreOnlyOperands tokens c (values_read entries) (at labels) (at numbers) → AreNumbersOf tokens c location entries numbers
numbers_of tokens c location entries labels numbers linear count values same places only =
    let v = fields_in entries in
    let fit = only.fit v values same in record {
      one_each = count;
      range = only.range;
      plain = λ j f e. (let here : 0 + j ≡ j = omega arith in fit_plain (setting_of tokens (at numbers) (at labels)) v 0 c.operands fit j f e ∙ ap (at numbers) here);
      extended = λ j f e. (let here : 0 + j ≡ j = omega arith in fit_extended (setting_of tokens (at numbers) (at labels)) v 0 c.operands fit j f e ∙ ap (at numbers) here);
      satisfied = satisfied_same tokens c (at numbers) (at numbers) (at labels) (labels_at location entries) v (λ k. refl) places.each c.equations linear.equations (only.satisfied v same);
    }

-- ---- what a body bound

module _ (spec : Spec) (readable : IsReadableSpec spec) (k : ConstructorId) (entries : List RawEntry) (b : IsBodyResult spec k entries) (c : Constructor) (is_c : slice_get spec.constructors k.0 ≡ Some c) where
  same_c : b.known.constructor ≡ c
  same_c = some_same (slice_get spec.constructors k.0) b.known.constructor c (known_is spec readable k entries b) is_c

  pub able : IsReadable spec.tokens c
  able = subst (IsReadable spec.tokens) same_c (can_read spec readable k entries b)

  pub values_in : AreFieldValues (half_of spec.tokens) (fields_in entries)
  values_in = fields_range spec.tokens (stop spec readable k entries b) entries (what_is_read spec readable k entries b).each

  pub fields_are : filter_map read_field entries ≡ bare_fields c.body
  fields_are = (what_is_read spec readable k entries b).values ∙ ap (λ (c : Constructor). bare_fields c.body) same_c

  pub apart : AllPairs (λ f g. f ≢ g) (filter_map read_field entries)
  apart = subst (AllPairs (λ f g. f ≢ g)) (sym fields_are) able.linear.once

  pub are_values : map (fields_in entries) (bare_fields c.body) ≡ values_read entries
  are_values = subst (λ fs. map (fields_in entries) fs ≡ values_read entries) fields_are (values_same entries apart)

  module _ (location : ℕ) (low : location < 2 ^ 32) where
    pub are_labels : (n : ℕ) (held labels : List ℤ) → held ≡ labels → AreAddresses location entries n labels → AreLabelValues (at held)
    are_labels n held labels e h =
        subst (λ ls. AreLabelValues (at ls)) (sym e)
        (label_values location n entries labels h (labels_range spec.tokens (stop spec readable k entries b) location entries (what_is_read spec readable k entries b).each b.ends low))

  module _ (plan : BodyPlan) (is : IsBodyPlan spec.tokens c plan) where
    pub plan_with : (n : ℕ) (location operands : ℕ) (held labels : List ℤ) → held ≡ labels → AreAddresses location entries n labels → n ≡ length plan.labels → operands ≡ length c.operands → IsPlanWith plan.plan (length held) operands
    plan_with n location operands held labels same h e d = (spec.tokens, c, is.plan, sym (ap length same ∙ h.one_each ∙ e ∙ ap length is.labels), sym d)

    pub are_cells : (held fields : List ℤ) → held ≡ fields → fields ≡ values_read entries → AreCellValues plan.plan.halves held
    are_cells held fields e d = cell_values spec.tokens (bare_fields c.body) (fields_in entries) plan.plan.halves held values_in is.plan.halves_are (are_values ∙ sym (e ∙ d))

    pub are_numbers : (n location operands : ℕ) (held fields names labels numbers : List ℤ) → held ≡ fields → fields ≡ values_read entries → names ≡ labels → AreAddresses location entries n labels → n ≡ length plan.labels
        → length numbers ≡ operands → operands ≡ length c.operands
        → ((tokens : Tokens) (c : Constructor) → IsPlanOf tokens c plan.plan → AreOnlyOperands tokens c held (at names) (at numbers)) → AreNumbersOf spec.tokens c location entries numbers
    are_numbers n location operands held fields names labels numbers e d same places many count all only =
        let here = only spec.tokens c is.plan in
        numbers_of spec.tokens c location entries labels numbers able.linear (count ∙ all) values_in are_values
        (subst (λ n. AreAddresses location entries n labels) (many ∙ ap length is.labels) places)
        (subst (λ ls. AreOnlyOperands spec.tokens c (values_read entries) (at ls) (at numbers)) same
        (subst (λ fields. AreOnlyOperands spec.tokens c fields (at names) (at numbers)) (e ∙ d) here))
