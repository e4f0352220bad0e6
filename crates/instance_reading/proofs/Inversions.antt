-- What it takes that the entries mean operands, kind by kind.
use Rattle.std.proofs.Common.{ℕ, zero, suc, ◌+◌, ◌≡◌, List, [], ◌∷◌, Contains, slice_get, Some, ℤ, pos, refl, sym, ap, ◌∙◌, subst, arith}
use Rattle.token_bits.specs.declared.tokens.FieldId.{FieldId}
use Rattle.sled_model.specs.declared.constructor.TypeId.{TypeId}
use Rattle.sled_model.specs.declared.constructor.OperandKind.{OperandKind}
use Rattle.sled_model.specs.declared.constructor.OperandKind.TheVariants.{Plain, Extended, Typed, Whole, Sliced}
use Rattle.sled_model.specs.declared.constructor.Constructor.{Constructor}
use Rattle.sled_model.specs.declared.instance.Instance.{Instance}
use Rattle.sled_model.specs.declared.instance.Operand.{Operand}
use Rattle.sled_model.specs.declared.instance.Operand.TheVariants.{Num, Sub}
use Rattle.sled_model.specs.declared.raw.RawEntry.{RawEntry}
use Rattle.sled_model.specs.declared.raw.RawEntry.TheVariants.{Value, Choice}
use Rattle.sled_model.specs.declared.spec.Spec.{Spec}
use Rattle.sled_model.specs.Equations.{half_of, sign_extended}
use Rattle.sled_model.specs.Instances.{Means, OperandsMean, no_more, plain, extended, typed, whole, sliced, numbers_of, operand_number, IsWholeNumber, IsSlicedNumber}
use Rattle.sled_model.specs.Results.{choice_of}
use Rattle.instance_reading.proofs.Numbers.{IsNumbered, IsInRange}

module _ (spec : Spec) (location : ℕ) (c : Constructor) (entries : List RawEntry) where
  pub invert_none : (j : ℕ) (os : List Operand) → OperandsMean spec location c entries j [] os → os ≡ []
  invert_none j os no_more = refl

  pub invert_plain : (j : ℕ) (f : FieldId) (kinds : List OperandKind) (os : List Operand) → OperandsMean spec location c entries j (Plain f ∷ kinds) os
      → (value at : ℕ) × (rest : List Operand) × Contains entries (Value f value at) × OperandsMean spec location c entries (j + 1) kinds rest × (os ≡ Num (pos value) ∷ rest)
  invert_plain j f kinds os (plain {operands = rest} value at m h) = (value, at, rest, m, h, refl)

  pub invert_extended : (j : ℕ) (f : FieldId) (kinds : List OperandKind) (os : List Operand) → OperandsMean spec location c entries j (Extended f ∷ kinds) os
      → (value at : ℕ) × (rest : List Operand) × Contains entries (Value f value at) × OperandsMean spec location c entries (j + 1) kinds rest
      × (os ≡ Num (sign_extended (half_of spec.tokens f.0) (pos value)) ∷ rest)
  invert_extended j f kinds os (extended {operands = rest} value at m h) = (value, at, rest, m, h, refl)

  pub invert_typed : (j : ℕ) (t : TypeId) (kinds : List OperandKind) (os : List Operand) → OperandsMean spec location c entries j (Typed t ∷ kinds) os
      → (i : Instance) × (inner : List RawEntry) × (rest : List Operand) × (choice_of c entries j ≡ Some (Choice i.constructor (record { entries = inner }) [])) × Means spec location inner i
      × OperandsMean spec location c entries (j + 1) kinds rest × (os ≡ Sub i ∷ rest)
  invert_typed j t kinds os (typed {operands = rest} i inner e m h) = (i, inner, rest, e, m, h, refl)

  pub invert_whole : (j : ℕ) (kinds : List OperandKind) (os : List Operand) → OperandsMean spec location c entries j (Whole ∷ kinds) os
      → (n : ℤ) × (rest : List Operand) × IsWholeNumber n × OperandsMean spec location c entries (j + 1) kinds rest × (os ≡ Num n ∷ rest)
  invert_whole j kinds os (whole {n = n} {operands = rest} r h) = (n, rest, r, h, refl)

  pub invert_sliced : (j : ℕ) (kinds : List OperandKind) (os : List Operand) → OperandsMean spec location c entries j (Sliced ∷ kinds) os
      → (n : ℤ) × (rest : List Operand) × IsSlicedNumber n × OperandsMean spec location c entries (j + 1) kinds rest × (os ≡ Num n ∷ rest)
  invert_sliced j kinds os (sliced {n = n} {operands = rest} r h) = (n, rest, r, h, refl)

  -- an operand, and those behind it
  pub split_operands : (j : ℕ) (kind : OperandKind) (kinds : List OperandKind) (os : List Operand) → OperandsMean spec location c entries j (kind ∷ kinds) os
      → (o : Operand) × (rest : List Operand) × OperandsMean spec location c entries (j + 1) kinds rest × (os ≡ o ∷ rest) × (IsNumbered kind → IsInRange kind (operand_number o))
  split_operands j (Plain f) kinds os h = let r = invert_plain j f kinds os h in (Num (pos r.0), r.2, r.4, r.5, λ n. absurd n)
  split_operands j (Extended f) kinds os h = let r = invert_extended j f kinds os h in (Num (sign_extended (half_of spec.tokens f.0) (pos r.0)), r.2, r.4, r.5, λ n. absurd n)
  split_operands j (Typed t) kinds os h = let r = invert_typed j t kinds os h in (Sub r.0, r.2, r.5, r.6, λ n. absurd n)
  split_operands j Whole kinds os h = let r = invert_whole j kinds os h in (Num r.0, r.1, r.3, r.4, λ n. r.2)
  split_operands j Sliced kinds os h = let r = invert_sliced j kinds os h in (Num r.0, r.1, r.3, r.4, λ n. r.2)

  same_kind : (a b : OperandKind) → Some a ≡ Some b → a ≡ b
  same_kind a b e = cc

  -- the numbers are in range
  pub ranges : (j : ℕ) (kinds : List OperandKind) (os : List Operand) → OperandsMean spec location c entries j kinds os
      → (m : ℕ) (kind : OperandKind) → slice_get kinds m ≡ Some kind → IsNumbered kind → IsInRange kind (numbers_of os m)
  ranges j [] os h m kind e n = cc
  ranges j (k ∷ kinds) os h zero kind e n =
      let s = split_operands j k kinds os h in
      let same = same_kind k kind e in
      subst (λ os. IsInRange kind (numbers_of os 0)) (sym s.3) (subst (λ k. IsInRange k (operand_number s.0)) same (s.4 (subst IsNumbered (sym same) n)))
  ranges j (k ∷ kinds) os h (suc m) kind e n =
      let s = split_operands j k kinds os h in
      subst (λ os. IsInRange kind (numbers_of os (suc m))) (sym s.3) (ranges (j + 1) kinds s.1 s.2 m kind e n)

-- operands of these kinds, from number j on, have these numbers, where the equations give them
abbrev pub HaveNumbers : (ℕ → ℤ) → ℕ → List OperandKind → List Operand → Type 0
HaveNumbers u j [] os = Unit {0}
HaveNumbers u j (kind ∷ kinds) [] = ⊥
HaveNumbers u j (kind ∷ kinds) (o ∷ os) = (IsNumbered kind → operand_number o ≡ u j) × HaveNumbers u (j + 1) kinds os

module _ (u : ℕ → ℤ) where
  some_kind : (a b : OperandKind) → Some a ≡ Some b → a ≡ b
  some_kind a b e = cc

  pub number_at : (j : ℕ) (kinds : List OperandKind) (os : List Operand) → HaveNumbers u j kinds os → (m : ℕ) (kind : OperandKind) → slice_get kinds m ≡ Some kind → IsNumbered kind → numbers_of os m ≡ u (j + m)
  number_at j [] os h m kind e n = cc
  number_at j (k ∷ kinds) [] h m kind e n = absurd h
  number_at j (k ∷ kinds) (o ∷ os) h zero kind e n = let same : j ≡ j + 0 = omega arith in h.0 (subst IsNumbered (sym (some_kind k kind e)) n) ∙ ap u same
  number_at j (k ∷ kinds) (o ∷ os) h (suc m) kind e n = let same : j + 1 + m ≡ j + suc m = omega arith in number_at (j + 1) kinds os h.1 m kind e n ∙ ap u same

  module _ (spec : Spec) (location : ℕ) (c : Constructor) (entries : List RawEntry) where
    pub have_numbers : (j : ℕ) (kinds : List OperandKind) (os : List Operand) → OperandsMean spec location c entries j kinds os
        → ((m : ℕ) (kind : OperandKind) → slice_get kinds m ≡ Some kind → IsNumbered kind → numbers_of os m ≡ u (j + m)) → HaveNumbers u j kinds os
    have_numbers j [] os h at = tt
    have_numbers j (k ∷ kinds) os h at =
        let s = split_operands spec location c entries j k kinds os h in
        let here : j + 0 ≡ j = omega arith in
        subst (HaveNumbers u j (k ∷ kinds)) (sym s.3) (
          (λ n. sym (ap (λ os. numbers_of os 0) s.3) ∙ at 0 k refl n ∙ ap u here),
          have_numbers (j + 1) kinds s.1 s.2 (λ m kind e n. let same : j + suc m ≡ j + 1 + m = omega arith in sym (ap (λ os. numbers_of os (suc m)) s.3) ∙ at (suc m) kind e n ∙ ap u same),
        )
