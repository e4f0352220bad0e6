-- Each name has one value.
use Rattle.std.proofs.Common.{◌≡◌, ℕ, suc, ◌+◌, ◌^◌, ◌==◌, ◌<◌, Bool, true, false, cond, List, [], ◌∷◌, length, All, Option, Some, None, IfSome, ℤ, pos, refl, sym, ap, ◌∙◌, subst}
use Rattle.std.proofs.lemmas.List.Elements.{All-nil, All-cons, All-head, All-tail, All-weaker}
use Rattle.sled_model.specs.declared.instance.Instance.{Instance}
use Rattle.sled_model.specs.declared.instance.Operand.{Operand}
use Rattle.sled_model.specs.declared.instance.Operand.TheVariants.{Num}
use Rattle.sled_model.specs.declared.raw.RawEntry.{RawEntry, items-the_row-RawEntry}
use Rattle.sled_model.specs.declared.raw.RawEntry.TheVariants.{Value, Mark, Choice'}
use Rattle.sled_model.specs.declared.spec.Spec.{Spec}
use Rattle.sled_model.specs.First.{is_named}
use Rattle.asm_text.specs.Writable.{HasNoPlace, IsAdmitted}
use Rattle.asm_text.proofs.WritableLaws.{IsAdmitted-Num}
use Rattle.match_meaning.specs.Names.{argument_value, Gives, IsGivenOr, IsNameValue, AreNameValues}
use Rattle.match_meaning.specs.Readable.{IsReadableSpec}
use Rattle.instance_reading.proofs.OneInstance.{one_instance}
use Rattle.name_values.specs.Values.{IsBodyChoice, AreOnlyNameValues}
use Rattle.name_values.specs.Laws.{OneValueEach}
use Rattle.name_values.proofs.Writable.{IsWritable, operands_writable, argument_writable}

module _ (spec : Spec) (readable : IsReadableSpec spec) (location : ℕ) (low : location < 2 ^ 32) where
  number_writable : (n : ℤ) → IsWritable spec (Num n)
  number_writable n = (IsAdmitted-Num spec n, tt)

  number_if : (b : Bool) (n : ℤ) → IfSome (cond b (Some (Num n)) None) (IsWritable spec)
  number_if true n = number_writable n
  number_if false n = tt

  -- ---- one entry

  record OnlyGiven (name : List ℕ) (k : ℕ) (entry : RawEntry) (given : Option Operand) : Type 0 where
    gives : Gives spec location name k entry given
    only : (other : Option Operand) → Gives spec location name k entry other → other ≡ given
    writable : IfSome given (IsWritable spec)

  one_given : (name : List ℕ) (k : ℕ) (entry : RawEntry) → IsBodyChoice spec entry → (given : Option Operand) × OnlyGiven name k entry given
  one_given name k (Value f value at) h = (_, record { gives = refl; only = λ other e. e; writable = number_if (is_named spec f name) (pos value) })
  one_given name k (Mark label at) h = (_, record { gives = refl; only = λ other e. e; writable = number_if (label == k) (pos (location + at)) })
  one_given name k (Choice' c s inner arguments) h =
      let one = one_instance spec location c (items-the_row-RawEntry _ inner) readable low h in
      let i = one.0 in (
        argument_value k arguments i.operands,
        record {
          gives = (i, one.1.meant.of, one.1.meant.meaning, refl);
          only = λ other g. g.3 ∙ ap (λ (j : Instance). argument_value k arguments j.operands) (one.1.only g.0 (record { of = g.1; meaning = g.2 }));
          writable = argument_writable spec k arguments i.operands (operands_writable spec i one.1.admitted one.1.placeless);
        },
      )

  -- ---- one name

  record OnlyValue (name : List ℕ) (k : ℕ) (entries : List RawEntry) (value : Operand) : Type 0 where
    is : IsNameValue spec location name k entries value
    only : (other : Operand) → IsNameValue spec location name k entries other → other ≡ value
    writable : IsWritable spec value

  first_value : (name : List ℕ) (k : ℕ) (entry : RawEntry) (entries : List RawEntry) → (given : Option Operand) → OnlyGiven name k entry given
      → (value : Operand) × OnlyValue name k entries value → (value : Operand) × OnlyValue name k (entry ∷ entries) value
  first_value name k entry entries None g later = (
    later.0,
    record {
      is = (None, g.gives, later.1.is);
      only = λ other h. later.1.only other (subst (λ o. IsGivenOr o (IsNameValue spec location name k entries) other) (g.only h.0 h.1) h.2);
      writable = later.1.writable;
    },
  )
  first_value name k entry entries (Some o) g later = (
    o,
    record {
      is = (Some o, g.gives, refl);
      only = λ other h. subst (λ o. IsGivenOr o (IsNameValue spec location name k entries) other) (g.only h.0 h.1) h.2;
      writable = g.writable;
    },
  )

  one_value : (name : List ℕ) (k : ℕ) (entries : List RawEntry) → All (IsBodyChoice spec) entries → (value : Operand) × OnlyValue name k entries value
  one_value name k [] h = (Num (pos 0), record { is = refl; only = λ other e. e; writable = number_writable (pos 0) })
  one_value name k (entry ∷ entries) h =
      let given = one_given name k entry (All-head (IsBodyChoice spec) entry entries h) in
      first_value name k entry entries given.0 given.1 (one_value name k entries (All-tail (IsBodyChoice spec) entry entries h))

  -- ---- all names

  module _ (entries : List RawEntry) (choices : All (IsBodyChoice spec) entries) where
    record OnlyValues (k : ℕ) (names : List (List ℕ)) (values : List Operand) : Type 0 where
      are : AreNameValues spec location entries k names values
      only : (others : List Operand) → AreNameValues spec location entries k names others → others ≡ values
      writable : All (IsWritable spec) values

    no_more : (k : ℕ) (others : List Operand) → AreNameValues spec location entries k [] others → others ≡ []
    no_more k [] h = refl
    no_more k (o ∷ os) h = absurd h

    first_only : (k : ℕ) (name : List ℕ) (names : List (List ℕ)) (value : Operand) (values : List Operand) → OnlyValue name k entries value → OnlyValues (k + 1) names values
        → (others : List Operand) → AreNameValues spec location entries k (name ∷ names) others → others ≡ value ∷ values
    first_only k name names value values one rest [] h = absurd h
    first_only k name names value values one rest (o ∷ os) h = ap (λ (x : Operand). x ∷ os) (one.only o h.0) ∙ ap (λ (xs : List Operand). value ∷ xs) (rest.only os h.1)

    values_from : (k : ℕ) (names : List (List ℕ)) → (values : List Operand) × OnlyValues k names values
    values_from k [] = ([], record { are = tt; only = no_more k; writable = All-nil (IsWritable spec) })
    values_from k (name ∷ names) =
        let one = one_value name k entries choices in let rest = values_from (k + 1) names in (
          one.0 ∷ rest.0,
          record {
            are = (one.1.is, rest.1.are);
            only = first_only k name names one.0 rest.0 one.1 rest.1;
            writable = All-cons (IsWritable spec) one.0 rest.0 one.1.writable rest.1.writable;
          },
        )

    as_many : (k : ℕ) (names : List (List ℕ)) (values : List Operand) → AreNameValues spec location entries k names values → length values ≡ length names
    as_many k [] [] h = refl
    as_many k [] (o ∷ os) h = absurd h
    as_many k (name ∷ names) [] h = absurd h
    as_many k (name ∷ names) (o ∷ os) h = ap suc (as_many (k + 1) names os h.1)

    pub one_each : (names : List (List ℕ)) → (values : List Operand) × AreOnlyNameValues spec location entries names values
    one_each names =
        let all = values_from 0 names in (
          all.0,
          record {
            are = all.1.are;
            only = all.1.only;
            whole = as_many 0 names all.0 all.1.are;
            admitted = All-weaker (IsWritable spec) (IsAdmitted spec) (λ o h. h.0) all.0 all.1.writable;
            placeless = All-weaker (IsWritable spec) HasNoPlace (λ o h. h.1) all.0 all.1.writable;
          },
        )

pub one_value_each : OneValueEach
one_value_each spec location entries names readable low choices = one_each spec readable location low entries choices names

-- values of the names are the only ones
pub only_these : (spec : Spec) (location : ℕ) (entries : List RawEntry) (names : List (List ℕ)) (values : List Operand) → IsReadableSpec spec → location < 2 ^ 32 → All (IsBodyChoice spec) entries
    → AreNameValues spec location entries 0 names values → AreOnlyNameValues spec location entries names values
only_these spec location entries names values readable low choices h =
    let one = one_value_each spec location entries names readable low choices in
    subst (AreOnlyNameValues spec location entries names) (sym (one.1.only values h)) one.1
