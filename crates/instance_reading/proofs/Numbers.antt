-- The whole and the sliced operands that values of fields and labels give.
use Rattle.std.proofs.Common.{ℕ, ◌+◌, ◌-◌, ◌^◌, ◌≡◌, ◌==◌, ◌<◌, ◌≤◌, ◌⊎◌, inl, inr, nat_le, Bool, true, false, ◌&&◌, [], get_or, Contains, slice_get, Option, Some, None, ℤ, pos, negsuc, ◌≤ℤ◌, ◌<ℤ◌, refl, sym, ap, ◌∙◌, subst, arith}
use Rattle.std.specs.Int.{bit_at}
use Rattle.std.proofs.lemmas.Int.{ints}
use Rattle.std.proofs.lemmas.Bool.{cases_lt}
use Rattle.std.proofs.lemmas.Bool.Decides.{nat_tests}
use Rattle.std.proofs.lemmas.List.Elements.{All-contains, Contains-get_or}
use Rattle.std.proofs.lemmas.Nat.Bits.{bit_at-lt, same_from_bits_below}
use Rattle.token_bits.specs.declared.tokens.Tokens.{Tokens}
use Rattle.token_bits.specs.Tokens.{bits_of}
use Rattle.sled_model.specs.declared.constructor.Atom.{Atom}
use Rattle.sled_model.specs.declared.constructor.Atom.TheVariants.{Name, Field, Signed, Slice, Label}
use Rattle.sled_model.specs.declared.constructor.Term.{Term}
use Rattle.sled_model.specs.declared.constructor.Equation.{Equation}
use Rattle.sled_model.specs.declared.constructor.Constructor.{Constructor}
use Rattle.sled_model.specs.declared.constructor.OperandKind.{OperandKind}
use Rattle.sled_model.specs.declared.constructor.OperandKind.TheVariants.{Plain, Extended, Typed, Whole, Sliced}
use Rattle.sled_model.specs.Equations.{half_of, atom_value, slice_of, IsSatisfied, EachSatisfied, IsBetween, AreFieldValues}
use Rattle.sled_model.specs.Solved.{is_operand_atom, IsTarget, least_value, value_limit, AreLabelValues, is_whole_of, is_bit_of, GivesOperand, IsSolved}
use Rattle.sled_model.specs.Linear.{IsAtomOf, IsTermOf, IsEquationOf, IsLinear}
use Rattle.sled_model.specs.Instances.{IsWholeNumber, IsSlicedNumber}
use Rattle.sled_model.proofs.Members.{Contains-here, Contains-filter_cases}
use Rattle.instance_reading.proofs.Bits.{bit_of_slice, slice_is, HasBits, number_from}
use Rattle.instance_reading.proofs.Targets.{over, IsGivenBy, given_by, one_target, one_value, value_from_holds, holds_from_value}
use Rattle.instance_reading.proofs.Holders.{Contains-filter, contains_one, IsHolder, holder_of}

-- ---- kinds

-- the equations give operands of the kind their values
abbrev pub IsNumbered : OperandKind → Type 0
IsNumbered Whole = Unit {0}
IsNumbered Sliced = Unit {0}
IsNumbered _ = ⊥

-- the number is in the range of the kind
abbrev pub IsInRange : OperandKind → ℤ → Type 0
IsInRange Whole n = IsWholeNumber n
IsInRange Sliced n = IsSlicedNumber n
IsInRange _ n = Unit {0}

-- ---- tests of atoms

same_number : (j k : ℕ) → (j == k) ≡ true → j ≡ k
same_number j k e = grind (arith, nat_tests)

number_test : (j k : ℕ) → j ≡ k → (j == k) ≡ true
number_test j k e = grind (arith, nat_tests)

whole_name : (k : ℕ) (a : Atom) → is_whole_of k a ≡ true → a ≡ Name k
whole_name k (Name j) h = ap Name (same_number j k h)
whole_name k (Field f) h = cc
whole_name k (Signed f) h = cc
whole_name k (Slice j lo hi) h = cc
whole_name k (Label l) h = cc

-- the atom is a slice of operand k that holds this bit
record IsSliceAt (k bit : ℕ) (a : Atom) : Type 0 where
  lo : ℕ
  hi : ℕ
  is : a ≡ Slice k lo hi
  low : lo ≤ bit
  high : bit ≤ hi

three : (a b c : Bool) → (a && (b && c)) ≡ true → (a ≡ true) × (b ≡ true) × (c ≡ true)
three true true true h = (refl, refl, refl)
three true true false h = cc
three true false c h = cc
three false b c h = cc

below_test : (a b : ℕ) → nat_le a b ≡ true → a ≤ b
below_test a b h = grind (arith, nat_tests)

test_below : (a b : ℕ) → a ≤ b → nat_le a b ≡ true
test_below a b h = grind (arith, nat_tests)

slice_at : (k bit : ℕ) (a : Atom) → is_bit_of k bit a ≡ true → IsSliceAt k bit a
slice_at k bit (Name j) h = cc
slice_at k bit (Field f) h = cc
slice_at k bit (Signed f) h = cc
slice_at k bit (Slice j lo hi) h =
    let parts = three (j == k) (nat_le lo bit) (nat_le bit hi) h in
    record { lo = lo; hi = hi; is = ap (λ n. Slice n lo hi) (same_number j k parts.0); low = below_test lo bit parts.1; high = below_test bit hi parts.2 }
slice_at k bit (Label l) h = cc

slice_test : (k bit lo hi : ℕ) → lo ≤ bit → bit ≤ hi → is_bit_of k bit (Slice k lo hi) ≡ true
slice_test k bit lo hi low high =
    ap (λ b. b && (nat_le lo bit && nat_le bit hi)) (number_test k k refl) ∙ ap (λ b. b && nat_le bit hi) (test_below lo bit low) ∙ test_below bit hi high

-- ---- natural numbers

abbrev natural : ℤ → ℕ
natural (pos n) = n
natural (negsuc n) = 0

natural_is : (x : ℤ) → pos 0 ≤ℤ x → x ≡ pos (natural x)
natural_is (pos n) h = refl
natural_is (negsuc n) h = absurd (omega (arith, ints, h))

natural_below : (n x : ℕ) → pos x <ℤ pos n → x < n
natural_below n x h = omega (arith, ints, h)

same_natural : (m n : ℕ) → pos m ≡ pos n → m ≡ n
same_natural m n e = omega (arith, ints, e)

no_kind : (k : ℕ) (o : Option OperandKind) (kind other : OperandKind) → o ≡ Some kind → o ≡ Some other → kind ≡ other
no_kind k o kind other e d = cc

-- ---- the operands of a constructor

-- the numbers are the same where the equations give them
abbrev pub AreAlike : Constructor → (ℕ → ℤ) → (ℕ → ℤ) → Type 0
AreAlike c w u = (k : ℕ) (kind : OperandKind) → slice_get c.operands k ≡ Some kind → IsNumbered kind → w k ≡ u k

-- where the equations give an operand its number, it is in range
abbrev pub AreInRange : Constructor → (ℕ → ℤ) → Type 0
AreInRange c w = (k : ℕ) (kind : OperandKind) → slice_get c.operands k ≡ Some kind → IsNumbered kind → IsInRange kind (w k)

-- with these numbers the equations hold, and with no others in range
pub record AreOnlyNumbers (tokens : Tokens) (c : Constructor) (labels v u : ℕ → ℤ) : Type 0 where
  pub range : AreInRange c u
  pub holds : (w : ℕ → ℤ) → AreAlike c w u → EachSatisfied (over tokens labels v w) v c.equations
  pub only : (w : ℕ → ℤ) → AreInRange c w → EachSatisfied (over tokens labels v w) v c.equations → AreAlike c w u

module _ (tokens : Tokens) (c : Constructor) (linear : IsLinear tokens c) (solved : IsSolved tokens c) (labels v : ℕ → ℤ) (values : AreFieldValues (half_of tokens) v) (places : AreLabelValues labels) where
  given_at : (e : Equation) → Contains c.equations e → (t : Term) × (x : ℤ) × IsGivenBy tokens labels v e t x
  given_at e m = given_by tokens labels v values places e (All-contains (GivesOperand tokens) c.equations e solved.gives m)

  -- a target stands in its equation
  target_in : (e : Equation) (t : Term) → IsTarget e t → Contains e.terms t × (is_operand_atom t.atom ≡ true)
  target_in e t target =
      Contains-filter_cases (λ (t : Term). is_operand_atom t.atom) e.terms t (subst (λ ts. Contains ts t) (sym target.only) (Contains-here t []))

  -- and is the one term there of an operand or of a slice
  target_is : (e : Equation) (t u : Term) → IsTarget e t → Contains e.terms u → is_operand_atom u.atom ≡ true → t ≡ u
  target_is e t u target m h =
      contains_one t u (subst (λ ts. Contains ts u) target.only (Contains-filter (λ (t : Term). is_operand_atom t.atom) e.terms u m h))

  atom_of : (e : Equation) (t : Term) → Contains c.equations e → Contains e.terms t → IsAtomOf c t.atom
  atom_of e t m n = (All-contains (IsTermOf c) e.terms t (All-contains (IsEquationOf c) c.equations e linear.equations m).terms n).atom

  -- number x of an operand fits the value y of an equation's target, where the target is about operand k
  abbrev Fits : OperandKind → ℕ → ℤ → ℤ → Atom → Type 0
  Fits Whole k x y (Name j) = j ≡ k → x ≡ y
  Fits Sliced k x y (Slice j lo hi) = j ≡ k → slice_of lo hi x ≡ y
  Fits _ k x y _ = Unit {0}

  -- the only number of operand k
  record IsNumber (k : ℕ) (kind : OperandKind) (x : ℤ) : Type 0 where
    range : IsInRange kind x
    fits : (e : Equation) (t : Term) (y : ℤ) → Contains c.equations e → IsGivenBy tokens labels v e t y → Fits kind k x y t.atom
    only : (w : ℕ → ℤ) → IsInRange kind (w k) → EachSatisfied (over tokens labels v w) v c.equations → w k ≡ x

  holds_at : (w : ℕ → ℤ) (e : Equation) → Contains c.equations e → EachSatisfied (over tokens labels v w) v c.equations → IsSatisfied (over tokens labels v w) v e
  holds_at w e m h = All-contains (IsSatisfied (over tokens labels v w) v) c.equations e h m

  -- ---- a whole operand

  module _ (k : ℕ) (is_whole : slice_get c.operands k ≡ Some Whole) where
    whole_holder : (e : Equation) × (t : Term) × IsHolder (λ (t : Term). is_whole_of k t.atom) c.equations e t
    whole_holder = holder_of (λ (t : Term). is_whole_of k t.atom) c.equations (solved.held k Whole is_whole)

    whole_atom : (t : Term) → t.atom ≡ Name k → is_operand_atom t.atom ≡ true
    whole_atom t e = ap is_operand_atom e

    module _ (e : Equation) (t : Term) (h : IsHolder (λ (t : Term). is_whole_of k t.atom) c.equations e t) (u : Term) (x : ℤ) (g : IsGivenBy tokens labels v e u x) where
      named : u.atom ≡ Name k
      named =
          let name = whole_name k t.atom h.passes in
          ap (λ (t : Term). t.atom) (target_is e u t g.target h.term (whole_atom t name)) ∙ name

      whole_fits : (f : Equation) (s : Term) (y : ℤ) (a : Atom) → Contains c.equations f → IsGivenBy tokens labels v f s y → s.atom ≡ a → Fits Whole k x y a
      whole_fits f s y (Name j) m d e' = λ same.
          let test : is_whole_of k s.atom ≡ true = ap (is_whole_of k) e' ∙ number_test j k same in
          let here : f ≡ e = h.only f s m (target_in f s d.target).0 test in
          one_value tokens labels v e u s x y g (subst (λ f. IsGivenBy tokens labels v f s y) here d)
      whole_fits f s y (Field n) m d e' = tt
      whole_fits f s y (Signed n) m d e' = tt
      whole_fits f s y (Slice j lo hi) m d e' = tt
      whole_fits f s y (Label l) m d e' = tt

      whole_number : IsNumber k Whole x
      whole_number = record {
        range = subst (λ a. IsBetween (least_value a) (value_limit a) x) named g.range;
        fits = λ f s y m d. whole_fits f s y s.atom m d refl;
        only = λ w r all. sym (ap (atom_value (over tokens labels v w) v) named) ∙ value_from_holds tokens labels v w e u x g (holds_at w e h.equation all);
      }

    whole : (x : ℤ) × IsNumber k Whole x
    whole =
        let h = whole_holder in
        let g = given_at h.0 h.2.equation in
        (g.1, whole_number h.0 h.1 h.2 g.0 g.1 g.2)

  -- ---- a sliced operand

  module _ (k : ℕ) (is_sliced : slice_get c.operands k ≡ Some Sliced) where
    -- an equation that gives a slice of it, with the value
    record IsPart (bit : ℕ) : Type 0 where
      equation : Equation
      member : Contains c.equations equation
      target : Term
      value : ℤ
      given_is : IsGivenBy tokens labels v equation target value
      lo : ℕ
      hi : ℕ
      is : target.atom ≡ Slice k lo hi
      low : lo ≤ bit
      high : bit ≤ hi
      only : (f : Equation) (u : Term) → Contains c.equations f → Contains f.terms u → is_bit_of k bit u.atom ≡ true → f ≡ equation

    part_at : (bit : ℕ) → bit < 32 → IsPart bit
    part_at bit l =
        let h = holder_of (λ (t : Term). is_bit_of k bit t.atom) c.equations (solved.held k Sliced is_sliced bit l) in
        let slice = slice_at k bit h.1.atom h.2.passes in
        let g = given_at h.0 h.2.equation in
        let same = target_is h.0 g.0 h.1 g.2.target h.2.term (ap is_operand_atom slice.is) in
        record {
          equation = h.0;
          member = h.2.equation;
          target = g.0;
          value = g.1;
          given_is = g.2;
          lo = slice.lo;
          hi = slice.hi;
          is = ap (λ (t : Term). t.atom) same ∙ slice.is;
          low = slice.low;
          high = slice.high;
          only = h.2.only;
        }

    -- what the equations say of a bit
    bit_in : (bit : ℕ) → (bit < 32) ⊎ (32 ≤ bit) → ℕ
    bit_in bit (inl l) = let p = part_at bit l in bit_at (natural p.value) (bit - p.lo)
    bit_in bit (inr g) = 0

    bit_small : (bit : ℕ) (c : (bit < 32) ⊎ (32 ≤ bit)) → bit_in bit c < 2
    unfolding bit_in
    bit_small bit (inl l) = let p = part_at bit l in bit_at-lt (natural p.value) (bit - p.lo)
    bit_small bit (inr g) = omega arith

    bit_of : ℕ → ℕ
    bit_of bit = bit_in bit (cases_lt bit 32)

    in_part : (bit : ℕ) (c : (bit < 32) ⊎ (32 ≤ bit)) → bit < 32 → (p : IsPart bit) × (bit_in bit c ≡ bit_at (natural p.value) (bit - p.lo))
    unfolding bit_in
    in_part bit (inl l) h = (part_at bit l, refl)
    in_part bit (inr g) h = absurd (omega (arith, g, h))

    bit_is : (bit : ℕ) → bit < 32 → (p : IsPart bit) × (bit_of bit ≡ bit_at (natural p.value) (bit - p.lo))
    unfolding bit_of
    bit_is bit h = in_part bit (cases_lt bit 32) h

    bits_small : (bit : ℕ) → bit_of bit < 2
    unfolding bit_of
    bits_small bit = bit_small bit (cases_lt bit 32)

    same_slice : (lo hi lo' hi' : ℕ) → Slice k lo hi ≡ Slice k lo' hi' → (lo ≡ lo') × (hi ≡ hi')
    same_slice lo hi lo' hi' e = (cc, cc)

    -- the value of a slice is natural, and has as many bits
    slice_value : (e : Equation) (t : Term) (y : ℤ) (lo hi : ℕ) → IsGivenBy tokens labels v e t y → t.atom ≡ Slice k lo hi → (y ≡ pos (natural y)) × (natural y < 2 ^ (hi - lo + 1))
    slice_value e t y lo hi g is =
        let range : IsBetween (pos 0) (pos (2 ^ (hi - lo + 1))) y = subst (λ a. IsBetween (least_value a) (value_limit a) y) is g.range in
        let whole = natural_is y range.at_least in
        (whole, natural_below (2 ^ (hi - lo + 1)) (natural y) (subst (λ y. y <ℤ pos (2 ^ (hi - lo + 1))) whole range.below))

    -- any equation that gives a slice gives the bits in it
    bit_given : (e : Equation) (t : Term) (y : ℤ) (lo hi bit : ℕ) → Contains c.equations e → IsGivenBy tokens labels v e t y → t.atom ≡ Slice k lo hi → lo ≤ bit → bit ≤ hi → bit < 32
        → bit_at (natural y) (bit - lo) ≡ bit_of bit
    bit_given e t y lo hi bit m g is low high l =
        let p = bit_is bit l in
        let here : e ≡ p.0.equation = p.0.only e t m (target_in e t g.target).0 (ap (is_bit_of k bit) is ∙ slice_test k bit lo hi low high) in
        let moved = subst (λ e. IsGivenBy tokens labels v e t y) here g in
        let target = one_target tokens labels v p.0.equation t p.0.target y p.0.value moved p.0.given_is in
        let value = one_value tokens labels v p.0.equation t p.0.target y p.0.value moved p.0.given_is in
        let parts = same_slice lo hi p.0.lo p.0.hi (sym is ∙ ap (λ (t : Term). t.atom) target ∙ p.0.is) in
        ap (λ y. bit_at (natural y) (bit - lo)) value ∙ ap (λ lo. bit_at (natural p.0.value) (bit - lo)) parts.0 ∙ sym p.1

    module _ (x : ℕ) (has : HasBits bit_of 32 x) where
      sliced_fits : (f : Equation) (s : Term) (y : ℤ) (a : Atom) → Contains c.equations f → IsGivenBy tokens labels v f s y → s.atom ≡ a → Fits Sliced k (pos x) y a
      sliced_fits f s y (Slice j lo hi) m d e' = λ same.
          let is : s.atom ≡ Slice k lo hi = e' ∙ ap (λ n. Slice n lo hi) same in
          let order : (slice_get c.operands k ≡ Some Sliced) × (lo ≤ hi) × (hi ≤ 31) = subst (IsAtomOf c) is (atom_of f s m (target_in f s d.target).0) in
          let value = slice_value f s y lo hi d is in
          let top = order.2 in
          ap pos (slice_is lo hi x (natural y) order.1 value.1
          (λ bit low high. let l : bit < 32 = omega (arith, high, top) in bit_given f s y lo hi bit m d is low high l ∙ sym (has.each bit l)))
          ∙ sym value.0
      sliced_fits f s y (Name j) m d e' = tt
      sliced_fits f s y (Field n) m d e' = tt
      sliced_fits f s y (Signed n) m d e' = tt
      sliced_fits f s y (Label l) m d e' = tt

      -- a number whose slices have the values has the bits
      bits_of_other : (w : ℕ → ℤ) (z bit : ℕ) → w k ≡ pos z → EachSatisfied (over tokens labels v w) v c.equations → bit < 32 → bit_at z bit ≡ bit_of bit
      bits_of_other w z bit is all l =
          let p = bit_is bit l in
          let read : slice_of p.0.lo p.0.hi (w k) ≡ p.0.value =
          sym (ap (atom_value (over tokens labels v w) v) p.0.is) ∙ value_from_holds tokens labels v w p.0.equation p.0.target p.0.value p.0.given_is (holds_at w p.0.equation p.0.member all) in
          let value = slice_value p.0.equation p.0.target p.0.value p.0.lo p.0.hi p.0.given_is p.0.is in
          let same : bits_of p.0.lo p.0.hi z ≡ natural p.0.value = same_natural _ _ (ap (slice_of p.0.lo p.0.hi) (sym is) ∙ read ∙ value.0) in
          sym (bit_of_slice p.0.lo p.0.hi z bit p.0.low p.0.high) ∙ ap (λ n. bit_at n (bit - p.0.lo)) same ∙ sym p.1

      sliced_only : (w : ℕ → ℤ) → IsSlicedNumber (w k) → EachSatisfied (over tokens labels v w) v c.equations → w k ≡ pos x
      sliced_only w range all =
          let is = natural_is (w k) range.at_least in
          let below = natural_below (2 ^ 32) (natural (w k)) (subst (λ y. y <ℤ pos (2 ^ 32)) is range.below) in
          is ∙ ap pos (same_from_bits_below 32 (natural (w k)) x below has.below (λ bit l. bits_of_other w (natural (w k)) bit is all l ∙ sym (has.each bit l)))

      sliced_range : IsSlicedNumber (pos x)
      sliced_range = let h = has.below in record { at_least = omega (arith, ints); below = omega (arith, ints, h) }

      sliced_number : IsNumber k Sliced (pos x)
      sliced_number = record { range = sliced_range; fits = λ f s y m d. sliced_fits f s y s.atom m d refl; only = sliced_only }

    sliced : (x : ℤ) × IsNumber k Sliced x
    sliced = let r = number_from bit_of bits_small 32 in (pos r.0, sliced_number r.0 r.1)

  -- ---- all operands

  abbrev IsNumberIf : ℕ → Option OperandKind → ℤ → Type 0
  IsNumberIf k o x = (kind : OperandKind) → o ≡ Some kind → IsNumbered kind → IsNumber k kind x

  same_kind : (a b : OperandKind) → Some a ≡ Some b → a ≡ b
  same_kind a b e = cc

  number_if : (k : ℕ) (o : Option OperandKind) → slice_get c.operands k ≡ o → (x : ℤ) × IsNumberIf k o x
  number_if k None s = (pos 0, λ kind e n. cc)
  number_if k (Some Whole) s = let r = whole k s in (r.0, λ kind e n. subst (λ kind. IsNumber k kind r.0) (same_kind Whole kind e) r.1)
  number_if k (Some Sliced) s = let r = sliced k s in (r.0, λ kind e n. subst (λ kind. IsNumber k kind r.0) (same_kind Sliced kind e) r.1)
  number_if k (Some (Plain f)) s = (pos 0, λ kind e n. absurd (subst IsNumbered (sym (same_kind (Plain f) kind e)) n))
  number_if k (Some (Extended f)) s = (pos 0, λ kind e n. absurd (subst IsNumbered (sym (same_kind (Extended f) kind e)) n))
  number_if k (Some (Typed t)) s = (pos 0, λ kind e n. absurd (subst IsNumbered (sym (same_kind (Typed t) kind e)) n))

  number : ℕ → ℤ
  number k = (number_if k (slice_get c.operands k) refl).0

  number_is : (k : ℕ) (kind : OperandKind) → slice_get c.operands k ≡ Some kind → IsNumbered kind → IsNumber k kind (number k)
  unfolding number
  number_is k kind s n = (number_if k (slice_get c.operands k) refl).1 kind s n

  module _ (w : ℕ → ℤ) (alike : AreAlike c w number) (e : Equation) (m : Contains c.equations e) where
    target_has : (t : Term) (y : ℤ) (a : Atom) → IsGivenBy tokens labels v e t y → t.atom ≡ a → is_operand_atom a ≡ true → IsAtomOf c a → atom_value (over tokens labels v w) v a ≡ y
    target_has t y (Name k) g e' o is = alike k Whole is tt ∙ subst (Fits Whole k (number k) y) e' ((number_is k Whole is tt).fits e t y m g) refl
    target_has t y (Slice k lo hi) g e' o is =
        ap (slice_of lo hi) (alike k Sliced is.0 tt) ∙ subst (Fits Sliced k (number k) y) e' ((number_is k Sliced is.0 tt).fits e t y m g) refl
    target_has t y (Field f) g e' o is = cc
    target_has t y (Signed f) g e' o is = cc
    target_has t y (Label l) g e' o is = cc

    equation_holds : IsSatisfied (over tokens labels v w) v e
    equation_holds =
        let g = given_at e m in
        let there = target_in e g.0 g.2.target in
        holds_from_value tokens labels v w e g.0 g.1 g.2 (target_has g.0 g.1 g.0.atom g.2 refl there.1 (atom_of e g.0 m there.0))

  pub only_numbers : (u : ℕ → ℤ) × AreOnlyNumbers tokens c labels v u
  only_numbers = (
    number,
    record {
      range = λ k kind s n. (number_is k kind s n).range;
      holds = λ w alike i d l. equation_holds w alike (get_or c.equations i d) (Contains-get_or c.equations i d l);
      only = λ w range all k kind s n. (number_is k kind s n).only w (range k kind s n) all;
    },
  )
