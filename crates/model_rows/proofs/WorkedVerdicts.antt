-- Verdicts on arms.
use Rattle.std.proofs.Common.{◌≡◌, ℕ, zero, suc, ◌+◌, ◌-◌, ◌*◌, ◌/◌, ◌%◌, ◌^◌, ◌<◌, ◌≤◌, Bool, true, false, eqb, List, [], ◌∷◌, ◌++◌, map, filter, length, Option, Some, None, slice_get, Contains, refl, ap, sym, ◌∙◌, arith, subst, ◌⊎◌, inl, inr}
use Rattle.std.specs.Prelude.{if◌then◌else◌}
use Rattle.std.proofs.lemmas.Bool.{eqb-true, cases_lt, le-leb}
use Rattle.std.proofs.lemmas.List.Elements.{All-nil, All-cons, Contains-append_cases}
use Rattle.sled_model.specs.declared.pattern.Argument.TheBlock.{hidden-the_row-Pattern-1}
use denote.Hole.Carrier.{hidden}
use Rattle.sled_model.specs.declared.raw.Match.{Match}
use Rattle.sled_model.specs.declared.statement.Arm.{Arm}
use Rattle.std.specs.List.{flat_map}
use Rattle.std.specs.Option.{option_map}
use Rattle.token_bits.specs.Tokens.{value_at, bits_of}
use Rattle.token_bits.specs.declared.tokens.FieldId.{FieldId}
use Rattle.sled_model.specs.Results.{arm_results, results_from, both_match, agrees, chain_match}
use Rattle.sled_model.specs.Encoding.{IsBytes, IsAtOrBefore}
use Rattle.sled_model.specs.Verdicts.{Clear, Shadowed, Twofold, HasResult, AreSame, AreTwofold, SharesNoneBefore, IsVerdict}
use Rattle.model_rows.specs.Description.{description, tokens, x, y, x_read, y_read}
use Rattle.model_rows.specs.VerdictRows.{VerdictRows, x_is, y_is, both_are, one_twice, both_orders, long_or_short}
use Rattle.model_rows.proofs.Meant.{contains_one}

abbrev low_of : ℕ → ℕ
low_of b = (256 * 0 + b) / 2 ^ 0 % 2 ^ (3 - 0 + 1)

abbrev high_of : ℕ → ℕ
high_of b = (256 * 0 + b) / 2 ^ 4 % 2 ^ (7 - 4 + 1)

-- ---- what x and y are at the first byte

abbrev x_at : List ℕ → Option ℕ
x_at bytes = value_at tokens x bytes 0

abbrev y_at : List ℕ → Option ℕ
y_at bytes = value_at tokens y bytes 0

x_first : (b : ℕ) (bs : List ℕ) → x_at (b ∷ bs) ≡ Some (low_of b)
x_first b bs = ap (λ (t : Bool). option_map (bits_of 0 3) (if t then Some (256 * 0 + b) else None)) (le-leb 1 (length (b ∷ bs)) (omega arith))

y_first : (b : ℕ) (bs : List ℕ) → y_at (b ∷ bs) ≡ Some (high_of b)
y_first b bs = ap (λ (t : Bool). option_map (bits_of 4 7) (if t then Some (256 * 0 + b) else None)) (le-leb 1 (length (b ∷ bs)) (omega arith))

-- ---- results, by these

abbrev one : Match
one = record { binds = []; len = 1; loose = false }

-- the results of a relation `= n` on a field of this value
abbrev limits : Option ℕ → ℕ → List Match
limits o n = results_from o (λ v. if eqb v n then one ∷ [] else [])

abbrev conjoined : List Match → List Match → List Match
conjoined ps qs = flat_map (λ a. map (both_match a) (filter (agrees a) qs)) ps

module _ (bytes : List ℕ) where
  results_x : (n : ℕ) → arm_results description (x_is n) bytes 0 ≡ limits (x_at bytes) n
  results_x n = refl

  results_y : (n : ℕ) → arm_results description (y_is n) bytes 0 ≡ limits (y_at bytes) n
  results_y n = refl

  results_both : (m n : ℕ) → arm_results description (both_are m n) bytes 0 ≡ conjoined (limits (x_at bytes) m) (limits (y_at bytes) n)
  unfolding hidden-the_row-Pattern-1 hidden
  results_both m n = refl

  results_twice : arm_results description one_twice bytes 0 ≡ limits (x_at bytes) 1 ++ limits (x_at bytes) 1
  unfolding hidden-the_row-Pattern-1 hidden
  results_twice = refl

  results_long : arm_results description long_or_short bytes 0
      ≡ flat_map (λ a. map (chain_match a) (limits (value_at tokens y bytes (0 + a.len)) 0)) (limits (x_at bytes) 0) ++ limits (x_at bytes) 1
  unfolding hidden-the_row-Pattern-1 hidden
  results_long = refl

orders_none : arm_results description both_orders [] 0 ≡ []
unfolding hidden-the_row-Pattern-1 hidden
orders_none = refl

-- ---- which values have a result

contains_none : (r : Match) → Contains [] r → ⊥
contains_none r h = omega (arith, h.1)

module _ (r : Match) where
  in_limits : (o : Option ℕ) (n : ℕ) → Contains (limits o n) r → (o ≡ Some n) × (one ≡ r)
  in_limits None n h = absurd (contains_none r h)
  in_limits (Some v) n h = by_test (eqb v n) refl h
    where
      by_test : (t : Bool) → eqb v n ≡ t → Contains (if t then one ∷ [] else []) r → (Some v ≡ Some n) × (one ≡ r)
      by_test true e h = (ap Some (eqb-true v n e), contains_one one r h)
      by_test false e h = absurd (contains_none r h)

  in_both : (o p : Option ℕ) (m n : ℕ) → Contains (conjoined (limits o m) (limits p n)) r → (o ≡ Some m) × (p ≡ Some n) × (one ≡ r)
  in_both None p m n h = absurd (contains_none r h)
  in_both (Some v) None m n h = by_test (eqb v m) h
    where
      by_test : (t : Bool) → Contains (conjoined (if t then one ∷ [] else []) []) r → (Some v ≡ Some m) × (None ≡ Some n) × (one ≡ r)
      by_test true h = absurd (contains_none r h)
      by_test false h = absurd (contains_none r h)
  in_both (Some v) (Some w) m n h = by_tests (eqb v m) (eqb w n) refl refl h
    where
      by_tests : (t u : Bool) → eqb v m ≡ t → eqb w n ≡ u → Contains (conjoined (if t then one ∷ [] else []) (if u then one ∷ [] else [])) r → (Some v ≡ Some m) × (Some w ≡ Some n) × (one ≡ r)
      by_tests true true e f h = (ap Some (eqb-true v m e), ap Some (eqb-true w n f), contains_one one r h)
      by_tests true false e f h = absurd (contains_none r h)
      by_tests false u e f h = absurd (contains_none r h)

-- ---- arms

module _ (arms : List Arm) (k : ℕ) (bytes : List ℕ) (r : Match) where
  -- the results are those of the arm that has the number
  found : (arm : Arm) → slice_get arms k ≡ Some arm → HasResult description arms k bytes r → Contains (arm_results description arm bytes 0) r
  found arm e h = let there = h.there in let same : h.arm ≡ arm = cc in subst (λ a. Contains (arm_results description a bytes 0) r) same h.has

  x_found : (n : ℕ) → slice_get arms k ≡ Some (x_is n) → HasResult description arms k bytes r → (x_at bytes ≡ Some n) × (one ≡ r)
  x_found n e h = in_limits r (x_at bytes) n (found (x_is n) e h)

  y_found : (n : ℕ) → slice_get arms k ≡ Some (y_is n) → HasResult description arms k bytes r → (y_at bytes ≡ Some n) × (one ≡ r)
  y_found n e h = in_limits r (y_at bytes) n (found (y_is n) e h)

  both_found : (m n : ℕ) → slice_get arms k ≡ Some (both_are m n) → HasResult description arms k bytes r → (x_at bytes ≡ Some m) × (y_at bytes ≡ Some n) × (one ≡ r)
  both_found m n e h = in_both r (x_at bytes) (y_at bytes) m n (subst (λ ms. Contains ms r) (results_both bytes m n) (found (both_are m n) e h))

some_same : (m n : ℕ) → Some m ≡ Some n → m ≡ n
some_same m n e = cc

not_both_values : (o : Option ℕ) (m n : ℕ) → o ≡ Some m → o ≡ Some n → m < n → ⊥
not_both_values o m n e f l = omega (arith, l, some_same m n (sym e ∙ f))

no_earlier : (arms : List Arm) (k : ℕ) → SharesNoneBefore description arms 0 k
no_earlier arms k i bytes l h = omega (arith, l)

-- two results that are one are the same
same_of_one : (a b : Match) → one ≡ a → one ≡ b → AreSame a b
same_of_one a b e f = record { binds = ap (λ (m : Match). m.binds) (sym e ∙ f); len = ap (λ (m : Match). m.len) (sym e ∙ f) }

-- ---- least bytes

before_first : (n b : ℕ) (bs : List ℕ) → n ≤ b → (length (n ∷ []) < length (b ∷ bs)) ⊎ ((length (n ∷ []) ≡ length (b ∷ bs)) × IsAtOrBefore (n ∷ []) (b ∷ bs))
before_first n b [] h = inr (refl, elim (cases_lt n b) [ inl l ↦ inl l | inr l ↦ inr (omega (arith, h, l), tt) ])
before_first n b (c ∷ bs) h = inl (omega arith)

-- 21 is the least list with 1 in x and 2 in y
least_inside : (bytes : List ℕ) → x_at bytes ≡ Some 1 → y_at bytes ≡ Some 2 → (length {A = ℕ} (33 ∷ []) < length bytes) ⊎ ((length {A = ℕ} (33 ∷ []) ≡ length bytes) × IsAtOrBefore (33 ∷ []) bytes)
least_inside [] e f = cc
least_inside (b ∷ bs) e f =
    let low = some_same (low_of b) 1 (sym (x_first b bs) ∙ e) in
    let high = some_same (high_of b) 2 (sym (y_first b bs) ∙ f) in
    before_first 33 b bs (omega (arith, low, high))

is_byte : (b : ℕ) → b < 256 → IsBytes (b ∷ [])
is_byte b h = All-cons (λ b. b < 256) b [] h (All-nil (λ b. b < 256))

has : (arms : List Arm) (k : ℕ) (arm : Arm) (b : ℕ) (r : Match) → b < 256 → slice_get arms k ≡ Some arm → Contains (arm_results description arm (b ∷ []) 0) r → HasResult description arms k (b ∷ []) r
has arms k arm b r h e c = record { are_bytes = is_byte b h; arm = arm; there = e; has = c }

both_there : Contains (arm_results description (both_are 1 2) (33 ∷ []) 0) one
both_there = subst (λ ms. Contains ms one) (sym (results_both (33 ∷ []) 1 2)) (0, omega arith, refl)

-- ---- rows

abbrev three_arms : List Arm
three_arms = x_is 1 ∷ both_are 1 2 ∷ x_is 2 ∷ []

first : IsVerdict description three_arms 0 Clear
first = (no_earlier three_arms 0, λ bytes h. h.differ (same_of_one h.one h.other (x_found three_arms 0 bytes h.one 1 refl h.has_one).1 (x_found three_arms 0 bytes h.other 1 refl h.has_other).1))

inside : IsVerdict description three_arms 1 (Shadowed 0 (33 ∷ []))
inside = (
  omega arith,
  (
    no_earlier three_arms 1,
    record {
      has = record { one = one; other = one; has_one = has three_arms 0 (x_is 1) 33 one (omega arith) refl (0, omega arith, refl); has_other = has three_arms 1 (both_are 1 2) 33 one (omega arith) refl both_there };
      least = λ others h. let b = both_found three_arms 1 others h.other 1 2 refl h.has_other in least_inside others b.0 b.1;
    },
  ),
)

apart : IsVerdict description three_arms 2 Clear
apart = (shares_none, λ bytes h. h.differ (same_of_one h.one h.other (x_found three_arms 2 bytes h.one 2 refl h.has_one).1 (x_found three_arms 2 bytes h.other 2 refl h.has_other).1))
  where
    shares_none : SharesNoneBefore description three_arms 2 2
    shares_none zero bytes l h = not_both_values (x_at bytes) 1 2 (x_found three_arms 0 bytes h.one 1 refl h.has_one).0 (x_found three_arms 2 bytes h.other 2 refl h.has_other).0 (omega arith)
    shares_none (suc zero) bytes l h = not_both_values (x_at bytes) 1 2 (both_found three_arms 1 bytes h.one 1 2 refl h.has_one).0 (x_found three_arms 2 bytes h.other 2 refl h.has_other).0 (omega arith)
    shares_none (suc (suc i)) bytes l h = omega (arith, l)

abbrev four_arms : List Arm
four_arms = x_is 2 ∷ y_is 2 ∷ x_is 1 ∷ both_are 1 2 ∷ []

least_arm : IsVerdict description four_arms 3 (Shadowed 1 (33 ∷ []))
least_arm = (
  omega arith,
  (
    shares_none,
    record {
      has = record { one = one; other = one; has_one = has four_arms 1 (y_is 2) 33 one (omega arith) refl (0, omega arith, refl); has_other = has four_arms 3 (both_are 1 2) 33 one (omega arith) refl both_there };
      least = λ others h. let b = both_found four_arms 3 others h.other 1 2 refl h.has_other in least_inside others b.0 b.1;
    },
  ),
)
  where
    shares_none : SharesNoneBefore description four_arms 1 3
    shares_none zero bytes l h = not_both_values (x_at bytes) 1 2 (both_found four_arms 3 bytes h.other 1 2 refl h.has_other).0 (x_found four_arms 0 bytes h.one 2 refl h.has_one).0 (omega arith)
    shares_none (suc i) bytes l h = omega (arith, l)

-- ---- shorter ones first

abbrev two_arms : List Arm
two_arms = long_or_short ∷ y_is 0 ∷ []

abbrev long_results : List ℕ → Option ℕ → List Match
long_results bytes o = flat_map (λ a. map (chain_match a) (limits (value_at tokens y bytes (0 + a.len)) 0)) (limits o 0)

-- the long alternative has no result on one byte alone
not_alone : (b : ℕ) (o : Option ℕ) (r : Match) → Contains (long_results (b ∷ []) o) r → ⊥
not_alone b None r h = contains_none r h
not_alone b (Some v) r h = by_test (eqb v 0) h
  where
    by_test : (t : Bool) → Contains (flat_map (λ a. map (chain_match a) (limits (value_at tokens y (b ∷ []) (0 + a.len)) 0)) (if t then one ∷ [] else [])) r → ⊥
    by_test true h = contains_none r h
    by_test false h = contains_none r h

long_found : (bytes : List ℕ) (r : Match) → HasResult description two_arms 0 bytes r → Contains (long_results bytes (x_at bytes)) r ⊎ Contains (limits (x_at bytes) 1) r
long_found bytes r h =
    Contains-append_cases (long_results bytes (x_at bytes)) (limits (x_at bytes) 1) r (subst (λ ms. Contains ms r) (results_long bytes) (found two_arms 0 bytes r long_or_short refl h))

least_shorter : (bytes : List ℕ) → y_at bytes ≡ Some 0 → (r : Match) → HasResult description two_arms 0 bytes r → (length {A = ℕ} (1 ∷ []) < length bytes) ⊎ ((length {A = ℕ} (1 ∷ []) ≡ length bytes) × IsAtOrBefore (1 ∷ []) bytes)
least_shorter [] e r h = cc
least_shorter (b ∷ []) e r h =
    elim (long_found (b ∷ []) r h) [
      | inl c ↦ absurd (not_alone b (x_at (b ∷ [])) r c)
      | inr c ↦ (let low = some_same (low_of b) 1 (sym (x_first b []) ∙ (in_limits r (x_at (b ∷ [])) 1 c).0) in before_first 1 b [] (omega (arith, low)))
    ]
least_shorter (b ∷ c ∷ bs) e r h = inl (omega arith)

long_there : Contains (arm_results description long_or_short (1 ∷ []) 0) one
long_there = subst (λ ms. Contains ms one) (sym (results_long (1 ∷ []))) (0, omega arith, refl)

shorter : IsVerdict description two_arms 1 (Shadowed 0 (1 ∷ []))
shorter = (
  omega arith,
  (
    no_earlier two_arms 1,
    record {
      has = record { one = one; other = one; has_one = has two_arms 0 long_or_short 1 one (omega arith) refl long_there; has_other = has two_arms 1 (y_is 0) 1 one (omega arith) refl (0, omega arith, refl) };
      least = λ others h. least_shorter others (y_found two_arms 1 others h.other 0 refl h.has_other).0 h.one h.has_one;
    },
  ),
)

-- ---- two results

twice_found : (bytes : List ℕ) (r : Match) → HasResult description (one_twice ∷ []) 0 bytes r → one ≡ r
twice_found bytes r h =
    elim (Contains-append_cases (limits (x_at bytes) 1) (limits (x_at bytes) 1) r (subst (λ ms. Contains ms r) (results_twice bytes) (found (one_twice ∷ []) 0 bytes r one_twice refl h))) [
      | inl c ↦ (in_limits r (x_at bytes) 1 c).1
      | inr c ↦ (in_limits r (x_at bytes) 1 c).1
    ]

same_twice : IsVerdict description (one_twice ∷ []) 0 Clear
same_twice = (no_earlier (one_twice ∷ []) 0, λ bytes h. h.differ (same_of_one h.one h.other (twice_found bytes h.one h.has_one) (twice_found bytes h.other h.has_other)))

abbrev x_then_y : Match
x_then_y = record { binds = x_read 0 0 ∷ y_read 0 0 ∷ []; len = 1; loose = false }

abbrev y_then_x : Match
y_then_x = record { binds = y_read 0 0 ∷ x_read 0 0 ∷ []; len = 1; loose = false }

orders_of_zero : arm_results description both_orders (0 ∷ []) 0 ≡ x_then_y ∷ y_then_x ∷ []
unfolding hidden-the_row-Pattern-1 hidden
orders_of_zero = refl

orders_differ : AreSame x_then_y y_then_x → ⊥
orders_differ same =
    let binds = same.binds in
    let read : x_read 0 0 ≡ y_read 0 0 = cc in
    let fields : x ≡ y = cc in
    let numbers : 0 ≡ 1 = ap (λ (f : FieldId). f.0) fields in
    omega (arith, numbers)

least_order : (bytes : List ℕ) → AreTwofold description (both_orders ∷ []) 0 bytes → (length {A = ℕ} (0 ∷ []) < length bytes) ⊎ ((length {A = ℕ} (0 ∷ []) ≡ length bytes) × IsAtOrBefore (0 ∷ []) bytes)
least_order [] h = absurd (contains_none h.one (subst (λ ms. Contains ms h.one) orders_none (found (both_orders ∷ []) 0 [] h.one both_orders refl h.has_one)))
least_order (b ∷ bs) h = before_first 0 b bs (omega arith)

other_order : IsVerdict description (both_orders ∷ []) 0 (Twofold (0 ∷ []))
other_order = (
  no_earlier (both_orders ∷ []) 0,
  record {
    has = record {
      one = x_then_y;
      other = y_then_x;
      has_one = has (both_orders ∷ []) 0 both_orders 0 x_then_y (omega arith) refl (subst (λ ms. Contains ms x_then_y) (sym orders_of_zero) (0, omega arith, refl));
      has_other = has (both_orders ∷ []) 0 both_orders 0 y_then_x (omega arith) refl (subst (λ ms. Contains ms y_then_x) (sym orders_of_zero) (1, omega arith, refl));
      differ = orders_differ;
    };
    least = least_order;
  },
)

pub verdict_rows : VerdictRows
verdict_rows = record { first = first; inside = inside; apart = apart; least_arm = least_arm; shorter = shorter; same_twice = same_twice; other_order = other_order }
