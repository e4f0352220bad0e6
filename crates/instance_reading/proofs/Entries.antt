-- The values, labels and choices among the entries of a body.
use Rattle.std.proofs.Common.{ℕ, zero, suc, ◌+◌, ◌-◌, ◌^◌, ◌≡◌, ◌≢◌, ◌==◌, ◌<◌, ◌≤◌, ◌⊎◌, inl, inr, Bool, true, false, not, cond, ◌||◌, List, [], ◌∷◌, length, filter, All, AllPairs, Contains, slice_get, Option, Some, None, option_and_then, pos, refl, sym, ap, ◌∙◌, subst, arith}
use Rattle.std.specs.List.{filter_map, cons_option, AllZip, position_or_len}
use Rattle.std.proofs.lemmas.Bool.{lt-ltb}
use Rattle.std.proofs.lemmas.Int.{ints}
use Rattle.std.proofs.lemmas.Bool.Decides.{nat_tests}
use Rattle.std.proofs.lemmas.List.Elements.{All-head, All-tail}
use Rattle.token_bits.specs.declared.tokens.FieldId.{FieldId}
use Rattle.token_bits.specs.declared.tokens.Tokens.{Tokens}
use Rattle.sled_model.specs.declared.constructor.Constructor.{Constructor}
use Rattle.sled_model.specs.declared.raw.RawEntry.{RawEntry}
use Rattle.sled_model.specs.declared.raw.RawEntry.TheVariants.{Value, Mark, Choice'}
use Rattle.sled_model.specs.Equations.{half_of, IsBetween, AreFieldValues}
use Rattle.sled_model.specs.Instances.{field_read, label_read, first_or_zero, fields_in, labels_at}
use Rattle.sled_model.specs.Measures.{width_at}
use Rattle.sled_model.specs.Results.{Context, is_choice, choice_of, operands_in}
use Rattle.sled_model.specs.Solved.{AreLabelValues}
use Rattle.sled_model.specs.SolvingOrder.{is_among}
use Rattle.sled_model.proofs.Members.{Contains-nil, Contains-here, Contains-there, Contains-cons_cases}
use Rattle.instance_reading.proofs.Bits.{pow_pos}
use Rattle.instance_reading.proofs.BodyReads.{field_limit, IsEntry, read_field, IsChoiceFor}

same_number : (j k : ℕ) → (j == k) ≡ true → j ≡ k
same_number j k e = grind (arith, nat_tests)

number_test : (j k : ℕ) → j ≡ k → (j == k) ≡ true
number_test j k e = grind (arith, nat_tests)

-- ---- ranges

module _ (tokens : Tokens) (stop : ℕ) where
  limit_positive : (f : ℕ) → 0 < field_limit tokens f
  limit_positive f = let h = pow_pos (width_at tokens (record { 0 = f }) - 1) in omega (arith, h)

  value_below : (f : ℕ) (entries : List RawEntry) → All (IsEntry tokens stop) entries → first_or_zero (filter_map (field_read f) entries) < field_limit tokens f
  value_below f [] h = limit_positive f
  value_below f (entry ∷ entries) h = by_entry entry (All-head (IsEntry tokens stop) entry entries h) (value_below f entries (All-tail (IsEntry tokens stop) entry entries h))
    where
      by_test : (g : FieldId) (value : ℕ) (b : Bool) → (g.0 == f) ≡ b → value < field_limit tokens g.0 → first_or_zero (filter_map (field_read f) entries) < field_limit tokens f
          → first_or_zero (cons_option (cond b (Some value) None) (filter_map (field_read f) entries)) < field_limit tokens f
      by_test g value true e h rest = subst (λ n. value < field_limit tokens n) (same_number g.0 f e) h
      by_test g value false e h rest = rest

      by_entry : (entry : RawEntry) → IsEntry tokens stop entry → first_or_zero (filter_map (field_read f) entries) < field_limit tokens f
          → first_or_zero (cons_option (field_read f entry) (filter_map (field_read f) entries)) < field_limit tokens f
      by_entry (Value g value at) h rest = by_test g value (g.0 == f) refl h rest
      by_entry (Mark label at) h rest = rest
      by_entry (Choice' k s inner arguments) h rest = rest

  label_below : (l : ℕ) (entries : List RawEntry) → All (IsEntry tokens stop) entries → first_or_zero (filter_map (label_read l) entries) ≤ stop
  label_below l [] h = omega arith
  label_below l (entry ∷ entries) h = by_entry entry (All-head (IsEntry tokens stop) entry entries h) (label_below l entries (All-tail (IsEntry tokens stop) entry entries h))
    where
      by_test : (at : ℕ) (b : Bool) → at ≤ stop → first_or_zero (filter_map (label_read l) entries) ≤ stop → first_or_zero (cons_option (cond b (Some at) None) (filter_map (label_read l) entries)) ≤ stop
      by_test at true h rest = h
      by_test at false h rest = rest

      by_entry : (entry : RawEntry) → IsEntry tokens stop entry → first_or_zero (filter_map (label_read l) entries) ≤ stop → first_or_zero (cons_option (label_read l entry) (filter_map (label_read l) entries)) ≤ stop
      by_entry (Value g value at) h rest = rest
      by_entry (Mark label at) h rest = by_test at (label == l) h rest
      by_entry (Choice' k s inner arguments) h rest = rest

  between : (n m : ℕ) → n < m → IsBetween (pos 0) (pos m) (pos n)
  between n m h = record { at_least = omega (arith, ints); below = omega (arith, ints, h) }

  pub fields_range : (entries : List RawEntry) → All (IsEntry tokens stop) entries → AreFieldValues (half_of tokens) (fields_in entries)
  fields_range entries h f = between _ _ (value_below f entries h)

  pub labels_range : (location : ℕ) (entries : List RawEntry) → All (IsEntry tokens stop) entries → stop ≤ 32 → location < 2 ^ 32 → AreLabelValues (labels_at location entries)
  labels_range location entries h l low k = let b = label_below k entries h in between _ _ (omega (arith, b, l, low))

-- ---- values of fields

pub pairs_tail : {X : Type 0} (R : X → X → Type 0) (x : X) (xs : List X) → AllPairs R (x ∷ xs) → AllPairs R xs
pairs_tail R x xs h i j d l m = h (suc i) (suc j) d (omega (arith, l)) (omega (arith, m))

pub pairs_head : {X : Type 0} (R : X → X → Type 0) (x : X) (xs : List X) (y : X) → AllPairs R (x ∷ xs) → Contains xs y → R x y
pairs_head R x xs y h (k, l, e) = subst (R x) e (h 0 (suc k) y (omega arith) (omega (arith, l)))

same_value : (f : FieldId) (v u at to : ℕ) → Value f v at ≡ Value f u to → v ≡ u
same_value f v u at to e = cc

-- a value among the entries is of a field that was read
pub read_there : (entries : List RawEntry) (f : FieldId) (v at : ℕ) → Contains entries (Value f v at) → Contains (filter_map read_field entries) f.0
read_there [] f v at h = absurd (Contains-nil _ h)
read_there (entry ∷ entries) f v at h = by_place (Contains-cons_cases entry entries (Value f v at) h) (read_there entries f v at)
  where
    later : (o : Option ℕ) (xs : List ℕ) → Contains xs f.0 → Contains (cons_option o xs) f.0
    later None xs h = h
    later (Some x) xs h = Contains-there x xs f.0 h

    by_place : (entry ≡ Value f v at) ⊎ Contains entries (Value f v at) → (Contains entries (Value f v at) → Contains (filter_map read_field entries) f.0)
        → Contains (cons_option (read_field entry) (filter_map read_field entries)) f.0
    by_place (inl e) rest = subst (λ entry. Contains (cons_option (read_field entry) (filter_map read_field entries)) f.0) (sym e) (Contains-here f.0 (filter_map read_field entries))
    by_place (inr m) rest = later (read_field entry) (filter_map read_field entries) (rest m)

-- a field has one value
pub one_value : (entries : List RawEntry) (f : FieldId) (v u at to : ℕ) → AllPairs (λ f g. f ≢ g) (filter_map read_field entries) → Contains entries (Value f v at) → Contains entries (Value f u to) → v ≡ u
one_value [] f v u at to h a b = absurd (Contains-nil _ a)
one_value (entry ∷ entries) f v u at to h a b =
    by_places (Contains-cons_cases entry entries (Value f v at) a) (Contains-cons_cases entry entries (Value f u to) b)
    (λ n m. one_value entries f v u at to (rest (read_field entry) (filter_map read_field entries) h) n m)
  where
    rest : (o : Option ℕ) (xs : List ℕ) → AllPairs (λ f g. f ≢ g) (cons_option o xs) → AllPairs (λ f g. f ≢ g) xs
    rest None xs h = h
    rest (Some x) xs h = pairs_tail (λ f g. f ≢ g) x xs h

    twice : (w z : ℕ) → entry ≡ Value f w z → Contains (filter_map read_field entries) f.0 → ⊥
    twice w z e m =
        let apart : AllPairs (λ f g. f ≢ g) (f.0 ∷ filter_map read_field entries) = subst (λ (entry : RawEntry). AllPairs (λ f g. f ≢ g) (cons_option (read_field entry) (filter_map read_field entries))) e h in
        pairs_head (λ f g. f ≢ g) f.0 (filter_map read_field entries) f.0 apart m refl

    by_places : (entry ≡ Value f v at) ⊎ Contains entries (Value f v at) → (entry ≡ Value f u to) ⊎ Contains entries (Value f u to)
        → (Contains entries (Value f v at) → Contains entries (Value f u to) → v ≡ u) → v ≡ u
    by_places (inl e) (inl d) r = same_value f v u at to (sym e ∙ d)
    by_places (inl e) (inr m) r = absurd (twice v at e (read_there entries f u to m))
    by_places (inr n) (inl d) r = absurd (twice u to d (read_there entries f v at n))
    by_places (inr n) (inr m) r = r n m

-- the entry of a field that was read
pub record IsRead (entries : List RawEntry) (f : FieldId) : Type 0 where
  pub value : ℕ
  pub offset : ℕ
  pub there : Contains entries (Value f value offset)

same_field : (f g : FieldId) → f.0 ≡ g.0 → f ≡ g
same_field f g e = ap (λ n. let f : FieldId = record { 0 = n } in f) e

pub read_of : (entries : List RawEntry) (f : FieldId) → is_among (filter_map read_field entries) f.0 ≡ true → IsRead entries f
read_of [] f h = cc
read_of (entry ∷ entries) f h = by_entry entry h (read_of entries f)
  where
    more : (entry : RawEntry) → IsRead entries f → IsRead (entry ∷ entries) f
    more entry r = record { value = r.value; offset = r.offset; there = Contains-there entry entries (Value f r.value r.offset) r.there }

    by_test : (g : FieldId) (v at : ℕ) (b : Bool) → (g.0 == f.0) ≡ b → (b || is_among (filter_map read_field entries) f.0) ≡ true → (is_among (filter_map read_field entries) f.0 ≡ true → IsRead entries f) → IsRead (Value g v at ∷ entries) f
    by_test g v at true e h rest =
        record { value = v; offset = at; there = subst (λ (g : FieldId). Contains (Value g v at ∷ entries) (Value f v at)) (sym (same_field g f (same_number g.0 f.0 e))) (Contains-here (Value f v at) entries) }
    by_test g v at false e h rest = more (Value g v at) (rest h)

    by_entry : (entry : RawEntry) → is_among (cons_option (read_field entry) (filter_map read_field entries)) f.0 ≡ true → (is_among (filter_map read_field entries) f.0 ≡ true → IsRead entries f) → IsRead (entry ∷ entries) f
    by_entry (Value g v at) h rest = by_test g v at (g.0 == f.0) refl h rest
    by_entry (Mark label at) h rest = more (Mark label at) (rest h)
    by_entry (Choice' k s inner arguments) h rest = more (Choice' k s inner arguments) (rest h)

-- ---- choices

-- the first place of a number that is among these
first_place : (ks : List ℕ) (j : ℕ) → is_among ks j ≡ true → (position_or_len (λ n. n == j) ks < length ks) × (slice_get ks (position_or_len (λ n. n == j) ks) ≡ Some j)
first_place [] j h = cc
first_place (k ∷ ks) j h = by_test (k == j) refl h (first_place ks j)
  where
    by_test : (b : Bool) → (k == j) ≡ b → (b || is_among ks j) ≡ true → (is_among ks j ≡ true → (position_or_len (λ n. n == j) ks < length ks) × (slice_get ks (position_or_len (λ n. n == j) ks) ≡ Some j))
        → (cond (not b) (1 + position_or_len (λ n. n == j) ks) 0 < length (k ∷ ks)) × (slice_get (k ∷ ks) (cond (not b) (1 + position_or_len (λ n. n == j) ks) 0) ≡ Some j)
    by_test true e h rest = (omega arith, ap Some (same_number k j e))
    by_test false e h rest =
        let r = rest h in let l = r.0 in
        let more : 1 + position_or_len (λ n. n == j) ks ≡ suc (position_or_len (λ n. n == j) ks) = omega arith in
        (omega (arith, l), ap (slice_get (k ∷ ks)) more ∙ r.1)

pub zip_at : {X Y : Type 0} (R : X → Y → Type 0) (xs : List X) (ys : List Y) (i : ℕ) (x : X) → AllZip R xs ys → slice_get xs i ≡ Some x → (y : Y) × (slice_get ys i ≡ Some y) × R x y
zip_at R [] ys i x h e = cc
zip_at R (x ∷ xs) [] i z h e = absurd h
zip_at R (x ∷ xs) (y ∷ ys) zero z h e = let same : x ≡ z = cc in (y, refl, subst (λ x. R x y) same h.0)
zip_at R (x ∷ xs) (y ∷ ys) (suc i) z h e = zip_at R xs ys i z h.1 e

-- the choice for a typed operand is one
pub choice_at : (cx : Context) (bytes : List ℕ) (stop : ℕ) (c : Constructor) (entries : List RawEntry) (j : ℕ) → AllZip (IsChoiceFor cx bytes stop) (operands_in c.body) (filter is_choice entries)
    → is_among (operands_in c.body) j ≡ true → (entry : RawEntry) × (choice_of c entries j ≡ Some entry) × IsChoiceFor cx bytes stop j entry
choice_at cx bytes stop c entries j h among =
    let first = first_place (operands_in c.body) j among in
    let place = position_or_len (λ n. n == j) (operands_in c.body) in
    let found = zip_at (IsChoiceFor cx bytes stop) (operands_in c.body) (filter is_choice entries) place j h first.1 in
    (found.0, ap (λ b. option_and_then (slice_get (filter is_choice entries)) (cond b (Some place) None)) (lt-ltb place (length (operands_in c.body)) first.0) ∙ found.1, found.2)
