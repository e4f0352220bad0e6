-- The values of fields and the addresses of labels, in the order in which a body has them.
use Rattle.std.proofs.Common.{ℕ, ◌+◌, ◌^◌, ◌≡◌, ◌≢◌, ◌==◌, ◌<◌, ◌≤◌, ◌⊎◌, inl, inr, true, false, cond, List, [], ◌∷◌, length, map, get_or, AllPairs, Contains, Some, None, ℤ, pos, ◌+ℤ◌, refl, sym, ap, ◌∙◌, subst, arith}
use Rattle.std.specs.List.{filter_map, cons_option}
use Rattle.std.proofs.lemmas.Bool.{cases_lt}
use Rattle.std.proofs.lemmas.Bool.Decides.{nat_tests}
use Rattle.std.proofs.lemmas.Int.{ints}
use Rattle.std.proofs.lemmas.List.{length-map, get_or-map, get_or_past}
use Rattle.token_bits.specs.declared.tokens.FieldId.{FieldId}
use Rattle.token_bits.specs.declared.tokens.Tokens.{Tokens}
use Rattle.sled_model.specs.declared.raw.RawEntry.{RawEntry}
use Rattle.sled_model.specs.declared.raw.RawEntry.TheVariants.{Value, Mark, Choice'}
use Rattle.sled_model.specs.Equations.{half_of, IsBetween, AreFieldValues}
use Rattle.sled_model.specs.Instances.{field_read, first_or_zero, fields_in, labels_at}
use Rattle.sled_model.specs.Solved.{AreLabelValues}
use Rattle.sled_model.proofs.Members.{Contains-nil, Contains-here, Contains-there, Contains-cons_cases}
use Rattle.eq_solver.specs.Operands.{AreCellValues}
use Rattle.eq_solver.specs.Sums.{at}
use Rattle.instance_reading.specs.Entries.{values_read, AreAddresses}
use Rattle.instance_reading.proofs.BodyReads.{read_field}
use Rattle.instance_reading.proofs.Entries.{pairs_head, pairs_tail, read_there}

number_test : (j k : ℕ) → j ≡ k → (j == k) ≡ true
number_test j k e = grind (arith, nat_tests)

other_test : (j k : ℕ) → j ≢ k → (j == k) ≡ false
other_test j k e = grind (arith, nat_tests)

-- ---- values

map_same : (f g : ℕ → ℤ) (xs : List ℕ) → ((x : ℕ) → Contains xs x → f x ≡ g x) → map f xs ≡ map g xs
map_same f g [] h = refl
map_same f g (x ∷ xs) h = ap (λ y. y ∷ map f xs) (h x (Contains-here x xs)) ∙ ap (λ ys. g x ∷ ys) (map_same f g xs (λ y m. h y (Contains-there x xs y m)))

module _ (entries : List RawEntry) (g : FieldId) (v at' : ℕ) where
  -- the field of the entry in front
  front : fields_in (Value g v at' ∷ entries) g.0 ≡ pos v
  front = ap (λ b. pos (first_or_zero (cons_option (cond b (Some v) None) (filter_map (field_read g.0) entries)))) (number_test g.0 g.0 refl)

  -- and any other
  behind : (f : ℕ) → g.0 ≢ f → fields_in (Value g v at' ∷ entries) f ≡ fields_in entries f
  behind f h = ap (λ b. pos (first_or_zero (cons_option (cond b (Some v) None) (filter_map (field_read f) entries)))) (other_test g.0 f h)

-- the values are those of the fields, in order
pub values_same : (entries : List RawEntry) → AllPairs (λ f g. f ≢ g) (filter_map read_field entries) → map (fields_in entries) (filter_map read_field entries) ≡ values_read entries
values_same [] h = refl
values_same (Value g v at' ∷ entries) h =
    let fs = filter_map read_field entries in
    ap (λ y. y ∷ map (fields_in (Value g v at' ∷ entries)) fs) (front entries g v at')
    ∙ ap (λ ys. pos v ∷ ys) (map_same (fields_in (Value g v at' ∷ entries)) (fields_in entries) fs (λ f m. behind entries g v at' f (pairs_head (λ f g. f ≢ g) g.0 fs f h m))
    ∙ values_same entries (pairs_tail (λ f g. f ≢ g) g.0 fs h))
values_same (Mark label at' ∷ entries) h = values_same entries h
values_same (Choice' k s inner arguments ∷ entries) h = values_same entries h

-- the value of a field that was read
pub value_is : (entries : List RawEntry) (f : FieldId) (v at' : ℕ) → AllPairs (λ f g. f ≢ g) (filter_map read_field entries) → Contains entries (Value f v at') → fields_in entries f.0 ≡ pos v
value_is [] f v at' h m = absurd (Contains-nil _ m)
value_is (entry ∷ entries) f v at' h m = by_place (Contains-cons_cases entry entries (Value f v at') m) (value_is entries f v at')
  where
    by_entry : (entry : RawEntry) → AllPairs (λ f g. f ≢ g) (filter_map read_field (entry ∷ entries)) → Contains entries (Value f v at') → (AllPairs (λ f g. f ≢ g) (filter_map read_field entries) → fields_in entries f.0 ≡ pos v)
        → fields_in (entry ∷ entries) f.0 ≡ pos v
    by_entry (Value g u to) h m rest =
        let fs = filter_map read_field entries in
        behind entries g u to f.0 (pairs_head (λ f g. f ≢ g) g.0 fs f.0 h (read_there entries f v at' m)) ∙ rest (pairs_tail (λ f g. f ≢ g) g.0 fs h)
    by_entry (Mark label to) h m rest = rest h
    by_entry (Choice' k s inner arguments) h m rest = rest h

    by_place : (entry ≡ Value f v at') ⊎ Contains entries (Value f v at') → (AllPairs (λ f g. f ≢ g) (filter_map read_field entries) → Contains entries (Value f v at') → fields_in entries f.0 ≡ pos v)
        → fields_in (entry ∷ entries) f.0 ≡ pos v
    by_place (inl e) rest = ap (λ (entry : RawEntry). fields_in (entry ∷ entries) f.0) e ∙ front entries f v at'
    by_place (inr n) rest = by_entry entry h n (λ h. rest h n)

-- one value for each cell, in its range
pub cell_values : (tokens : Tokens) (fs : List ℕ) (v : ℕ → ℤ) (halves fields : List ℤ) → AreFieldValues (half_of tokens) v → halves ≡ map (half_of tokens) fs → map v fs ≡ fields → AreCellValues halves fields
cell_values tokens fs v halves fields values e d = subst (λ hs. AreCellValues hs fields) (sym e) (subst (AreCellValues (map (half_of tokens) fs)) d cells)
  where
    cells : AreCellValues (map (half_of tokens) fs) (map v fs)
    cells = record {
      one_each = length-map fs v ∙ sym (length-map fs (half_of tokens));
      range = λ k l. (
          let within : k < length fs = subst (λ n. k < n) (length-map fs (half_of tokens)) l in
          let half = get_or-map (half_of tokens) fs k 0 (pos 0) within in
          let value = get_or-map v fs k 0 (pos 0) within in
          subst (λ x. IsBetween (pos 0) (x +ℤ x) (at (map v fs) k)) (sym half)
          (subst (IsBetween (pos 0) (half_of tokens (get_or fs k 0) +ℤ half_of tokens (get_or fs k 0))) (sym value) (values (get_or fs k 0))));
    }

-- ---- labels

pub label_values : (location n : ℕ) (entries : List RawEntry) (addresses : List ℤ) → AreAddresses location entries n addresses → AreLabelValues (labels_at location entries) → AreLabelValues (at addresses)
label_values location n entries addresses is values l = by_place (cases_lt l n)
  where
    by_place : (l < n) ⊎ (n ≤ l) → IsBetween (pos 0) (pos (2 ^ 32 + 32)) (at addresses l)
    by_place (inl low) = subst (IsBetween (pos 0) (pos (2 ^ 32 + 32))) (sym (is.each l low)) (values l)
    by_place (inr high) =
        let past : at addresses l ≡ pos 0 = get_or_past addresses l (pos 0) (subst (λ m. m ≤ l) (sym is.one_each) high) in
        subst (IsBetween (pos 0) (pos (2 ^ 32 + 32))) (sym past) (record { at_least = omega (arith, ints); below = omega (arith, ints) })
