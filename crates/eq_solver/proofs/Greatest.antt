-- The greatest value of a sum, by its fields and its labels apart.
use Rattle.std.proofs.Common.{ℕ, suc, zero, ◌+◌, ◌-◌, ◌*◌, ◌%◌, ◌^◌, ◌≡◌, ◌<◌, ◌≤◌, inl, inr, Bool, true, false, List, [], ◌∷◌, length, get_or, slice_get, Some, None, All, IsSomeAnd, ℤ, pos, ◌+ℤ◌, ◌*ℤ◌, ◌≤ℤ◌, refl, ap, sym, ◌∙◌, arith, subst, w64, to_z, of_z, cond}
use Rattle.std.proofs.lemmas.Int.{ints}
use Rattle.std.proofs.lemmas.Option.{slice_get_within, get_or_from_slice_get}
use Rattle.std.proofs.lemmas.List.Elements.{All-get_or}
use Rattle.std.specs.Option.{option_map_or}
use Rattle.std.proofs.Math.IntN.{*ℤ-zero}
use Rattle.std.proofs.Math.Nat.{pow-le-pow_right}
use Rattle.std.proofs.lemmas.Nat.{pow_pos}
use Rattle.token_bits.specs.declared.tokens.Tokens.{Tokens}
use Rattle.token_bits.specs.declared.tokens.Class.{Class}
use Rattle.token_bits.specs.declared.tokens.Field.{Field}
use Rattle.token_bits.specs.Tokens.{AreTokens, IsWidth, IsFieldOf, width_of}
use Rattle.sled_model.specs.declared.constructor.Atom.{Atom}
use Rattle.sled_model.specs.declared.constructor.Atom.TheVariants as atom
use Rattle.sled_model.specs.declared.constructor.Term.{Term}
use Rattle.sled_model.specs.Equations.{Setting, half_of, sum_of, atom_value, IsBetween, AreFieldValues}
use Rattle.sled_model.specs.Linear.{IsWithin}
use Rattle.sled_model.specs.Solved.{is_operand_atom, AreLabelValues}
use Rattle.eq_solver.specs.declared.ranges.Unknowns.{Unknowns}
use Rattle.eq_solver.specs.declared.ranges.Unknowns.TheVariants.{Fields, Labels}
use Rattle.eq_solver.specs.Steps.{AreFields}
use Rattle.eq_solver.specs.Sums as sums
use Rattle.eq_solver.specs.Determined.{AreFieldsOf}
use Rattle.eq_solver.specs.Ranges.{halves_of, still, most_at, label_term, label_terms, AreInRange, IsGreatest, IsGivenTerm, AreGivenTerms}
use Rattle.eq_solver.proofs.Most.{greatest, best_is_most, best_in_range}

-- ---- every half is at least 1

half_least : (tokens : Tokens) (k : ℕ) → pos 1 ≤ℤ half_of tokens k
half_least tokens k = least (option_map_or width_of (slice_get tokens.fields k) 0 - 1)
  where
    positive : (x : ℕ) → 0 < x → pos 1 ≤ℤ pos x
    positive x p = omega (arith, ints)

    least : (d : ℕ) → pos 1 ≤ℤ pos (2 ^ d)
    least d = positive (2 ^ d) (pow_pos d)

halves_least : (tokens : Tokens) (unknowns : Unknowns) (k : ℕ) → pos 1 ≤ℤ halves_of tokens unknowns k
halves_least tokens Fields k = half_least tokens k
halves_least tokens Labels k = omega (arith, ints)

-- ---- fields alone

atom_bound : Atom → ℕ
atom_bound (atom.Field f) = suc f.0
atom_bound (atom.Signed f) = suc f.0
atom_bound (atom.Name k) = 0
atom_bound (atom.Slice k lo hi) = 0
atom_bound (atom.Label l) = 0

terms_bound : List Term → ℕ
terms_bound [] = 0
terms_bound (t ∷ ts) = atom_bound t.atom + terms_bound ts

bounded : (n m : ℕ) (a : Atom) → atom_bound a + m ≤ n → sums.IsFieldOf n a
unfolding atom_bound
bounded n m (atom.Field f) l = omega arith
bounded n m (atom.Signed f) l = omega arith
bounded n m (atom.Name k) l = tt
bounded n m (atom.Slice k lo hi) l = tt
bounded n m (atom.Label k) l = tt

all_bounded : (n : ℕ) (ts : List Term) → terms_bound ts ≤ n → AreFieldsOf n ts
unfolding terms_bound
all_bounded n [] l = tt
all_bounded n (t ∷ ts) l = (bounded n (terms_bound ts) t.atom l, all_bounded n ts (omega arith))

most_of_fields : (halves : ℕ → ℤ) (v : ℕ → ℤ) (ts : List Term) → AreFieldValues halves v → sum_of (still halves) v ts ≤ℤ sum_of (still halves) (most_at halves ts) ts
most_of_fields halves v ts a =
    let l : terms_bound ts ≤ terms_bound ts = omega arith in
    greatest (still halves) (terms_bound ts) (most_at halves ts) ts (all_bounded (terms_bound ts) ts l)
    (λ f x b r. best_is_most (halves f) f ts x r) v (record { each = λ f b. a f })

-- ---- fields and labels

apart_term : (s : Setting) (v other : ℕ → ℤ) (c : ℤ) (a : Atom) (ts : List Term) (sum : ℤ) → is_operand_atom a ≡ false → sum ≡ sum_of (still s.halves) v ts +ℤ sum_of (still other) s.labels (label_terms ts)
    → (c *ℤ atom_value s v a) +ℤ sum ≡ ((c *ℤ atom_value (still s.halves) v a) +ℤ sum_of (still s.halves) v ts) +ℤ sum_of (still other) s.labels (label_term c a (label_terms ts))
apart_term s v other c (atom.Field f) ts sum h e = regroup (c *ℤ v f.0) sum _ _ e
  where
    regroup : (a s p q : ℤ) → s ≡ p +ℤ q → a +ℤ s ≡ (a +ℤ p) +ℤ q
    regroup a s p q e = omega (arith, ints)
apart_term s v other c (atom.Signed f) ts sum h e = regroup (c *ℤ atom_value s v (atom.Signed f)) sum _ _ e
  where
    regroup : (a s p q : ℤ) → s ≡ p +ℤ q → a +ℤ s ≡ (a +ℤ p) +ℤ q
    regroup a s p q e = omega (arith, ints)
apart_term s v other c (atom.Label l) ts sum h e = regroup (c *ℤ s.labels l) (c *ℤ pos 0) sum _ _ (*ℤ-zero c) e
  where
    regroup : (a z s p q : ℤ) → z ≡ pos 0 → s ≡ p +ℤ q → a +ℤ s ≡ (z +ℤ p) +ℤ (a +ℤ q)
    regroup a z s p q d e = omega (arith, ints)
apart_term s v other c (atom.Name k) ts sum h e = cc
apart_term s v other c (atom.Slice k lo hi) ts sum h e = cc

pub given_tail : (t : Term) (ts : List Term) → All IsGivenTerm (t ∷ ts) → All IsGivenTerm ts
given_tail t ts h k d l = let q : suc k < suc (length ts) = omega arith in h (suc k) d q

pub given_head : (t : Term) (ts : List Term) → All IsGivenTerm (t ∷ ts) → IsGivenTerm t
given_head t ts h = let z : 0 < suc (length ts) = omega arith in h 0 t z

-- a sum is what its fields and what its labels give it
apart : (s : Setting) (v other : ℕ → ℤ) (ts : List Term) → All IsGivenTerm ts → sum_of s v ts ≡ sum_of (still s.halves) v ts +ℤ sum_of (still other) s.labels (label_terms ts)
apart s v other [] h = refl
apart s v other (t ∷ ts) h = apart_term s v other t.coefficient t.atom ts (sum_of s v ts) (given_head t ts h).1 (apart s v other ts (given_tail t ts h))

pub given_more : (t : Term) (ts : List Term) → IsGivenTerm t → All IsGivenTerm ts → All IsGivenTerm (t ∷ ts)
given_more t ts g h zero d l = g
given_more t ts g h (suc k) d l = let q : k < length ts = omega arith in h k d q

label_given : (c : ℤ) (a : Atom) (ts : List Term) → IsWithin (2 ^ 16) c → All IsGivenTerm ts → All IsGivenTerm (label_term c a ts)
label_given c (atom.Label l) ts w h = given_more _ ts (w, refl) h
label_given c (atom.Field f) ts w h = h
label_given c (atom.Signed f) ts w h = h
label_given c (atom.Name k) ts w h = h
label_given c (atom.Slice k lo hi) ts w h = h

labels_each : (ts : List Term) → All IsGivenTerm ts → All IsGivenTerm (label_terms ts)
labels_each [] h = h
labels_each (t ∷ ts) h = label_given t.coefficient t.atom (label_terms ts) (given_head t ts h).0 (labels_each ts (given_tail t ts h))

label_few : (c : ℤ) (a : Atom) (ts : List Term) (n : ℕ) → length ts ≤ n → length (label_term c a ts) ≤ suc n
label_few c (atom.Label l) ts n h = omega arith
label_few c (atom.Field f) ts n h = omega arith
label_few c (atom.Signed f) ts n h = omega arith
label_few c (atom.Name k) ts n h = omega arith
label_few c (atom.Slice k lo hi) ts n h = omega arith

labels_few : (ts : List Term) → length (label_terms ts) ≤ length ts
labels_few [] = omega arith
labels_few (t ∷ ts) = label_few t.coefficient t.atom (label_terms ts) (length ts) (labels_few ts)

pub labels_given : (ts : List Term) → AreGivenTerms ts → AreGivenTerms (label_terms ts)
labels_given ts h = let l = labels_few ts in record { each = labels_each ts h.each; few = omega (arith, h.few) }

label_range : (labels : ℕ → ℤ) → AreLabelValues labels → (tokens : Tokens) → AreFieldValues (halves_of tokens Labels) labels
label_range labels h tokens l = record { at_least = (h l).at_least; below = let b = (h l).below in omega (arith, ints) }

range_label : (tokens : Tokens) (labels : ℕ → ℤ) → AreFieldValues (halves_of tokens Labels) labels → AreLabelValues labels
range_label tokens labels h l = record { at_least = (h l).at_least; below = let b = (h l).below in omega (arith, ints) }

most_range : (tokens : Tokens) (unknowns : Unknowns) (ts : List Term) → AreFieldValues (halves_of tokens unknowns) (most_at (halves_of tokens unknowns) ts)
most_range tokens unknowns ts f = best_in_range (halves_of tokens unknowns f) f ts (halves_least tokens unknowns f)

pub is_greatest : (tokens : Tokens) (ts : List Term) (x y : ℤ) → All IsGivenTerm ts → x ≡ sum_of (still (halves_of tokens Fields)) (most_at (halves_of tokens Fields) ts) ts
    → y ≡ sum_of (still (halves_of tokens Labels)) (most_at (halves_of tokens Labels) (label_terms ts)) (label_terms ts) → IsGreatest tokens ts (x +ℤ y)
is_greatest tokens ts x y g p q =
    let fields = halves_of tokens Fields in
    let labels = halves_of tokens Labels in
    let setting : Setting = record { halves = half_of tokens; operands = λ k. pos 0; labels = most_at labels (label_terms ts) } in
    record {
      most = λ s v r. climb _ _ _ _ _ x y
          (apart s v labels ts g ∙ ap (λ h. sum_of (still h) v ts +ℤ sum_of (still labels) s.labels (label_terms ts)) r.halves)
          (most_of_fields fields v ts r.fields_range) (most_of_fields labels s.labels (label_terms ts) (label_range s.labels r.labels_range tokens)) p q;
      setting = setting;
      fields = most_at fields ts;
      range = record { halves = refl; fields_range = most_range tokens Fields ts; labels_range = range_label tokens _ (most_range tokens Labels (label_terms ts)) };
      reached = apart setting (most_at fields ts) labels ts g ∙ same _ _ _ _ p q;
    }
  where
    climb : (s a b c d x y : ℤ) → s ≡ a +ℤ b → a ≤ℤ c → b ≤ℤ d → x ≡ c → y ≡ d → s ≤ℤ (x +ℤ y)
    climb s a b c d x y e k m p q = omega (arith, ints)

    same : (a b x y : ℤ) → x ≡ a → y ≡ b → a +ℤ b ≡ x +ℤ y
    same a b x y p q = omega (arith, ints)

-- the same as the code has read its parts
pub greatest_read : (tokens : Tokens) (ts labels : List Term) (x y z : ℤ) → All IsGivenTerm ts → labels ≡ label_terms ts → x ≡ sum_of (still (halves_of tokens Fields)) (most_at (halves_of tokens Fields) ts) ts
    → y ≡ sum_of (still (halves_of tokens Labels)) (most_at (halves_of tokens Labels) labels) labels → z ≡ x +ℤ y → IsGreatest tokens ts z
greatest_read tokens ts labels x y z g e p q d =
    subst (IsGreatest tokens ts) (sym d) (is_greatest tokens ts x y g p (q ∙ ap (λ l. sum_of (still (halves_of tokens Labels)) (most_at (halves_of tokens Labels) l) l) e))
