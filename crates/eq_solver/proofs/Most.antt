-- A field's share is greatest at one of four values.
use Rattle.std.proofs.Common.{ℕ, zero, suc, ◌+◌, ◌*◌, ◌-◌, ◌≡◌, ◌≢◌, ◌<◌, ◌≤◌, ◌==◌, ◌⊎◌, inl, inr, Bool, true, false, if◌then◌else◌, List, [], ◌∷◌, ℤ, pos, negsuc, ◌+ℤ◌, ◌*ℤ◌, ◌-ℤ◌, ◌≤ℤ◌, ◌<ℤ◌, nat_lt, int_lt, length, drop, get_or, refl, ap, sym, ◌∙◌, arith, subst}
use Rattle.std.proofs.lemmas.Int.{ints, by_lt_z}
use Rattle.std.proofs.lemmas.Bool.Decides.{nat_tests}
use Rattle.std.proofs.lemmas.List.{at_drop_more}
use Rattle.std.proofs.Math.IntN.{*ℤ-zero, *ℤ_comm, suc_ℤ-*ℤ, suc_ℤ}
use Rattle.sled_model.specs.declared.constructor.Term.{Term}
use Rattle.sled_model.specs.declared.constructor.Atom.{Atom}
use Rattle.sled_model.specs.declared.constructor.Atom.TheVariants.{Name, Field, Signed, Slice, Label}
use Rattle.sled_model.specs.Equations.{Setting, sum_of, atom_value, sign_extended, IsBetween}
use Rattle.eq_solver.specs.Sums.{IsFieldOf}
use Rattle.eq_solver.specs.Steps.{AreFields}
use Rattle.eq_solver.specs.Determined.{AreFieldsOf}
use Rattle.eq_solver.specs.Order.{part_of, share}
use Rattle.eq_solver.specs.Corners.{slope_of, slope, better_of, best_of}
use Rattle.eq_solver.proofs.Split.{Parted, alone, apart, add_parted}

suc_is : (x : ℤ) → x +ℤ pos 1 ≡ suc_ℤ x
suc_is (pos n) = omega (arith, ints)
suc_is (negsuc zero) = refl
suc_is (negsuc (suc n)) = omega (arith, ints)

times_next : (c x y : ℤ) → y ≡ x +ℤ pos 1 → c *ℤ y ≡ (c *ℤ x) +ℤ c
times_next c x y e = ap (λ z. c *ℤ z) (e ∙ suc_is x) ∙ *ℤ_comm c (suc_ℤ x) ∙ suc_ℤ-*ℤ x c ∙ ap (λ z. z +ℤ c) (*ℤ_comm x c)

part_next : (c x y : ℤ) (b : Bool) → y ≡ x +ℤ pos 1 → c *ℤ (if b then y else pos 0) ≡ (c *ℤ (if b then x else pos 0)) +ℤ (if b then c else pos 0)
part_next c x y true e = times_next c x y e
part_next c x y false e = let z = *ℤ-zero c in same (c *ℤ pos 0)
  where
    same : (a : ℤ) → a ≡ a +ℤ pos 0
    same a = omega (arith, ints)

atom_next : (half x y : ℤ) (f : ℕ) (c : ℤ) (a : Atom) → y ≡ x +ℤ pos 1 → sign_extended half y ≡ sign_extended half x +ℤ pos 1 → c *ℤ part_of half f y a ≡ (c *ℤ part_of half f x a) +ℤ slope_of f c a
atom_next half x y f c (Field g) e d = part_next c x y (g.0 == f) e
atom_next half x y f c (Signed g) e d = part_next c (sign_extended half x) (sign_extended half y) (g.0 == f) d
atom_next half x y f c (Name k) e d = part_next c x y false e
atom_next half x y f c (Slice k lo hi) e d = part_next c x y false e
atom_next half x y f c (Label k) e d = part_next c x y false e

pub share_next : (half x y : ℤ) (f : ℕ) (ts : List Term) → y ≡ x +ℤ pos 1 → sign_extended half y ≡ sign_extended half x +ℤ pos 1 → share half f y ts ≡ share half f x ts +ℤ slope f ts
share_next half x y f [] e d = refl
share_next half x y f (t ∷ ts) e d = regroup _ (t.coefficient *ℤ part_of half f x t.atom) (slope_of f t.coefficient t.atom) _ (share half f x ts) (slope f ts) (atom_next half x y f t.coefficient t.atom e d) (share_next half x y f ts e d)
  where
    regroup : (a b c p q r : ℤ) → a ≡ b +ℤ c → p ≡ q +ℤ r → a +ℤ p ≡ (b +ℤ q) +ℤ (c +ℤ r)
    regroup a b c p q r e d = omega (arith, ints)

-- a function that grows by d at each step from a to b is greatest at an end
abbrev pub Grows : (ℕ → ℤ) → ℤ → ℕ → ℕ → Type 0
Grows g d a b = (n : ℕ) → a ≤ n → n < b → g (n + 1) ≡ g n +ℤ d

rises : (g : ℕ → ℤ) (d : ℤ) (a b n k : ℕ) → Grows g d a b → pos 0 ≤ℤ d → a ≤ n → n + k ≡ b → g n ≤ℤ g b
rises g d a b n zero h p l e = let s : n ≡ b = omega arith in subst (λ m. g n ≤ℤ g m) s (omega (arith, ints))
rises g d a b n (suc k) h p l e =
    let l' : a ≤ n + 1 = omega arith in let e' : (n + 1) + k ≡ b = omega arith in let m : n < b = omega arith in
    let r = rises g d a b (n + 1) k h p l' e' in let s = h n l m in climb (g n) (g (n + 1)) (g b) d s p r
  where
    climb : (x y z d : ℤ) → y ≡ x +ℤ d → pos 0 ≤ℤ d → y ≤ℤ z → x ≤ℤ z
    climb x y z d e p r = omega (arith, ints)

falls : (g : ℕ → ℤ) (d : ℤ) (a b k : ℕ) → Grows g d a b → d <ℤ pos 0 → a + k ≤ b → g (a + k) ≤ℤ g a
falls g d a b zero h p l = let s : a + 0 ≡ a = omega arith in subst (λ m. g m ≤ℤ g a) (sym s) (omega (arith, ints))
falls g d a b (suc k) h p l =
    let l' : a + k ≤ b = omega arith in let m : a ≤ a + k = omega arith in let m' : a + k < b = omega arith in let s : a + suc k ≡ (a + k) + 1 = omega arith in
    subst (λ j. g j ≤ℤ g a) (sym s) (climb (g (a + k)) (g ((a + k) + 1)) (g a) d (h (a + k) m m') p (falls g d a b k h p l'))
  where
    climb : (x y z d : ℤ) → y ≡ x +ℤ d → d <ℤ pos 0 → x ≤ℤ z → y ≤ℤ z
    climb x y z d e p r = omega (arith, ints)

pub at_an_end : (g : ℕ → ℤ) (d : ℤ) (a b n : ℕ) → Grows g d a b → a ≤ n → n ≤ b → (g n ≤ℤ g a) ⊎ (g n ≤ℤ g b)
at_an_end g d a b n h l m = by_lt_z d (pos 0)
    (λ p. let s : a + (n - a) ≡ n = omega arith in let q : a + (n - a) ≤ b = omega arith in inl (subst (λ j. g j ≤ℤ g a) s (falls g d a b (n - a) h p q)))
    (λ p. let q : n + (b - n) ≡ b = omega arith in inr (rises g d a b n (b - n) h p l q))

low_next : (half : ℕ) (n : ℕ) → n + 1 < half → sign_extended (pos half) (pos (n + 1)) ≡ sign_extended (pos half) (pos n) +ℤ pos 1
low_next half n h = grind (arith, ints, nat_tests)

high_next : (half : ℕ) (n : ℕ) → half ≤ n → sign_extended (pos half) (pos (n + 1)) ≡ sign_extended (pos half) (pos n) +ℤ pos 1
high_next half n h = grind (arith, ints, nat_tests)

one_more : (n : ℕ) → pos (n + 1) ≡ pos n +ℤ pos 1
one_more n = omega (arith, ints)

-- below the half it is greatest at 0 or half - 1, and from it on at half or 2 * half - 1
pub low_corner : (half : ℕ) (f : ℕ) (ts : List Term) (n : ℕ) → n < half → (share (pos half) f (pos n) ts ≤ℤ share (pos half) f (pos 0) ts) ⊎ (share (pos half) f (pos n) ts ≤ℤ share (pos half) f (pos (half - 1)) ts)
low_corner half f ts n l =
    let m : n ≤ half - 1 = omega arith in let z : 0 ≤ n = omega arith in
    at_an_end (λ k. share (pos half) f (pos k) ts) (slope f ts) 0 (half - 1) n
    (λ k p q. let r : k + 1 < half = omega arith in share_next (pos half) (pos k) (pos (k + 1)) f ts (one_more k) (low_next half k r)) z m

pub high_corner : (half : ℕ) (f : ℕ) (ts : List Term) (n : ℕ) → half ≤ n → n < 2 * half → (share (pos half) f (pos n) ts ≤ℤ share (pos half) f (pos half) ts) ⊎ (share (pos half) f (pos n) ts ≤ℤ share (pos half) f (pos (2 * half - 1)) ts)
high_corner half f ts n l m =
    let k : n ≤ 2 * half - 1 = omega arith in
    at_an_end (λ j. share (pos half) f (pos j) ts) (slope f ts) half (2 * half - 1) n
    (λ j p q. share_next (pos half) (pos j) (pos (j + 1)) f ts (one_more j) (high_next half j p)) l k

-- ---- all fields at once

field_apart : (u v : ℕ → ℤ) (f g : ℕ) → ((j : ℕ) → j ≢ f → u j ≡ v j) → (b : Bool) → (g == f) ≡ b → Parted (u g) (if b then u f else pos 0) (v g) (if b then v f else pos 0)
field_apart u v f g h true e = let same : g ≡ f = grind (arith, nat_tests) in alone (ap u same) (ap v same)
field_apart u v f g h false e = let other : g ≢ f = grind (arith, nat_tests) in apart (h g other) refl refl

signed_apart : (w : Setting) (u v : ℕ → ℤ) (f g : ℕ) → ((j : ℕ) → j ≢ f → u j ≡ v j) → (b : Bool) → (g == f) ≡ b
    → Parted (sign_extended (w.halves g) (u g)) (if b then sign_extended (w.halves f) (u f) else pos 0) (sign_extended (w.halves g) (v g)) (if b then sign_extended (w.halves f) (v f) else pos 0)
signed_apart w u v f g h true e = let same : g ≡ f = grind (arith, nat_tests) in alone (ap (λ k. sign_extended (w.halves k) (u k)) same) (ap (λ k. sign_extended (w.halves k) (v k)) same)
signed_apart w u v f g h false e = let other : g ≢ f = grind (arith, nat_tests) in apart (ap (sign_extended (w.halves g)) (h g other)) refl refl

atom_apart : (w : Setting) (u v : ℕ → ℤ) (f : ℕ) → ((j : ℕ) → j ≢ f → u j ≡ v j) → (a : Atom) → Parted (atom_value w u a) (part_of (w.halves f) f (u f) a) (atom_value w v a) (part_of (w.halves f) f (v f) a)
atom_apart w u v f h (Field g) = field_apart u v f g.0 h (g.0 == f) refl
atom_apart w u v f h (Signed g) = signed_apart w u v f g.0 h (g.0 == f) refl
atom_apart w u v f h (Name k) = apart refl refl refl
atom_apart w u v f h (Slice k lo hi) = apart refl refl refl
atom_apart w u v f h (Label k) = apart refl refl refl

-- two valuations that differ at f alone
pub split_at : (w : Setting) (u v : ℕ → ℤ) (f : ℕ) → ((j : ℕ) → j ≢ f → u j ≡ v j) → (ts : List Term) → sum_of w u ts +ℤ share (w.halves f) f (v f) ts ≡ sum_of w v ts +ℤ share (w.halves f) f (u f) ts
split_at w u v f h [] = refl
split_at w u v f h (t ∷ ts) = add_parted t.coefficient _ _ _ _ _ _ _ _ (atom_apart w u v f h t.atom) (split_at w u v f h ts)

sum_same : (w : Setting) (u v : ℕ → ℤ) → ((g : ℕ) → u g ≡ v g) → (ts : List Term) → sum_of w u ts ≡ sum_of w v ts
sum_same w u v h [] = refl
sum_same w u v h (t ∷ ts) = ap (λ a. (t.coefficient *ℤ a) +ℤ sum_of w u ts) (same t.atom) ∙ ap (λ s. (t.coefficient *ℤ atom_value w v t.atom) +ℤ s) (sum_same w u v h ts)
  where
    same : (a : Atom) → atom_value w u a ≡ atom_value w v a
    same (Field g) = h g.0
    same (Signed g) = ap (sign_extended (w.halves g.0)) (h g.0)
    same (Name k) = refl
    same (Slice k lo hi) = refl
    same (Label k) = refl

lt_or : (j k : ℕ) → (j < k) ⊎ (k ≤ j)
lt_or j k = grind arith

abbrev pub mixed : ℕ → (ℕ → ℤ) → (ℕ → ℤ) → ℕ → ℤ
mixed k most v g = if nat_lt g k then most g else v g

mixed_other : (k : ℕ) (most v : ℕ → ℤ) (j : ℕ) → j ≢ k → mixed k most v j ≡ mixed (k + 1) most v j
mixed_other k most v j h = elim (lt_or j k) [
  | inl l ↦ ap (λ b. if b then most j else v j) (let a : nat_lt j k ≡ true = grind (arith, nat_tests) in let b : nat_lt j (k + 1) ≡ true = grind (arith, nat_tests) in a ∙ sym b)
  | inr l ↦ ap (λ b. if b then most j else v j) (let a : nat_lt j k ≡ false = grind (arith, nat_tests) in let b : nat_lt j (k + 1) ≡ false = grind (arith, nat_tests) in a ∙ sym b)
]

-- the sum grows where each field is put to a value of a share that is not less
pub sum_most : (w : Setting) (n : ℕ) (most v : ℕ → ℤ) (ts : List Term) → ((f : ℕ) → f < n → share (w.halves f) f (v f) ts ≤ℤ share (w.halves f) f (most f) ts) → (k : ℕ) → k ≤ n → sum_of w v ts ≤ℤ sum_of w (mixed k most v) ts
sum_most w n most v ts h zero l = let same : (g : ℕ) → v g ≡ mixed 0 most v g = λ g. let b : nat_lt g 0 ≡ false = grind (arith, nat_tests) in ap (λ c. if c then most g else v g) (sym b) in
    let e = sum_same w v (mixed 0 most v) same ts in omega (arith, ints)
sum_most w n most v ts h (suc k) l =
    let m : k ≤ n = omega arith in let m' : k < n = omega arith in let e : suc k ≡ k + 1 = omega arith in
    let r = sum_most w n most v ts h k m in
    let s = split_at w (mixed k most v) (mixed (k + 1) most v) k (mixed_other k most v) ts in
    let a : mixed k most v k ≡ v k = (let b : nat_lt k k ≡ false = grind (arith, nat_tests) in ap (λ c. if c then most k else v k) b) in
    let b : mixed (k + 1) most v k ≡ most k = (let c : nat_lt k (k + 1) ≡ true = grind (arith, nat_tests) in ap (λ c. if c then most k else v k) c) in
    subst (λ j. sum_of w v ts ≤ℤ sum_of w (mixed j most v) ts) (sym e)
    (climb _ (sum_of w (mixed k most v) ts) _ (share (w.halves k) k (mixed k most v k) ts) (share (w.halves k) k (mixed (k + 1) most v k) ts) (share (w.halves k) k (v k) ts) (share (w.halves k) k (most k) ts) r s
    (ap (λ z. share (w.halves k) k z ts) a) (ap (λ z. share (w.halves k) k z ts) b) (h k m'))
  where
    climb : (x y z p q p' q' : ℤ) → x ≤ℤ y → y +ℤ q ≡ z +ℤ p → p ≡ p' → q ≡ q' → p' ≤ℤ q' → x ≤ℤ z
    climb x y z p q p' q' l e d f m = omega (arith, ints)

mixed_all : (w : Setting) (n : ℕ) (most v : ℕ → ℤ) (ts : List Term) → AreFieldsOf n ts → sum_of w (mixed n most v) ts ≡ sum_of w most ts
mixed_all w n most v [] h = refl
mixed_all w n most v (t ∷ ts) h = ap (λ a. (t.coefficient *ℤ a) +ℤ sum_of w (mixed n most v) ts) (same t.atom h.0) ∙ ap (λ s. (t.coefficient *ℤ atom_value w most t.atom) +ℤ s) (mixed_all w n most v ts h.1)
  where
    at_field : (g : ℕ) → g < n → mixed n most v g ≡ most g
    at_field g l = let b : nat_lt g n ≡ true = grind (arith, nat_tests) in ap (λ c. if c then most g else v g) b

    same : (a : Atom) → IsFieldOf n a → atom_value w (mixed n most v) a ≡ atom_value w most a
    same (Field g) l = at_field g.0 l
    same (Signed g) l = ap (sign_extended (w.halves g.0)) (at_field g.0 l)
    same (Name k) l = refl
    same (Slice k lo hi) l = refl
    same (Label k) l = refl

-- values at which each field's share is greatest are values at which the sum is
pub greatest : (w : Setting) (n : ℕ) (most : ℕ → ℤ) (ts : List Term) → AreFieldsOf n ts
    → ((f : ℕ) (x : ℤ) → f < n → IsBetween (pos 0) (w.halves f +ℤ w.halves f) x → share (w.halves f) f x ts ≤ℤ share (w.halves f) f (most f) ts)
    → (v : ℕ → ℤ) → AreFields w.halves n v → sum_of w v ts ≤ℤ sum_of w most ts
greatest w n most ts g h v a =
    let l : n ≤ n = omega arith in
    subst (λ z. sum_of w v ts ≤ℤ z) (mixed_all w n most v ts g) (sum_most w n most v ts (λ f b. h f (v f) b (a.each f b)) n l)

-- so one sum decides for all
pub decided : (w : Setting) (n : ℕ) (most : ℕ → ℤ) (ts : List Term) (rest high : ℤ) → AreFieldsOf n ts → AreFields w.halves n most
    → ((f : ℕ) (x : ℤ) → f < n → IsBetween (pos 0) (w.halves f +ℤ w.halves f) x → share (w.halves f) f x ts ≤ℤ share (w.halves f) f (most f) ts)
    → (((v : ℕ → ℤ) → AreFields w.halves n v → (sum_of w v ts +ℤ rest) ≤ℤ high) → (sum_of w most ts +ℤ rest) ≤ℤ high)
    × ((sum_of w most ts +ℤ rest) ≤ℤ high → (v : ℕ → ℤ) → AreFields w.halves n v → (sum_of w v ts +ℤ rest) ≤ℤ high)
decided w n most ts rest high g m h = ((λ p. p most m), (λ p v a. below (sum_of w v ts) (sum_of w most ts) rest high (greatest w n most ts g h v a) p))
  where
    below : (x y r z : ℤ) → x ≤ℤ y → (y +ℤ r) ≤ℤ z → (x +ℤ r) ≤ℤ z
    below x y r z p q = omega (arith, ints)

-- ---- the code

pub share_step : (half : ℤ) (f : ℕ) (x : ℤ) (ts : List Term) (i : ℕ) (d : Term) (total p new s : ℤ) → new ≡ total +ℤ p → i < length ts
    → total +ℤ share half f x (drop i ts) ≡ s → p ≡ (get_or ts i d).coefficient *ℤ part_of half f x (get_or ts i d).atom
    → new +ℤ share half f x (drop (i + 1) ts) ≡ s
share_step half f x ts i d total p new s e below h q =
    let more = at_drop_more (share half f x) ts i d below in regroup new total p _ _ (share half f x (drop (i + 1) ts)) s e h more q
  where
    regroup : (new total p x c r s : ℤ) → new ≡ total +ℤ p → total +ℤ x ≡ s → x ≡ c +ℤ r → p ≡ c → new +ℤ r ≡ s
    regroup new total p x c r s e h m q = omega (arith, ints)

-- what is not less than the four corners is not less than all
pub corners : (half y : ℤ) (f : ℕ) (ts : List Term) → share half f (pos 0) ts ≤ℤ share half f y ts → share half f (half -ℤ pos 1) ts ≤ℤ share half f y ts → share half f half ts ≤ℤ share half f y ts
    → share half f ((half +ℤ half) -ℤ pos 1) ts ≤ℤ share half f y ts → (x : ℤ) → IsBetween (pos 0) (half +ℤ half) x → share half f x ts ≤ℤ share half f y ts
corners (negsuc h) y f ts a b c d (pos n) r = let z : pos n <ℤ (negsuc h +ℤ negsuc h) = r.below in absurd (omega (arith, ints))
corners half y f ts a b c d (negsuc n) r = let z : pos 0 ≤ℤ negsuc n = r.at_least in absurd (omega (arith, ints))
corners (pos h) y f ts a b c d (pos n) r =
    let z : n < 2 * h = (let q : pos n <ℤ (pos h +ℤ pos h) = r.below in omega (arith, ints)) in
    elim (lt_or n h) [
      | inl l ↦ let e : pos h -ℤ pos 1 ≡ pos (h - 1) = omega (arith, ints) in
          elim (low_corner h f ts n l) [ inl p ↦ le_trans _ _ _ p a | inr p ↦ le_trans _ _ _ p (subst (λ k. share (pos h) f k ts ≤ℤ share (pos h) f y ts) e b) ]
      | inr l ↦ let e : (pos h +ℤ pos h) -ℤ pos 1 ≡ pos (2 * h - 1) = omega (arith, ints) in
          elim (high_corner h f ts n l z) [ inl p ↦ le_trans _ _ _ p c | inr p ↦ le_trans _ _ _ p (subst (λ k. share (pos h) f k ts ≤ℤ share (pos h) f y ts) e d) ]
    ]
  where
    le_trans : (a b c : ℤ) → a ≤ℤ b → b ≤ℤ c → a ≤ℤ c
    le_trans a b c p q = omega (arith, ints)

better_first : (half : ℤ) (f : ℕ) (ts : List Term) (a b : ℤ) → share half f a ts ≤ℤ share half f (better_of half f ts a b) ts
better_first half f ts a b = by_lt_z (share half f a ts) (share half f b ts)
    (λ p. let e : int_lt (share half f a ts) (share half f b ts) ≡ true = grind (arith, ints, nat_tests) in subst (λ t. share half f a ts ≤ℤ share half f (if t then b else a) ts) (sym e) (omega (arith, ints)))
    (λ p. let e : int_lt (share half f a ts) (share half f b ts) ≡ false = grind (arith, ints, nat_tests) in subst (λ t. share half f a ts ≤ℤ share half f (if t then b else a) ts) (sym e) (omega (arith, ints)))

better_second : (half : ℤ) (f : ℕ) (ts : List Term) (a b : ℤ) → share half f b ts ≤ℤ share half f (better_of half f ts a b) ts
better_second half f ts a b = by_lt_z (share half f a ts) (share half f b ts)
    (λ p. let e : int_lt (share half f a ts) (share half f b ts) ≡ true = grind (arith, ints, nat_tests) in subst (λ t. share half f b ts ≤ℤ share half f (if t then b else a) ts) (sym e) (omega (arith, ints)))
    (λ p. let e : int_lt (share half f a ts) (share half f b ts) ≡ false = grind (arith, ints, nat_tests) in subst (λ t. share half f b ts ≤ℤ share half f (if t then b else a) ts) (sym e) (omega (arith, ints)))

trans_le : (a b c : ℤ) → a ≤ℤ b → b ≤ℤ c → a ≤ℤ c
trans_le a b c p q = omega (arith, ints)

-- no value in range gives the sum more
pub best_is_most : (half : ℤ) (f : ℕ) (ts : List Term) (x : ℤ) → IsBetween (pos 0) (half +ℤ half) x → share half f x ts ≤ℤ share half f (best_of half f ts) ts
unfolding best_of
best_is_most half f ts x r =
    let low = better_of half f ts (pos 0) (half -ℤ pos 1) in
    let high = better_of half f ts half ((half +ℤ half) -ℤ pos 1) in
    let l = better_first half f ts low high in
    let h = better_second half f ts low high in
    corners half (better_of half f ts low high) f ts
    (trans_le _ _ _ (better_first half f ts (pos 0) (half -ℤ pos 1)) l) (trans_le _ _ _ (better_second half f ts (pos 0) (half -ℤ pos 1)) l)
    (trans_le _ _ _ (better_first half f ts half ((half +ℤ half) -ℤ pos 1)) h) (trans_le _ _ _ (better_second half f ts half ((half +ℤ half) -ℤ pos 1)) h) x r

better_range : (half : ℤ) (f : ℕ) (ts : List Term) (a b : ℤ) → IsBetween (pos 0) (half +ℤ half) a → IsBetween (pos 0) (half +ℤ half) b → IsBetween (pos 0) (half +ℤ half) (better_of half f ts a b)
better_range half f ts a b p q = either (int_lt (share half f a ts) (share half f b ts))
  where
    either : (t : Bool) → IsBetween (pos 0) (half +ℤ half) (if t then b else a)
    either true = q
    either false = p

pub best_in_range : (half : ℤ) (f : ℕ) (ts : List Term) → pos 1 ≤ℤ half → IsBetween (pos 0) (half +ℤ half) (best_of half f ts)
unfolding best_of
best_in_range half f ts p =
    better_range half f ts _ _
    (better_range half f ts (pos 0) (half -ℤ pos 1) (record { at_least = omega (arith, ints); below = omega (arith, ints) }) (record { at_least = omega (arith, ints); below = omega (arith, ints) }))
    (better_range half f ts half ((half +ℤ half) -ℤ pos 1) (record { at_least = omega (arith, ints); below = omega (arith, ints) }) (record { at_least = omega (arith, ints); below = omega (arith, ints) }))

-- the best value as the code has read its arguments
pub best_read : (half : ℤ) (f : ℕ) (ts : List Term) (half' x1 x3 l h y l' h' y' : ℤ) → l ≡ better_of half' f ts (pos 0) x1 → h ≡ better_of half' f ts half' x3 → y ≡ better_of half' f ts l' h'
    → half' ≡ half → x1 ≡ half -ℤ pos 1 → x3 ≡ (half +ℤ half) -ℤ pos 1 → l' ≡ l → h' ≡ h → y' ≡ y → y' ≡ best_of half f ts
unfolding best_of
best_read half f ts half' x1 x3 l h y l' h' y' p q r d e1 e3 k m n =
    n ∙ r ∙ ap (λ z. better_of z f ts l' h') d
    ∙ ap (λ z. better_of half f ts z h') (k ∙ p ∙ ap (λ z. better_of z f ts (pos 0) x1) d ∙ ap (better_of half f ts (pos 0)) e1)
    ∙ ap (better_of half f ts (better_of half f ts (pos 0) (half -ℤ pos 1))) (m ∙ q ∙ ap (λ z. better_of z f ts z x3) d ∙ ap (better_of half f ts half) e3)
