-- Sliced operands, one slice after the other.
use Rattle.std.proofs.Common.{ℕ, zero, suc, ◌+◌, ◌-◌, ◌*◌, ◌%◌, ◌^◌, ◌≡◌, ◌≢◌, ◌==◌, ◌<◌, ◌≤◌, ◌⊎◌, inl, inr, Bool, true, false, if◌then◌else◌, List, [], ◌∷◌, length, drop, get_or, slice_get, Some, None, Option, All, ℤ, pos, negsuc, ◌+ℤ◌, ◌<ℤ◌, unsigned_abs, Fits, FitsSigned, rules, refl, ap, sym, ◌∙◌, arith, subst, w64, to_z, of_z}
use Rattle.std.proofs.lemmas.Int.{ints, to_z-of_z}
use Rattle.std.proofs.lemmas.Bool.{cases_eq}
use Rattle.std.proofs.lemmas.Bool.Decides.{nat_tests}
use Rattle.std.proofs.lemmas.List.{drop_more, at_drop_all}
use Rattle.std.proofs.lemmas.Nat.{pow-add, mul-add-lt}
use Rattle.std.proofs.Math.Nat.{pow-le-pow_right}
use Rattle.sled_model.specs.declared.constructor.Atom.{Atom}
use Rattle.sled_model.specs.declared.constructor.Atom.TheVariants.{Name, Field, Signed, Slice, Label}
use Rattle.sled_model.specs.Equations.{Setting, IsBetween}
use Rattle.eq_solver.specs.Pieces.{Piece}
use Rattle.eq_solver.specs.declared.plan.Value.{Value}
use Rattle.eq_solver.specs.Pieces.{IsChain, AreSmall, assembled}
use Rattle.eq_solver.specs.Values.{is_slice_of}
use Rattle.eq_solver.specs.Given.{value_at, IsTargetOf, FitsSlice, HasRoom, HasSlice, piece_of, with_piece, pieces_of, IsMadeOf}
use Rattle.eq_solver.proofs.Assembly.{Ends, more, room}

-- ---- one more slice

shifted_sum : (x p y : ℕ) → x * p + y < 2 ^ 32 → x * p % 18446744073709551616 + y ≡ x * p + y
shifted_sum x p y l = omega arith

small_sum : (h width l : ℕ) → width ≤ 32 → h < 2 ^ (32 - width) → l < 2 ^ width → h * 2 ^ width + l < 2 ^ 32
small_sum h width l w p q =
    let e : width + (32 - width) ≡ 32 = omega arith in
    subst (λ k. h * 2 ^ width + l < k) (sym (pow-add 2 width (32 - width)) ∙ ap (λ k. 2 ^ k) e) (mul-add-lt h (2 ^ width) l (2 ^ (32 - width)) p q)

pub below_of : (n : ℕ) (x : ℤ) → IsBetween (pos 0) (pos n) x → unsigned_abs x < n
below_of n (pos x) b = let l = b.below in omega (arith, ints)
below_of n (negsuc x) b = let l = b.at_least in absurd (omega (arith, ints))

pub joined_below : (high low : ℤ) (width : ℕ) → width ≤ 32 → IsBetween (pos 0) (pos (2 ^ (32 - width))) high → IsBetween (pos 0) (pos (2 ^ width)) low → unsigned_abs high * 2 ^ width + unsigned_abs low < 2 ^ 32
joined_below high low width w h l = small_sum (unsigned_abs high) width (unsigned_abs low) w (below_of (2 ^ (32 - width)) high h) (below_of (2 ^ width) low l)

pub joined_sum : (high low : ℤ) (width : ℕ) → width ≤ 32 → IsBetween (pos 0) (pos (2 ^ (32 - width))) high → IsBetween (pos 0) (pos (2 ^ width)) low → FitsSigned w64 high → FitsSigned w64 low
    → unsigned_abs (to_z w64 (of_z w64 high)) * 2 ^ width % 18446744073709551616 + unsigned_abs (to_z w64 (of_z w64 low)) ≡ unsigned_abs high * 2 ^ width + unsigned_abs low
joined_sum high low width w h l f g =
    ap (λ z. unsigned_abs z * 2 ^ width % 18446744073709551616 + unsigned_abs (to_z w64 (of_z w64 low))) (to_z-of_z w64 high f)
    ∙ ap (λ z. unsigned_abs high * 2 ^ width % 18446744073709551616 + unsigned_abs z) (to_z-of_z w64 low g)
    ∙ shifted_sum (unsigned_abs high) (2 ^ width) (unsigned_abs low) (joined_below high low width w h l)

pub fits_32 : (n : ℕ) → n < 2 ^ 32 → Fits w64 n
fits_32 n l = search (rules, l)

pub signed_32 : (n : ℕ) → n < 2 ^ 32 → FitsSigned w64 (pos n)
signed_32 n l = search (rules, l)

pub read_32 : (n : ℕ) → n < 2 ^ 32 → to_z w64 n ≡ pos n
read_32 n l = omega (arith, ints)

-- ---- all slices

module _ (w : Setting) (v : ℕ → ℤ) (gs : List Value) (fits : (j : ℕ) (g : Value) → slice_get gs j ≡ Some g → FitsSlice w v g g.target) where
  small_piece : (k : ℕ) (g : Value) (a : Atom) (ps : List Piece) → FitsSlice w v g a → AreSmall ps → AreSmall (if is_slice_of k a then (piece_of w v g a ∷ ps) else ps)
  small_piece k g (Slice j lo hi) ps f s = either (j == k)
    where
      either : (b : Bool) → AreSmall (if b then (piece_of w v g (Slice j lo hi) ∷ ps) else ps)
      either true = (below_of (2 ^ (hi - lo + 1)) (value_at w v g) f, s)
      either false = s
  small_piece k g (Name j) ps f s = s
  small_piece k g (Field j) ps f s = s
  small_piece k g (Signed j) ps f s = s
  small_piece k g (Label j) ps f s = s

  small_at : (k n : ℕ) (o : Option Value) (ps : List Piece) → slice_get gs n ≡ o → AreSmall ps → AreSmall (with_piece w v k o ps)
  small_at k n None ps e s = s
  small_at k n (Some g) ps e s = small_piece k g g.target ps (fits n g e) s

  pub small_pieces : (k : ℕ) (ns : List ℕ) → AreSmall (pieces_of w v gs k ns)
  small_pieces k [] = tt
  small_pieces k (n ∷ ns) = small_at k n (slice_get gs n) (pieces_of w v gs k ns) refl (small_pieces k ns)

-- where a loop over the numbers stands: `rest` are the pieces that are left
abbrev pub IsPartlyMade : List Piece → List Piece → ℤ → ℤ → Type 0
IsPartlyMade ps rest old new = ((ps ≡ []) × (rest ≡ []) × (new ≡ old)) ⊎ ((n : ℕ) × (old ≡ pos 0) × IsChain 32 ps × (new ≡ pos n) × Ends n rest (assembled 0 ps))

pub begun : (ps : List Piece) (old new : ℤ) → AreSmall ps → new ≡ old → (ps ≡ []) ⊎ ((old ≡ pos 0) × IsChain 32 ps) → IsPartlyMade ps ps old new
begun ps old new s e (inl n) = inl (n, n, e)
begun ps old new s e (inr c) = inr (0, c.0, c.1, e ∙ c.0, record { top = 32; most = omega arith; chain = c.1; small = s; within = omega arith; ends = refl })

pub finished : (ps : List Piece) (old new : ℤ) → IsPartlyMade ps [] old new → IsMadeOf ps old new
finished ps old new (inl n) = inl (n.0, n.2)
finished ps old new (inr c) = inr (c.1, c.2, c.3 ∙ ap pos c.4.ends)

not_empty : {A : Type 0} (x : A) (xs : List A) → x ∷ xs ≡ [] → ⊥
not_empty x xs e = cc

room_in : (old' : ℤ) (n : ℕ) (p : Piece) (rest : List Piece) (whole : ℕ) → old' ≡ pos n → Ends n (p ∷ rest) whole → IsBetween (pos 0) (pos (2 ^ (32 - p.width))) old'
room_in old' n p rest whole e d = subst (IsBetween (pos 0) (pos (2 ^ (32 - p.width)))) (sym e) (record { at_least = omega (arith, ints); below = (let r = room n p rest whole d in as_z n _ r) })
  where
    as_z : (n m : ℕ) → n < m → pos n <ℤ pos m
    as_z n m l = omega (arith, ints)

same_slice : (k lo hi : ℕ) → is_slice_of k (Slice k lo hi) ≡ true
same_slice k lo hi = grind (arith, nat_tests)

module _ (w : Setting) (v : ℕ → ℤ) (g : Value) (old : ℕ → ℤ) (ps : ℕ → List Piece) (rest : ℕ → List Piece) where
  -- before the slice of this value is read, the operand has room for it
  pub room_before : (a : Atom) (out : ℕ → ℤ) → ((k : ℕ) → IsPartlyMade (ps k) (if is_slice_of k a then (piece_of w v g a ∷ rest k) else rest k) (old k) (out k)) → HasRoom out a
  room_before (Slice j lo hi) out h = by_case (subst (λ (b : Bool). IsPartlyMade (ps j) (if b then (piece_of w v g (Slice j lo hi) ∷ rest j) else rest j) (old j) (out j)) (same_slice j lo hi) (h j))
    where
      by_case : IsPartlyMade (ps j) (piece_of w v g (Slice j lo hi) ∷ rest j) (old j) (out j) → IsBetween (pos 0) (pos (2 ^ (32 - (hi - lo + 1)))) (out j)
      by_case (inl n) = absurd (not_empty _ _ n.1)
      by_case (inr c) = room_in (out j) c.0 (piece_of w v g (Slice j lo hi)) (rest j) (assembled 0 (ps j)) c.3 c.4
  room_before (Name j) out h = tt
  room_before (Field j) out h = tt
  room_before (Signed j) out h = tt
  room_before (Label j) out h = tt

  slice_read : (j lo hi k : ℕ) (out new : ℕ → ℤ) (b : Bool) → (j == k) ≡ b → HasSlice (value_at w v g) (Slice j lo hi) out new
      → IsPartlyMade (ps k) (if b then (piece_of w v g (Slice j lo hi) ∷ rest k) else rest k) (old k) (out k) → IsPartlyMade (ps k) (rest k) (old k) (new k)
  slice_read j lo hi k out new true e s (inl n) = absurd (not_empty _ _ n.1)
  slice_read j lo hi k out new true e s (inr c) =
      let same : j ≡ k = grind (arith, nat_tests) in
      let p = piece_of w v g (Slice j lo hi) in
      inr (c.0 * 2 ^ p.width + p.value, c.1, c.2, ap new (sym same) ∙ s.0 ∙ ap (λ z. pos (unsigned_abs z * 2 ^ p.width + p.value)) (ap out same ∙ c.3), more c.0 p (rest k) (assembled 0 (ps k)) c.4)
  slice_read j lo hi k out new false e s h = let other : k ≢ j = grind (arith, nat_tests) in subst (IsPartlyMade (ps k) (rest k) (old k)) (sym (s.1 k other)) h

  pub one_read : (a : Atom) (out new : ℕ → ℤ) → HasSlice (value_at w v g) a out new → ((k : ℕ) → IsPartlyMade (ps k) (if is_slice_of k a then (piece_of w v g a ∷ rest k) else rest k) (old k) (out k))
      → (k : ℕ) → IsPartlyMade (ps k) (rest k) (old k) (new k)
  one_read (Slice j lo hi) out new s h k = slice_read j lo hi k out new (j == k) refl s (h k)
  one_read (Name j) out new s h k = subst (IsPartlyMade (ps k) (rest k) (old k)) (sym (s k)) (h k)
  one_read (Field j) out new s h k = subst (IsPartlyMade (ps k) (rest k) (old k)) (sym (s k)) (h k)
  one_read (Signed j) out new s h k = subst (IsPartlyMade (ps k) (rest k) (old k)) (sym (s k)) (h k)
  one_read (Label j) out new s h k = subst (IsPartlyMade (ps k) (rest k) (old k)) (sym (s k)) (h k)

-- the pieces that are left, from the next number on
pub next_pieces : (w : Setting) (v : ℕ → ℤ) (gs : List Value) (ns : List ℕ) (i d : ℕ) (g : Value) → i < length ns → slice_get gs (get_or ns i d) ≡ Some g → (k : ℕ)
    → pieces_of w v gs k (drop i ns) ≡ (if is_slice_of k g.target then (piece_of w v g g.target ∷ pieces_of w v gs k (drop (i + 1) ns)) else pieces_of w v gs k (drop (i + 1) ns))
next_pieces w v gs ns i d g l e k = ap (pieces_of w v gs k) (drop_more ns i d l) ∙ ap (λ o. with_piece w v k o (pieces_of w v gs k (drop (i + 1) ns))) e
