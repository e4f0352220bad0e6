-- The number that has given slices is the only one.
use Rattle.std.proofs.Common.{ℕ, ◌+◌, ◌*◌, ◌/◌, ◌%◌, ◌^◌, ◌-◌, ◌≡◌, ◌<◌, ◌≤◌, List, [], ◌∷◌, ap, sym, ◌∙◌, arith, subst, length, drop, get_or}
use Rattle.std.proofs.lemmas.Nat.{pow-add, shr-shr, shr_split, div-mul-add, mul-add-lt}
use Rattle.std.proofs.lemmas.List.{drop_more, at_drop_all}
use Rattle.std.proofs.Math.Nat.{div-one, mul-add-mod_self_right, mod-eq_of_lt, pow-le-pow_right}
use Rattle.eq_solver.specs.Pieces.{Piece}
use Rattle.eq_solver.specs.Pieces.{IsChain, AreSmall, Matches, assembled}

by_one : (x top : ℕ) → top ≡ 0 → x / 2 ^ top ≡ x
by_one x top e = ap (λ k. x / 2 ^ k) e ∙ div-one x

-- what lies above the pieces
high_part : (top high : ℕ) (ps : List Piece) → IsChain top ps → AreSmall ps → assembled high ps / 2 ^ top ≡ high
high_part top high [] c s = by_one high top c
high_part top high (p ∷ ps) c s =
    let h = high_part p.low (high * 2 ^ p.width + p.value) ps c.1 s.1 in
    ap (λ k. assembled (high * 2 ^ p.width + p.value) ps / 2 ^ k) (sym c.0)
    ∙ sym (shr-shr (assembled (high * 2 ^ p.width + p.value) ps) p.low p.width)
    ∙ ap (λ k. k / 2 ^ p.width) h ∙ div-mul-add high (2 ^ p.width) p.value s.0

rest_of : (a w b : ℕ) → b < w → (a * w + b) % w ≡ b
rest_of a w b l = mul-add-mod_self_right a w b ∙ mod-eq_of_lt l

pub assembled_matches : (top high : ℕ) (ps : List Piece) → IsChain top ps → AreSmall ps → Matches (assembled high ps) ps
assembled_matches top high [] c s = tt
assembled_matches top high (p ∷ ps) c s = (
  ap (λ k. k % 2 ^ p.width) (high_part p.low (high * 2 ^ p.width + p.value) ps c.1 s.1) ∙ rest_of high (2 ^ p.width) p.value s.0,
  assembled_matches p.low (high * 2 ^ p.width + p.value) ps c.1 s.1,
)

pub only_assembled : (x top high : ℕ) (ps : List Piece) → IsChain top ps → x / 2 ^ top ≡ high → Matches x ps → x ≡ assembled high ps
only_assembled x top high [] c h m = sym (by_one x top c) ∙ h
only_assembled x top high (p ∷ ps) c h m =
    only_assembled x p.low (high * 2 ^ p.width + p.value) ps c.1
    (sym (shr_split (x / 2 ^ p.low) p.width) ∙ ap (λ k. k * 2 ^ p.width + x / 2 ^ p.low % 2 ^ p.width) (shr-shr x p.low p.width ∙ ap (λ k. x / 2 ^ k) c.0 ∙ h) ∙ ap (λ k. high * 2 ^ p.width + k) m.0) m.1

-- where a loop over the pieces stands: `top` bits are left
pub record Ends (number : ℕ) (rest : List Piece) (whole : ℕ) : Type 0 where
  pub top : ℕ
  pub most : top ≤ 32
  pub chain : IsChain top rest
  pub small : AreSmall rest
  pub within : number < 2 ^ (32 - top)
  pub ends : assembled number rest ≡ whole

joined_below : (number top low width value : ℕ) → top ≤ 32 → low + width ≡ top → number < 2 ^ (32 - top) → value < 2 ^ width → number * 2 ^ width + value < 2 ^ (32 - low)
joined_below number top low width value m c n v =
    let e : width + (32 - top) ≡ 32 - low = omega arith in
    subst (λ k. number * 2 ^ width + value < k) (sym (pow-add 2 width (32 - top)) ∙ ap (λ k. 2 ^ k) e) (mul-add-lt number (2 ^ width) value (2 ^ (32 - top)) n v)

pub more : (number : ℕ) (p : Piece) (rest : List Piece) (whole : ℕ) → Ends number (p ∷ rest) whole → Ends (number * 2 ^ p.width + p.value) rest whole
more number p rest whole e = record {
  top = p.low;
  most = omega (arith, e.most, e.chain.0);
  chain = e.chain.1;
  small = e.small.1;
  within = joined_below number e.top p.low p.width p.value e.most e.chain.0 e.within e.small.0;
  ends = e.ends;
}

-- a number has room for the next piece
pub room : (number : ℕ) (p : Piece) (rest : List Piece) (whole : ℕ) → Ends number (p ∷ rest) whole → number < 2 ^ (32 - p.width)
room number p rest whole e =
    let a : 32 - e.top ≤ 32 - p.width = omega (arith, e.chain.0) in
    let b : 0 < 2 = omega arith in
    let c = pow-le-pow_right b a in
    let d = e.within in
    least _ _ _ d c
  where
    least : (x a b : ℕ) → x < a → a ≤ b → x < b
    least x a b l m = omega arith

div_high : (x : ℕ) → x < 2 ^ 32 → x / 2 ^ 32 ≡ 0
div_high x h = omega arith

pub only_number : (ps : List Piece) → IsChain 32 ps → (x : ℕ) → x < 2 ^ 32 → Matches x ps → x ≡ assembled 0 ps
only_number ps c x l m = only_assembled x 32 0 ps c (div_high x l) m

pub number_below : (ps : List Piece) → IsChain 32 ps → AreSmall ps → assembled 0 ps < 2 ^ 32
number_below ps c s = small_high (assembled 0 ps) (high_part 32 0 ps c s)
  where
    small_high : (x : ℕ) → x / 2 ^ 32 ≡ 0 → x < 2 ^ 32
    small_high x e = omega arith
