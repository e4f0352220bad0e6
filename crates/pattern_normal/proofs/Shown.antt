-- Lists of alternatives, and what they say.
use Rattle.std.proofs.Common.{◌≡◌, ℕ, ◌+◌, ◌≤◌, max, Bool, true, false, ◌&&◌, cond, List, [], ◌∷◌, ◌++◌, map, filter, refl, ap, sym, ◌∙◌, arith, nat_le, nat_eq, ◌<◌, take, get_or, length}
use Rattle.std.specs.List.{flat_map}
use Rattle.std.proofs.lemmas.List.{map-append, append-nil, append_assoc, take_more}
use Rattle.std.proofs.lemmas.List.Elements.{filter-append}
use Rattle.std.proofs.lemmas.Bool.{le-leb, leb-true, eqb-true, eq-eqb}
use Rattle.bit_cases.proofs.MeetsTest.{same_bool, meets-true}
use Rattle.std.proofs.lemmas.List.Concat.{flat_map-append}
use Rattle.token_bits.specs.declared.tokens.Tokens.{Tokens}
use Rattle.sled_model.specs.declared.raw.Match.{Match}
use Rattle.sled_model.specs.Results.{agrees, both_match, chain_match}
use Rattle.pattern_normal.specs.declared.alternative.Alternative.{Alternative}
use Rattle.pattern_normal.specs.Alternatives.{is_met, seen, shown, ended, both_ended, chain_ended, both_row, chain_row}

module _ (tokens : Tokens) (w : List ℕ) where
  pub shown-append : (xs ys : List Alternative) → shown tokens w (xs ++ ys) ≡ shown tokens w xs ++ shown tokens w ys
  shown-append xs ys = ap (map (seen tokens w)) (filter-append (is_met w) xs ys) ∙ map-append (seen tokens w) (filter (is_met w) xs) (filter (is_met w) ys)

  pub both_row-append : (a : Alternative) (xs ys : List Alternative) → both_row tokens w a (xs ++ ys) ≡ both_row tokens w a xs ++ both_row tokens w a ys
  both_row-append a xs ys =
      let f = both_ended (seen tokens w a) in let p = agrees (seen tokens w a) in
      elim (is_met w a) as (λ b. cond b (map f (filter p (shown tokens w (xs ++ ys)))) [] ≡ cond b (map f (filter p (shown tokens w xs))) [] ++ cond b (map f (filter p (shown tokens w ys))) [])
      [ true ↦ ap (λ z. map f (filter p z)) (shown-append xs ys) ∙ ap (map f) (filter-append p (shown tokens w xs) (shown tokens w ys)) ∙ map-append f (filter p (shown tokens w xs)) (filter p (shown tokens w ys)) | false ↦ refl ]

  pub chain_row-append : (a : Alternative) (xs ys : List Alternative) → chain_row tokens w a (xs ++ ys) ≡ chain_row tokens w a xs ++ chain_row tokens w a ys
  chain_row-append a xs ys =
      let f = chain_ended (seen tokens w a) in
      elim (is_met w a) as (λ b. cond b (map f (shown tokens w (xs ++ ys))) [] ≡ cond b (map f (shown tokens w xs)) [] ++ cond b (map f (shown tokens w ys)) [])
      [ true ↦ ap (map f) (shown-append xs ys) ∙ map-append f (shown tokens w xs) (shown tokens w ys) | false ↦ refl ]

  -- one case with all of the others, as the product has it
  pub both_row-one : (a : Alternative) (ys : List Alternative) → flat_map (λ x. map (both_ended x) (filter (agrees x) (shown tokens w ys))) (shown tokens w (a ∷ [])) ≡ both_row tokens w a ys
  both_row-one a ys =
      let g = λ (x : Match). map (both_ended x) (filter (agrees x) (shown tokens w ys)) in
      elim (is_met w a) as (λ b. flat_map g (map (seen tokens w) (cond b (a ∷ []) [])) ≡ cond b (g (seen tokens w a)) [])
      [ true ↦ append-nil (g (seen tokens w a)) | false ↦ refl ]

-- ---- ends in place of lengths

leb_shift : (k x y : ℕ) → nat_le (k + x) (k + y) ≡ nat_le x y
leb_shift k x y = same_bool (nat_le (k + x) (k + y)) (nat_le x y) (λ e. le-leb x y (omega (arith, leb-true (k + x) (k + y) e))) (λ e. le-leb (k + x) (k + y) (omega (arith, leb-true x y e)))

eqb_shift : (k x y : ℕ) → nat_eq (k + x) (k + y) ≡ nat_eq x y
eqb_shift k x y = same_bool (nat_eq (k + x) (k + y)) (nat_eq x y) (λ e. eq-eqb x y (omega (arith, eqb-true (k + x) (k + y) e))) (λ e. eq-eqb (k + x) (k + y) (omega (arith, eqb-true x y e)))

agrees-ended : (at : ℕ) (a b : Match) → agrees (ended at a) (ended at b) ≡ agrees a b
agrees-ended at a b =
    ap (λ t. cond a.loose (cond b.loose true t) (cond b.loose (nat_le (at + b.len) (at + a.len)) (nat_eq (at + a.len) (at + b.len)))) (leb_shift at a.len b.len)
    ∙ ap (λ t. cond a.loose (cond b.loose true (nat_le a.len b.len)) (cond b.loose t (nat_eq (at + a.len) (at + b.len)))) (leb_shift at b.len a.len)
    ∙ ap (λ t. cond a.loose (cond b.loose true (nat_le a.len b.len)) (cond b.loose (nat_le b.len a.len) t)) (eqb_shift at a.len b.len)

both_match-ended : (at : ℕ) (a b : Match) → both_ended (ended at a) (ended at b) ≡ ended at (both_match a b)
both_match-ended at a b = let e : max (at + a.len) (at + b.len) ≡ at + max a.len b.len = omega arith in
    ap (λ (n : ℕ). let f : Match = record { binds = a.binds ++ b.binds; len = n; loose = a.loose && b.loose } in f) e

both_match-ended_row : (at : ℕ) (a : Match) (bs : List Match) → map (both_ended (ended at a)) (filter (agrees (ended at a)) (map (ended at) bs)) ≡ map (ended at) (map (both_match a) (filter (agrees a) bs))
both_match-ended_row at a [] = refl
both_match-ended_row at a (b ∷ bs) =
    let f = both_ended (ended at a) in let more = filter (agrees (ended at a)) (map (ended at) bs) in let rest = filter (agrees a) bs in
    let ih : map f more ≡ map (ended at) (map (both_match a) rest) = both_match-ended_row at a bs in
    ap (λ t. map f (cond t (ended at b ∷ more) more)) (agrees-ended at a b)
    ∙ (elim (agrees a b) as (λ t. map f (cond t (ended at b ∷ more) more) ≡ map (ended at) (map (both_match a) (cond t (b ∷ rest) rest)))
    [ true ↦ ap (λ x. x ∷ map f more) (both_match-ended at a b) ∙ ap (λ xs. ended at (both_match a b) ∷ xs) ih | false ↦ ih ])

pub product-ended : (at : ℕ) (fs bs : List Match)
    → flat_map (λ x. map (both_ended x) (filter (agrees x) (map (ended at) bs))) (map (ended at) fs) ≡ map (ended at) (flat_map (λ a. map (both_match a) (filter (agrees a) bs)) fs)
product-ended at [] bs = refl
product-ended at (a ∷ fs) bs =
    ap (λ z. z ++ flat_map (λ x. map (both_ended x) (filter (agrees x) (map (ended at) bs))) (map (ended at) fs)) (both_match-ended_row at a bs)
    ∙ ap (λ z. map (ended at) (map (both_match a) (filter (agrees a) bs)) ++ z) (product-ended at fs bs)
    ∙ sym (map-append (ended at) (map (both_match a) (filter (agrees a) bs)) (flat_map (λ y. map (both_match y) (filter (agrees y) bs)) fs))

chain_match-ended_row : (at : ℕ) (a : Match) (bs : List Match) → map (chain_ended (ended at a)) (map (ended (at + a.len)) bs) ≡ map (ended at) (map (chain_match a) bs)
chain_match-ended_row at a [] = refl
chain_match-ended_row at a (b ∷ bs) =
    let e : (at + a.len) + b.len ≡ at + (a.len + b.len) = omega arith in
    ap (λ (n : ℕ). let f : Match = record { binds = a.binds ++ b.binds; len = n; loose = b.loose } in f ∷ map (chain_ended (ended at a)) (map (ended (at + a.len)) bs)) e
    ∙ ap (λ xs. ended at (chain_match a b) ∷ xs) (chain_match-ended_row at a bs)

-- each result of the first, with those of the second at its end
pub chain-ended : (at : ℕ) (q : ℕ → List Match) (fs : List Match)
    → flat_map (λ x. map (chain_ended x) (map (ended x.len) (q x.len))) (map (ended at) fs) ≡ map (ended at) (flat_map (λ a. map (chain_match a) (q (at + a.len))) fs)
chain-ended at q [] = refl
chain-ended at q (a ∷ fs) =
    ap (λ z. z ++ flat_map (λ x. map (chain_ended x) (map (ended x.len) (q x.len))) (map (ended at) fs)) (chain_match-ended_row at a (q (at + a.len)))
    ∙ ap (λ z. map (ended at) (map (chain_match a) (q (at + a.len))) ++ z) (chain-ended at q fs)
    ∙ sym (map-append (ended at) (map (chain_match a) (q (at + a.len))) (flat_map (λ y. map (chain_match y) (q (at + y.len))) fs))

-- ---- loops

module _ (tokens : Tokens) (w : List ℕ) where
  -- one more of the others
  pub grown : (row : List Alternative → List Match) → ((xs ys : List Alternative) → row (xs ++ ys) ≡ row xs ++ row ys) → (before : List Match) (cases more others : List Alternative) (i : ℕ) (b : Alternative)
      → i < length others → b ≡ get_or others i b → shown tokens w cases ≡ before ++ row (take i others) → shown tokens w more ≡ row (b ∷ [])
      → shown tokens w (cases ++ more) ≡ before ++ row (take (i + 1) others)
  grown row apart before cases more others i b l is so_far next =
      shown-append tokens w cases more ∙ ap (λ z. z ++ shown tokens w more) so_far ∙ ap (λ z. (before ++ row (take i others)) ++ z) next
      ∙ append_assoc before (row (take i others)) (row (b ∷ []))
      ∙ ap (λ z. before ++ z) (sym (apart (take i others) (b ∷ [])) ∙ ap row (ap (λ x. take i others ++ x ∷ []) is ∙ sym (take_more others i b l)))

module _ (tokens : Tokens) (w : List ℕ) where
  -- one case with what follows it
  follow_one : (q : ℕ → List Match) (a : Alternative) (ys : List Alternative) → (a.bits.len ≤ length w → shown tokens w ys ≡ map (ended a.bits.len) (q a.bits.len)) → (b : Bool) → is_met w a ≡ b
      → flat_map (λ x. map (chain_ended x) (map (ended x.len) (q x.len))) (map (seen tokens w) (cond b (a ∷ []) [])) ≡ cond b (map (chain_ended (seen tokens w a)) (shown tokens w ys)) []
  follow_one q a ys h true e = append-nil (map (chain_ended (seen tokens w a)) (map (ended a.bits.len) (q a.bits.len)))
      ∙ ap (map (chain_ended (seen tokens w a))) (sym (h (meets-true a.bits.mask a.bits.value a.bits.len w e).0))
  follow_one q a ys h false e = refl

  pub chain_row-one : (q : ℕ → List Match) (a : Alternative) (ys : List Alternative) → (a.bits.len ≤ length w → shown tokens w ys ≡ map (ended a.bits.len) (q a.bits.len))
      → flat_map (λ x. map (chain_ended x) (map (ended x.len) (q x.len))) (shown tokens w (a ∷ [])) ≡ chain_row tokens w a ys
  chain_row-one q a ys h = follow_one q a ys h (is_met w a) refl

  -- what the first cases and one more say
  pub shown_take : {A : Type 0} (g : Match → List A) (cs : List Alternative) (i : ℕ) (a : Alternative) → i < length cs → a ≡ get_or cs i a
      → flat_map g (shown tokens w (take (i + 1) cs)) ≡ flat_map g (shown tokens w (take i cs)) ++ flat_map g (shown tokens w (a ∷ []))
  shown_take g cs i a l is =
      ap (λ z. flat_map g (shown tokens w z)) (take_more cs i a l ∙ ap (λ x. take i cs ++ x ∷ []) (sym is))
      ∙ ap (flat_map g) (shown-append tokens w (take i cs) (a ∷ [])) ∙ flat_map-append g (shown tokens w (take i cs)) (shown tokens w (a ∷ []))
