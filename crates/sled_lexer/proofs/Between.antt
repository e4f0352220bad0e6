-- Where the next lexeme begins is one place.
use Rattle.std.proofs.Common.{◌≡◌, ℕ, zero, suc, ◌+◌, ◌-◌, ◌<◌, ◌≤◌, Bool, true, false, List, [], ◌∷◌, ◌++◌, length, take, drop, arith, refl, ◌∙◌, ap, subst, get_or, length-drop, get_or-drop}
use Rattle.std.specs.Prelude.{◌&&◌, ◌||◌, ◌==◌, not}
use Rattle.std.proofs.lemmas.Bool.Decides.{nat_tests}
use Rattle.sled_lexer.specs.Spelled.{is_blank, is_gap, is_tail, begins_gap, hash, line_feed}
use Rattle.sled_lexer.specs.Lexemes.{IsGap}
use Rattle.sled_lexer.proofs.Starts.{clash}

-- ---- what follows whole blanks and comments, and is one of them, is a blank or begins a comment

hash_no_blank : (b : ℕ) → (b == hash) ≡ true → is_blank b ≡ false
hash_no_blank b h = grind (arith, nat_tests)

first_gap : (b : ℕ) (v : List ℕ) → is_gap false (b ∷ v) ≡ true → begins_gap b ≡ true
first_gap b v h = by_test (b == hash) (is_blank b) refl refl h
  where
    by_test : (x y : Bool) → (b == hash) ≡ x → is_blank b ≡ y → ((x && is_gap true v) || (y && is_gap false v)) ≡ true → (y || x) ≡ true
    by_test true true e f h = refl
    by_test true false e f h = refl
    by_test false true e f h = refl
    by_test false false e f h = absurd cc

or_first : (x : Bool) → (x || false) ≡ true → x ≡ true
or_first true h = refl
or_first false h = absurd cc

gap_test : (a : ℕ) (u v : List ℕ) (b : ℕ) (x y : Bool) → (a == hash) ≡ x → is_blank a ≡ y
    → (is_gap true u ≡ true → is_gap true (u ++ b ∷ v) ≡ true → begins_gap b ≡ true) → (is_gap false u ≡ true → is_gap false (u ++ b ∷ v) ≡ true → begins_gap b ≡ true)
    → ((x && is_gap true u) || (y && is_gap false u)) ≡ true → ((x && is_gap true (u ++ b ∷ v)) || (y && is_gap false (u ++ b ∷ v))) ≡ true → begins_gap b ≡ true
gap_test a u v b true true p q again more h e = clash _ q (hash_no_blank a p)
gap_test a u v b true false p q again more h e = again (or_first _ h) (or_first _ e)
gap_test a u v b false true p q again more h e = more h e
gap_test a u v b false false p q again more h e = absurd cc

gap_next : (c : Bool) (u v : List ℕ) (b : ℕ) → is_gap c u ≡ true → is_gap c (u ++ b ∷ v) ≡ true → begins_gap b ≡ true
gap_next true [] v b h e = absurd cc
gap_next false [] v b h e = first_gap b v e
gap_next true (a ∷ u) v b h e = gap_next (not (a == line_feed)) u v b h e
gap_next false (a ∷ u) v b h e = gap_test a u v b (a == hash) (is_blank a) refl refl (gap_next true u v b) (gap_next false u v b) h e

first_tail : (x y : Bool) (b : ℕ) (v : List ℕ) → (b == hash) ≡ x → is_blank b ≡ y → ((x && is_tail true v) || (y && is_tail false v)) ≡ true → (y || x) ≡ true
first_tail true true b v e f h = refl
first_tail true false b v e f h = refl
first_tail false true b v e f h = refl
first_tail false false b v e f h = absurd cc

tail_test : (a : ℕ) (u v : List ℕ) (b : ℕ) (x y : Bool) → (a == hash) ≡ x → is_blank a ≡ y
    → (is_gap true u ≡ true → is_tail true (u ++ b ∷ v) ≡ true → begins_gap b ≡ true) → (is_gap false u ≡ true → is_tail false (u ++ b ∷ v) ≡ true → begins_gap b ≡ true)
    → ((x && is_gap true u) || (y && is_gap false u)) ≡ true → ((x && is_tail true (u ++ b ∷ v)) || (y && is_tail false (u ++ b ∷ v))) ≡ true → begins_gap b ≡ true
tail_test a u v b true true p q again more h e = clash _ q (hash_no_blank a p)
tail_test a u v b true false p q again more h e = again (or_first _ h) (or_first _ e)
tail_test a u v b false true p q again more h e = more h e
tail_test a u v b false false p q again more h e = absurd cc

tail_next : (c : Bool) (u v : List ℕ) (b : ℕ) → is_gap c u ≡ true → is_tail c (u ++ b ∷ v) ≡ true → begins_gap b ≡ true
tail_next true [] v b h e = absurd cc
tail_next false [] v b h e = first_tail (b == hash) (is_blank b) b v refl refl e
tail_next true (a ∷ u) v b h e = tail_next (not (a == line_feed)) u v b h e
tail_next false (a ∷ u) v b h e = tail_test a u v b (a == hash) (is_blank a) refl refl (tail_next true u v b) (tail_next false u v b) h e

split_whole : (xs : List ℕ) (k : ℕ) → k < length xs → xs ≡ take k xs ++ get_or xs k 0 ∷ drop (suc k) xs
split_whole [] k below = absurd (omega arith)
split_whole (x ∷ xs) zero below = refl
split_whole (x ∷ xs) (suc k) below = ap (λ z. x ∷ z) (split_whole xs k (omega arith))

-- ---- the place

-- a front of a list, one element, and what is behind it up to n
split_front : (xs : List ℕ) (k n : ℕ) → k < n → n ≤ length xs → take n xs ≡ take k xs ++ get_or xs k 0 ∷ drop (suc k) (take n xs)
split_front [] k n below within = absurd (omega arith)
split_front (x ∷ xs) zero zero below within = absurd (omega arith)
split_front (x ∷ xs) zero (suc n) below within = refl
split_front (x ∷ xs) (suc k) zero below within = absurd (omega arith)
split_front (x ∷ xs) (suc k) (suc n) below within = ap (λ z. x ∷ z) (split_front xs k n (omega arith) (omega arith))

drop_first : (text : List ℕ) (at a : ℕ) → at ≤ a → get_or (drop at text) (a - at) 0 ≡ get_or text a 0
drop_first text at a order = let place : at + (a - at) ≡ a = omega arith in rw get_or-drop (ap (λ z. get_or text z 0) place)

-- behind a gap that ends before a byte of none, no longer gap stands
pub no_later : (text : List ℕ) (at a b : ℕ) → IsGap text at a → begins_gap (get_or text a 0) ≡ false → IsGap text at b → a < b → ⊥
no_later text at a b ga stops gb less =
    let k : ℕ = a - at in
    let n : ℕ = b - at in
    let rest : List ℕ = drop at text in
    let below : k < n = omega (arith, ga.0, less) in
    let within : n ≤ length rest = omega (arith, length-drop at text, gb.1, gb.0) in
    let inside : is_gap false (take k rest ++ get_or rest k 0 ∷ drop (suc k) (take n rest)) ≡ true = subst (λ z. is_gap false z ≡ true) (split_front rest k n below within) gb.2 in
    let gap : begins_gap (get_or rest k 0) ≡ true = gap_next false (take k rest) (drop (suc k) (take n rest)) (get_or rest k 0) ga.2 inside in
    clash _ gap (ap begins_gap (drop_first text at a ga.0) ∙ stops)

-- two gaps from one place, each before a byte of none, end at one place
pub same_start : (text : List ℕ) (at a b : ℕ) → IsGap text at a → begins_gap (get_or text a 0) ≡ false → IsGap text at b → begins_gap (get_or text b 0) ≡ false → a ≡ b
same_start text at a b ga sa gb sb =
    let no1 : a < b → ⊥ = no_later text at a b ga sa gb in
    let no2 : b < a → ⊥ = no_later text at b a gb sb ga in
    omega arith

-- behind a gap that ends before a byte of none, more than blanks and comments stands
pub no_tail : (text : List ℕ) (at a : ℕ) → IsGap text at a → begins_gap (get_or text a 0) ≡ false → is_tail false (drop at text) ≡ true → ⊥
no_tail text at a ga stops tail =
    let k : ℕ = a - at in
    let rest : List ℕ = drop at text in
    let below : k < length rest = omega (arith, length-drop at text, ga.0, ga.1) in
    let inside : is_tail false (take k rest ++ get_or rest k 0 ∷ drop (suc k) rest) ≡ true = subst (λ z. is_tail false z ≡ true) (split_whole rest k below) tail in
    let gap : begins_gap (get_or rest k 0) ≡ true = tail_next false (take k rest) (drop (suc k) rest) (get_or rest k 0) ga.2 inside in
    clash _ gap (ap begins_gap (drop_first text at a ga.0) ∙ stops)
