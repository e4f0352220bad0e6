-- The longest mark at the front.
use Rattle.std.proofs.Common.{◌≡◌, ◌≢◌, ℕ, zero, suc, ◌<◌, ◌≤◌, inl, Bool, true, false, List, [], ◌∷◌, length, take, arith, refl, Ok, Err}
use Rattle.std.specs.Prelude.{◌&&◌, ◌==◌, nat_lt, if◌then◌else◌}
use Rattle.std.specs.Char.{is_ascii_alphabetic, is_ascii_digit}
use Rattle.std.proofs.lemmas.Bool.Decides.{nat_tests}
use Rattle.sled_lexer.specs.declared.Kind.{Kind}
use Rattle.sled_lexer.specs.declared.Kind.TheVariants as kind
use Rattle.sled_lexer.specs.declared.piece.Stop.TheVariants as stop
use Rattle.sled_lexer.specs.Spelled.{spelled, is_mark, quote, begins_gap}
use Rattle.sled_lexer.specs.Cut.{mark_cut, mark_len, IsPiece, Holds}
use Rattle.sled_lexer.proofs.Runs.{chosen}
use Rattle.sled_lexer.proofs.Starts.{no_start, empty_spells_nothing}

no_mark_of_four : (a b c d : ℕ) (t : List ℕ) → is_mark (a ∷ b ∷ c ∷ d ∷ t) ≡ false
no_mark_of_four a b c d t = grind (arith, nat_tests)

above_three : (s : List ℕ) (m : ℕ) → 3 < m → m ≤ length s → is_mark (take m s) ≡ false
above_three s zero h within = absurd (omega arith)
above_three s (suc zero) h within = absurd (omega arith)
above_three s (suc (suc zero)) h within = absurd (omega arith)
above_three s (suc (suc (suc zero))) h within = absurd (omega arith)
above_three [] (suc (suc (suc (suc m)))) h within = absurd (omega arith)
above_three (a ∷ []) (suc (suc (suc (suc m)))) h within = absurd (omega arith)
above_three (a ∷ b ∷ []) (suc (suc (suc (suc m)))) h within = absurd (omega arith)
above_three (a ∷ b ∷ c ∷ []) (suc (suc (suc (suc m)))) h within = absurd (omega arith)
above_three (a ∷ b ∷ c ∷ d ∷ s) (suc (suc (suc (suc m)))) h within = no_mark_of_four a b c d (take m s)

-- the test of a length that may not be there
guard_false : (n l : ℕ) (x : Bool) → (nat_lt n l && x) ≡ false → n < l → x ≡ false
guard_false n l x h below = grind (arith, nat_tests)

guard_true : (n l : ℕ) (x : Bool) → (nat_lt n l && x) ≡ true → (n < l) × (x ≡ true)
guard_true n l x h = (grind (arith, nat_tests), grind (arith, nat_tests))

module _ (s : List ℕ) (no_three : (nat_lt 2 (length s) && is_mark (take 3 s)) ≡ false) where
  above_two : (m : ℕ) → 2 < m → m ≤ length s → is_mark (take m s) ≡ false
  above_two zero h within = absurd (omega arith)
  above_two (suc zero) h within = absurd (omega arith)
  above_two (suc (suc zero)) h within = absurd (omega arith)
  above_two (suc (suc (suc zero))) h within = guard_false 2 _ _ no_three within
  above_two (suc (suc (suc (suc m)))) h within = above_three s (suc (suc (suc (suc m)))) (omega arith) within

  module _ (no_two : (nat_lt 1 (length s) && is_mark (take 2 s)) ≡ false) where
    above_one : (m : ℕ) → 1 < m → m ≤ length s → is_mark (take m s) ≡ false
    above_one zero h within = absurd (omega arith)
    above_one (suc zero) h within = absurd (omega arith)
    above_one (suc (suc zero)) h within = guard_false 1 _ _ no_two within
    above_one (suc (suc (suc m))) h within = above_two (suc (suc (suc m))) (omega arith) within

    above_none : is_mark (take 1 s) ≡ false → (m : ℕ) → m ≤ length s → is_mark (take m s) ≡ false
    above_none no_one zero within = refl
    above_none no_one (suc zero) within = no_one
    above_none no_one (suc (suc m)) within = above_one (suc (suc m)) (omega arith) within

module _ (b : ℕ) (bs : List ℕ) (no_letter : is_ascii_alphabetic b ≡ false) (no_digit : is_ascii_digit b ≡ false) (no_quote : (b == quote) ≡ false) where
  only_marks : (m : ℕ) → is_mark (take m (b ∷ bs)) ≡ false → (j : Kind) → spelled j (take m (b ∷ bs)) ≡ false
  only_marks zero test j = empty_spells_nothing j
  only_marks (suc m) test kind.Word = no_start kind.Word b (take m bs) no_letter
  only_marks (suc m) test kind.Number = no_start kind.Number b (take m bs) no_digit
  only_marks (suc m) test kind.Text = no_start kind.Text b (take m bs) no_quote
  only_marks (suc m) test kind.Mark = test

  mark_piece : (n : ℕ) → 0 < n → n ≤ length (b ∷ bs) → is_mark (take n (b ∷ bs)) ≡ true → ((m : ℕ) → n < m → m ≤ length (b ∷ bs) → is_mark (take m (b ∷ bs)) ≡ false) → IsPiece (b ∷ bs) kind.Mark n
  mark_piece n some fits test longest = record {
    some = some;
    piece = record { fits = fits; spells = test; longest = λ j m below within. only_marks m (longest m below within) j };
    in_range = λ e. absurd cc;
  }

  no_34 : b ≢ quote
  no_34 e = grind (arith, nat_tests)

  pub mark_holds : begins_gap b ≡ false → Holds (b ∷ bs) (mark_cut (b ∷ bs))
  unfolding mark_cut mark_len
  mark_holds no_gap =
      let s : List ℕ = b ∷ bs in
      let P : ℕ → Type 0 = λ n. Holds s (if n == 0 then Err (stop.BadByte 0) else Ok (kind.Mark, n)) in
      chosen P (nat_lt 2 (length s) && is_mark (take 3 s)) 3 _
      (λ yes. mark_piece 3 (omega arith) (guard_true 2 _ _ yes).0 (guard_true 2 _ _ yes).1 (above_three s)) (λ no3.
      chosen P (nat_lt 1 (length s) && is_mark (take 2 s)) 2 _
      (λ yes. mark_piece 2 (omega arith) (guard_true 1 _ _ yes).0 (guard_true 1 _ _ yes).1 (above_two s no3)) (λ no2.
      chosen P (is_mark (take 1 s)) 1 0
      (λ yes. mark_piece 1 (omega arith) (omega arith) yes (above_one s no3 no2)) (λ no1.
      inl (refl, record { some = omega arith; no_gap = no_gap; no_quote = no_34; no_piece = λ j m within. only_marks m (above_none s no3 no2 no1 m within) j }))))
