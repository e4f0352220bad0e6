-- The Text at the front, or where it breaks off.
use Rattle.std.proofs.Common.{◌≡◌, ◌≢◌, ℕ, zero, suc, ◌+◌, ◌<◌, ◌≤◌, ◌⊎◌, inl, inr, Bool, true, false, List, [], ◌∷◌, length, get_or, take, arith, refl, sym, ◌∙◌, subst, Err}
use Rattle.std.specs.Prelude.{◌||◌, ◌==◌, nat_le, slice_index, if◌then◌else◌}
use Rattle.std.proofs.lemmas.Bool.Decides.{nat_tests}
use Rattle.sled_lexer.specs.declared.Kind.{Kind}
use Rattle.sled_lexer.specs.declared.Kind.TheVariants as kind
use Rattle.sled_lexer.specs.declared.piece.Stop.TheVariants as stop
use Rattle.sled_lexer.specs.Spelled.{spelled, is_text_byte, is_closed, quote, line_feed}
use Rattle.sled_lexer.specs.Lexemes.{OpensText}
use Rattle.sled_lexer.specs.Cut.{Cut, run_len, text_cut, IsPiece, Holds}
use Rattle.sled_lexer.proofs.Runs.{chosen, longest_at, prefix_le, prefix_stop, prefix_each}
use Rattle.sled_lexer.proofs.Starts.{no_start, quote_no_mark}

-- ---- where a Text is closed

-- bytes of a Text up to a quotation mark close it only there
closed_step : (t : Bool) (b : ℕ) (bs : List ℕ) (m : ℕ) → is_text_byte b ≡ t
    → (is_closed (take m bs) ≡ true → (m ≡ suc (run_len is_text_byte bs)) × ((get_or bs (run_len is_text_byte bs) 0 == quote) ≡ true)) → m ≤ length bs → is_closed (b ∷ take m bs) ≡ true
    → (suc m ≡ suc (if t then suc (run_len is_text_byte bs) else 0)) × ((get_or (b ∷ bs) (if t then suc (run_len is_text_byte bs) else 0) 0 == quote) ≡ true)
closed_step true b bs zero is h within e = absurd (quote_no_text b is e)
  where
    quote_no_text : (b : ℕ) → is_text_byte b ≡ true → (b == quote) ≡ true → ⊥
    quote_no_text b h e = grind (arith, nat_tests)
closed_step true b [] (suc m) is h within e = absurd (omega arith)
closed_step true b (c ∷ bs) (suc m) is h within e = let r = h (rw is at e) in (omega (arith, r.0), r.1)
closed_step false b bs zero is h within e = (refl, e)
closed_step false b [] (suc m) is h within e = absurd (omega arith)
closed_step false b (c ∷ bs) (suc m) is h within e = absurd (let bad : false ≡ true = rw is at e in cc)

pub closed_only : (bs : List ℕ) (m : ℕ) → m ≤ length bs → is_closed (take m bs) ≡ true → (m ≡ suc (run_len is_text_byte bs)) × ((get_or bs (run_len is_text_byte bs) 0 == quote) ≡ true)
closed_only bs zero within e = absurd cc
closed_only [] (suc m) within e = absurd (omega arith)
closed_only (b ∷ bs) (suc m) within e = closed_step (is_text_byte b) b bs m refl (closed_only bs m (omega arith)) (omega arith) e

closed_there_step : (t : Bool) (b : ℕ) (bs : List ℕ) → is_text_byte b ≡ t
    → (run_len is_text_byte bs < length bs → (get_or bs (run_len is_text_byte bs) 0 == quote) ≡ true → is_closed (take (suc (run_len is_text_byte bs)) bs) ≡ true)
    → (if t then suc (run_len is_text_byte bs) else 0) < suc (length bs) → (get_or (b ∷ bs) (if t then suc (run_len is_text_byte bs) else 0) 0 == quote) ≡ true
    → is_closed (take (suc (if t then suc (run_len is_text_byte bs) else 0)) (b ∷ bs)) ≡ true
closed_there_step true b [] is h below e = absurd (omega arith)
closed_there_step true b (c ∷ bs) is h below e = rw is (h (omega arith) e)
closed_there_step false b bs is h below e = e

closed_there : (bs : List ℕ) → run_len is_text_byte bs < length bs → (get_or bs (run_len is_text_byte bs) 0 == quote) ≡ true → is_closed (take (suc (run_len is_text_byte bs)) bs) ≡ true
closed_there [] below e = absurd (omega arith)
closed_there (b ∷ bs) below e = closed_there_step (is_text_byte b) b bs refl (closed_there bs) below e

-- ---- what the code tests

false_from : (t : Bool) → (t ≡ true → ⊥) → t ≡ false
false_from true h = absurd (h refl)
false_from false h = refl

ends_at : (l n b c : ℕ) → n ≤ l → c ≡ b → (nat_le l n || b == line_feed) ≡ true → (suc n ≡ suc l) ⊎ (c ≡ line_feed)
ends_at l n b c within is h = cases (nat_le l n) refl h
  where
    cases : (t : Bool) → nat_le l n ≡ t → (t || b == line_feed) ≡ true → (suc n ≡ suc l) ⊎ (c ≡ line_feed)
    cases true e h = inl (let le : l ≤ n = grind (arith, nat_tests) in omega arith)
    cases false e h = inr (is ∙ (grind (arith, nat_tests)))

goes_on : (l n b : ℕ) → (nat_le l n || b == line_feed) ≡ false → (n < l) × (b ≢ line_feed)
goes_on l n b h = (grind (arith, nat_tests), λ e. grind (arith, nat_tests))

not_byte : (b c : ℕ) → (b == c) ≡ false → b ≢ c
not_byte b c h e = grind (arith, nat_tests)

module _ (b : ℕ) (bs : List ℕ) (opens : (b == quote) ≡ true) where
  text_beyond : (j : Kind) (m : ℕ) → suc (run_len is_text_byte bs) < m → m ≤ length bs → spelled j (b ∷ take m bs) ≡ false
  text_beyond kind.Word m below within = no_start kind.Word b (take m bs) (grind (arith, nat_tests))
  text_beyond kind.Number m below within = no_start kind.Number b (take m bs) (grind (arith, nat_tests))
  text_beyond kind.Text m below within = rw opens (false_from _ (λ e. let r = closed_only bs m within e in absurd (omega (arith, r.0))))
  text_beyond kind.Mark m below within = no_start kind.Mark b (take m bs) (quote_no_mark b opens)

  text_piece : run_len is_text_byte bs < length bs → (get_or bs (run_len is_text_byte bs) 0 == quote) ≡ true → IsPiece (b ∷ bs) kind.Text (suc (suc (run_len is_text_byte bs)))
  text_piece below e = record {
    some = omega arith;
    piece = record {
      fits = omega arith;
      spells = rw opens (closed_there bs below e);
      longest = longest_at b bs (suc (run_len is_text_byte bs)) text_beyond;
    };
    in_range = λ e. absurd cc;
  }

  is_34 : b ≡ quote
  is_34 = grind (arith, nat_tests)

  inside_at : (i : ℕ) → 0 < i → i < suc (run_len is_text_byte bs) → is_text_byte (get_or (b ∷ bs) i 0) ≡ true
  inside_at zero some below = absurd (omega arith)
  inside_at (suc i) some below = prefix_each is_text_byte bs i (omega arith)

  opened : OpensText (b ∷ bs) (suc (run_len is_text_byte bs))
  opened = record { opens = is_34; some = omega arith; fits = omega (arith, prefix_le is_text_byte bs); inside = inside_at }

  pub text_holds : Holds (b ∷ bs) (text_cut bs)
  unfolding text_cut
  text_holds =
      let P : Cut → Type 0 = Holds (b ∷ bs) in
      let m : ℕ = run_len is_text_byte bs in
      let two : m + 2 ≡ suc (suc m) = omega arith in
      let one : m + 1 ≡ suc m = omega arith in
      chosen P (nat_le (length bs) m || slice_index bs m == line_feed) _ _
      (λ ends. (suc m, opened, ends_at (length bs) m (get_or bs m 0) _ (prefix_le is_text_byte bs) refl ends))
      (λ goes. chosen P (slice_index bs m == quote) _ _
      (λ closed. subst (λ k. IsPiece (b ∷ bs) kind.Text k) (sym two) (text_piece (grind (arith, nat_tests)) closed))
      (λ other. let below : m < length bs = (goes_on _ _ _ goes).0 in
      subst (λ k. Holds (b ∷ bs) (Err (stop.BadByte k))) (sym one)
      (inr (record { opened = opened; within = omega arith; no_text = prefix_stop is_text_byte bs below; no_quote = not_byte _ quote other; no_line_feed = (goes_on _ _ _ goes).1 }))))
