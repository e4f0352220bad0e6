-- The pieces of an action's text, run by run.
use Rattle.std.proofs.Common.{◌≡◌, ◌≢◌, ℕ, suc, ◌+◌, ◌<◌, ◌≤◌, Bool, true, false, cond, List, [], ◌∷◌, ◌++◌, length, take, drop, get_or, Some, None, refl, sym, ap, ◌∙◌, subst, append-nil, append_assoc, arith}
use Rattle.std.specs.Prelude.{Option, not, ◌&&◌, nat_eq}
use Rattle.std.proofs.Math.ListN.{drop_of_length-le}
use Rattle.tree_meaning.proofs.ListLemmas.{drop-here}
use Rattle.std.proofs.lemmas.Bool.Decides.{nat_tests}
use Rattle.sled_model.specs.declared.statement.Piece.{Piece}
use Rattle.arm_actions.specs.Actions.{outside, inside, behind, words_piece, bound_piece, run_len, is_no_brace, is_no_close}
use Rattle.tree_meaning.specs.Names.{position_of}
use Rattle.arm_actions.specs.declared.action.Step.{Step}
use Rattle.arm_actions.specs.declared.action.Step.TheVariants.{End, Wrong, Rest}
use Rattle.arm_actions.specs.Steps.{Steps, StepsNamed}
use Rattle.sled_model.specs.declared.statement.Piece.TheVariants.{Bound}

-- ---- runs

stop_case : (t : Bool) (p : ℕ → Bool) (x : ℕ) (xs : List ℕ) → p x ≡ t → (run_len p xs < length xs → p (get_or xs (run_len p xs) 0) ≡ false)
    → cond t (suc (run_len p xs)) 0 < suc (length xs) → p (get_or (x ∷ xs) (cond t (suc (run_len p xs)) 0) 0) ≡ false
stop_case true p x xs is later h = later (omega arith)
stop_case false p x xs is later h = is

-- what stands behind a run fails the test
pub run_stop : (p : ℕ → Bool) (xs : List ℕ) → run_len p xs < length xs → p (get_or xs (run_len p xs) 0) ≡ false
run_stop p [] h = absurd (omega arith)
run_stop p (x ∷ xs) h = stop_case (p x) p x xs refl (run_stop p xs) h

-- ---- words

eq_false : (b n : ℕ) → not (nat_eq b n) ≡ true → nat_eq b n ≡ false
eq_false b n h = grind (arith, nat_tests)

both_true : (s t : Bool) → (s && t) ≡ true → (s ≡ true) × (t ≡ true)
both_true true true h = (refl, refl)
both_true true false h = cc
both_true false t h = cc

outside_plain : (names : List (List ℕ)) (w : List ℕ) (b : ℕ) (bs : List ℕ) → is_no_brace b ≡ true → outside names w (b ∷ bs) ≡ outside names (w ++ b ∷ []) bs
outside_plain names w b bs h =
    let parts = both_true (not (nat_eq b 123)) (not (nat_eq b 125)) h in
    rw (eq_false b 123 parts.0, eq_false b 125 parts.1) refl

outside_case : (t : Bool) (names : List (List ℕ)) (w : List ℕ) (b : ℕ) (bs : List ℕ) → is_no_brace b ≡ t
    → outside names (w ++ b ∷ []) bs ≡ outside names ((w ++ b ∷ []) ++ take (run_len is_no_brace bs) bs) (drop (run_len is_no_brace bs) bs)
    → outside names w (b ∷ bs) ≡ outside names (w ++ take (cond t (suc (run_len is_no_brace bs)) 0) (b ∷ bs)) (drop (cond t (suc (run_len is_no_brace bs)) 0) (b ∷ bs))
outside_case true names w b bs is later =
    outside_plain names w b bs is ∙ later ∙ ap (λ v. outside names v (drop (run_len is_no_brace bs) bs)) (append_assoc w (b ∷ []) (take (run_len is_no_brace bs) bs))
outside_case false names w b bs is later = ap (λ v. outside names v (b ∷ bs)) (sym (append-nil w))

pub outside_run : (names : List (List ℕ)) (w xs : List ℕ) → outside names w xs ≡ outside names (w ++ take (run_len is_no_brace xs) xs) (drop (run_len is_no_brace xs) xs)
outside_run names w [] = ap (λ v. outside names v []) (sym (append-nil w))
outside_run names w (b ∷ bs) = outside_case (is_no_brace b) names w b bs refl (outside_run names (w ++ b ∷ []) bs)

inside_plain : (names : List (List ℕ)) (w : List ℕ) (b : ℕ) (bs : List ℕ) → is_no_close b ≡ true → inside names w (b ∷ bs) ≡ inside names (w ++ b ∷ []) bs
inside_plain names w b bs h = rw (eq_false b 125 h) refl

inside_case : (t : Bool) (names : List (List ℕ)) (w : List ℕ) (b : ℕ) (bs : List ℕ) → is_no_close b ≡ t
    → inside names (w ++ b ∷ []) bs ≡ inside names ((w ++ b ∷ []) ++ take (run_len is_no_close bs) bs) (drop (run_len is_no_close bs) bs)
    → inside names w (b ∷ bs) ≡ inside names (w ++ take (cond t (suc (run_len is_no_close bs)) 0) (b ∷ bs)) (drop (cond t (suc (run_len is_no_close bs)) 0) (b ∷ bs))
inside_case true names w b bs is later =
    inside_plain names w b bs is ∙ later ∙ ap (λ v. inside names v (drop (run_len is_no_close bs) bs)) (append_assoc w (b ∷ []) (take (run_len is_no_close bs) bs))
inside_case false names w b bs is later = ap (λ v. inside names v (b ∷ bs)) (sym (append-nil w))

pub inside_run : (names : List (List ℕ)) (w xs : List ℕ) → inside names w xs ≡ inside names (w ++ take (run_len is_no_close xs) xs) (drop (run_len is_no_close xs) xs)
inside_run names w [] = refl
inside_run names w (b ∷ bs) = inside_case (is_no_close b) names w b bs refl (inside_run names (w ++ b ∷ []) bs)

-- ---- what stands behind a run

no_brace : (b : ℕ) → is_no_brace b ≡ false → b ≢ 125 → b ≡ 123
no_brace b h ne = grind (arith, nat_tests)

no_close : (b : ℕ) → is_no_close b ≡ false → b ≡ 125
no_close b h = grind (arith, nat_tests)

module _ (names : List (List ℕ)) (xs : List ℕ) (n : ℕ) where
  -- the text ends behind the words
  pub outside_end : n ≡ run_len is_no_brace xs → length xs ≤ n → outside names [] xs ≡ Some (words_piece (take n xs))
  outside_end is h =
      let none : drop n xs ≡ [] = drop_of_length-le xs h in
      outside_run names [] xs ∙ ap (λ k. outside names (take k xs) (drop k xs)) (sym is) ∙ ap (outside names (take n xs)) none

  pub outside_wrong : n ≡ run_len is_no_brace xs → n < length xs → get_or xs n 0 ≡ 125 → outside names [] xs ≡ None
  outside_wrong is h close =
      outside_run names [] xs ∙ ap (λ k. outside names (take k xs) (drop k xs)) (sym is)
      ∙ ap (outside names (take n xs)) (drop-here xs n 0 h ∙ ap (λ b. b ∷ drop (n + 1) xs) close)

  pub outside_open : n ≡ run_len is_no_brace xs → n < length xs → get_or xs n 0 ≢ 125
      → outside names [] xs ≡ behind (words_piece (take n xs)) (inside names [] (drop (n + 1) xs))
  outside_open is h other =
      let stops : is_no_brace (get_or xs n 0) ≡ false = subst (λ k. k < length xs → is_no_brace (get_or xs k 0) ≡ false) (sym is) (run_stop is_no_brace xs) h in
      outside_run names [] xs ∙ ap (λ k. outside names (take k xs) (drop k xs)) (sym is)
      ∙ ap (outside names (take n xs)) (drop-here xs n 0 h ∙ ap (λ b. b ∷ drop (n + 1) xs) (no_brace (get_or xs n 0) stops other))

  -- no brace closes
  pub inside_end : n ≡ run_len is_no_close xs → length xs ≤ n → inside names [] xs ≡ None
  inside_end is h =
      let none : drop n xs ≡ [] = drop_of_length-le xs h in
      inside_run names [] xs ∙ ap (λ k. inside names (take k xs) (drop k xs)) (sym is) ∙ ap (inside names (take n xs)) none

  pub inside_close : n ≡ run_len is_no_close xs → n < length xs → inside names [] xs ≡ bound_piece (position_of names (take n xs)) (outside names [] (drop (n + 1) xs))
  inside_close is h =
      let stops : is_no_close (get_or xs n 0) ≡ false = subst (λ k. k < length xs → is_no_close (get_or xs k 0) ≡ false) (sym is) (run_stop is_no_close xs) h in
      inside_run names [] xs ∙ ap (λ k. inside names (take k xs) (drop k xs)) (sym is)
      ∙ ap (inside names (take n xs)) (drop-here xs n 0 h ∙ ap (λ b. b ∷ drop (n + 1) xs) (no_close (get_or xs n 0) stops))

-- ---- pieces in front

pub behind_behind : (xs ys : List Piece) (o : Option (List Piece)) → behind xs (behind ys o) ≡ behind (xs ++ ys) o
behind_behind xs ys None = refl
behind_behind xs ys (Some ps) = ap Some (sym (append_assoc xs ys ps))

-- ---- steps

-- a name in braces, and the text behind it
pub named_step : (names : List (List ℕ)) (old new : List Piece) (wanted : Option (List Piece)) (found : Option ℕ) (k : ℕ) (later : Option (List Piece))
    → wanted ≡ bound_piece found later → found ≡ Some k → new ≡ old ++ Bound k ∷ [] → behind old wanted ≡ behind new later
named_step names old new wanted found k later is at added =
    ap (behind old) (is ∙ ap (λ o. bound_piece o later) at) ∙ behind_behind old (Bound k ∷ []) later ∙ ap (λ ps. behind ps later) (sym added)

-- words, and what stands behind their brace
pub open_step : (old new words : List Piece) (here later : Option (List Piece)) → here ≡ behind words later → new ≡ old ++ words → behind old here ≡ behind new later
open_step old new words here later is added = ap (behind old) is ∙ behind_behind old words later ∙ ap (λ ps. behind ps later) (sym added)

-- a step behind the brace is a step through the whole
pub Steps-open : (names : List (List ℕ)) (rest after : List ℕ) (old mid new words : List Piece) (step : Step)
    → outside names [] rest ≡ behind words (inside names [] after) → mid ≡ old ++ words → length after < length rest
    → StepsNamed names (inside names [] after) (length after + 1) mid new step → Steps names rest old new step
Steps-open names rest after old mid new words End is added shorter h = absurd h
Steps-open names rest after old mid new words Wrong is added shorter h = is ∙ ap (behind words) h
Steps-open names rest after old mid new words (Rest later) is added shorter h = (open_step old mid words _ _ is added ∙ h.0, omega (arith, h.1))
