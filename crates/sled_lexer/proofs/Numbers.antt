-- The longest Number at the front.
use Rattle.std.proofs.Common.{◌≡◌, ℕ, zero, suc, ◌+◌, ◌<◌, ◌≤◌, Bool, true, false, List, [], ◌∷◌, length, take, drop, arith, refl, sym, ◌∙◌, subst}
use Rattle.std.specs.Prelude.{◌&&◌, ◌==◌, nat_lt}
use Rattle.std.specs.Char.{is_ascii_digit, is_ascii_hexdigit}
use Rattle.std.specs.List.{list_all}
use Rattle.std.proofs.lemmas.Bool.Decides.{nat_tests}
use Rattle.sled_base.specs.declared.limits.TheConstants.{MAX_NUMBER}
use Rattle.sled_lexer.specs.declared.Kind.{Kind}
use Rattle.sled_lexer.specs.declared.Kind.TheVariants as kind
use Rattle.sled_lexer.specs.Spelled.{spelled, is_number, is_run, has_hex_prefix, number_value}
use Rattle.sled_lexer.specs.Lexemes.{IsLongest}
use Rattle.sled_lexer.specs.Cut.{Cut, run_len, number_cut, number_len, begins_hex, Holds}
use Rattle.sled_lexer.proofs.Runs.{chosen, longest_at, prefix_all, prefix_longer, prefix_le}
use Rattle.sled_lexer.proofs.Starts.{no_start, digit_no_letter, digit_no_quote, digit_no_mark}

-- what begins with a digit and is no Number is spelled as no kind
only_numbers : (b : ℕ) (t : List ℕ) → is_ascii_digit b ≡ true → is_number (b ∷ t) ≡ false → (j : Kind) → spelled j (b ∷ t) ≡ false
only_numbers b t digit none kind.Word = no_start kind.Word b t (digit_no_letter b digit)
only_numbers b t digit none kind.Number = none
only_numbers b t digit none kind.Text = no_start kind.Text b t (digit_no_quote b digit)
only_numbers b t digit none kind.Mark = no_start kind.Mark b t (digit_no_mark b digit)

-- ---- hexadecimal

hex_facts : (a b c : ℕ) (ds : List ℕ) → begins_hex (a ∷ b ∷ c ∷ ds) ≡ true → ((48 == a) ≡ true) × ((120 == b) ≡ true) × (is_ascii_hexdigit c ≡ true)
unfolding begins_hex
hex_facts a b c ds h = (grind (arith, nat_tests), grind (arith, nat_tests), grind (arith, nat_tests))

no_decimal : (a b : ℕ) (ds : List ℕ) → ((120 == b) ≡ true) → is_run is_ascii_digit (a ∷ b ∷ ds) ≡ false
no_decimal a b ds hb =
    let no_digit : is_ascii_digit b ≡ false = grind (arith, nat_tests) in
    both (is_ascii_digit a) (is_ascii_digit b) _ no_digit
  where
    both : (x y z : Bool) → y ≡ false → (x && (y && z)) ≡ false
    both true y z h = rw h refl
    both false y z h = refl

hex_spelled : (a b c : ℕ) (ds : List ℕ) → ((48 == a) ≡ true) → ((120 == b) ≡ true) → is_ascii_hexdigit c ≡ true → is_number (a ∷ b ∷ c ∷ ds) ≡ list_all is_ascii_hexdigit ds
hex_spelled a b c ds ha hb hc = rw (no_decimal a b (c ∷ ds) hb, ha, hb, hc) refl

hex_beyond : (a b c : ℕ) (ds : List ℕ) → is_ascii_digit a ≡ true → ((48 == a) ≡ true) → ((120 == b) ≡ true) → is_ascii_hexdigit c ≡ true
    → (j : Kind) (m : ℕ) → suc (suc (suc (run_len is_ascii_hexdigit ds))) < m → m ≤ length (a ∷ b ∷ c ∷ ds) → spelled j (take m (a ∷ b ∷ c ∷ ds)) ≡ false
hex_beyond a b c ds digit ha hb hc j zero below within = absurd (omega arith)
hex_beyond a b c ds digit ha hb hc j (suc zero) below within = absurd (omega arith)
hex_beyond a b c ds digit ha hb hc j (suc (suc zero)) below within = absurd (omega arith)
hex_beyond a b c ds digit ha hb hc j (suc (suc (suc m))) below within =
    only_numbers a (b ∷ c ∷ take m ds) digit (hex_spelled a b c (take m ds) ha hb hc ∙ prefix_longer is_ascii_hexdigit ds m (omega arith) (omega arith)) j

hex_longest : (a b c : ℕ) (ds : List ℕ) → is_ascii_digit a ≡ true → begins_hex (a ∷ b ∷ c ∷ ds) ≡ true → IsLongest (a ∷ b ∷ c ∷ ds) kind.Number (suc (suc (run_len is_ascii_hexdigit (c ∷ ds))))
hex_longest a b c ds digit h =
    let t = hex_facts a b c ds h in
    rw (t.2) (record {
      fits = omega (arith, prefix_le is_ascii_hexdigit ds);
      spells = hex_spelled a b c (take (run_len is_ascii_hexdigit ds) ds) t.0 t.1 t.2 ∙ prefix_all is_ascii_hexdigit ds;
      longest = hex_beyond a b c ds digit t.0 t.1 t.2;
    })

hex_shape : (b : ℕ) (bs : List ℕ) → is_ascii_digit b ≡ true → begins_hex (b ∷ bs) ≡ true
    → IsLongest (b ∷ bs) kind.Number (2 + run_len is_ascii_hexdigit (drop 2 (b ∷ bs))) × (0 < 2 + run_len is_ascii_hexdigit (drop 2 (b ∷ bs)))
unfolding begins_hex
hex_shape b [] digit h = absurd cc
hex_shape b (c ∷ []) digit h = absurd cc
hex_shape b (c ∷ d ∷ ds) digit h =
    let e : 2 + run_len is_ascii_hexdigit (d ∷ ds) ≡ suc (suc (run_len is_ascii_hexdigit (d ∷ ds))) = omega arith in
    (subst (λ n. IsLongest (b ∷ c ∷ d ∷ ds) kind.Number n) (sym e) (hex_longest b c d ds digit h), omega arith)

-- ---- decimal

-- not long enough, or another byte
no_hex : (s : List ℕ) (m : ℕ) → begins_hex s ≡ false → (has_hex_prefix (take m s) && is_run is_ascii_hexdigit (drop 2 (take m s))) ≡ false
unfolding begins_hex
no_hex s zero h = refl
no_hex [] (suc m) h = refl
no_hex (a ∷ s) (suc zero) h = grind (arith, nat_tests)
no_hex (a ∷ []) (suc (suc m)) h = grind (arith, nat_tests)
no_hex (a ∷ b ∷ s) (suc (suc zero)) h = grind (arith, nat_tests)
no_hex (a ∷ b ∷ []) (suc (suc (suc m))) h = grind (arith, nat_tests)
no_hex (a ∷ b ∷ c ∷ ds) (suc (suc (suc m))) h =
    let long : nat_lt 2 (length (a ∷ b ∷ c ∷ ds)) ≡ true = grind (arith, nat_tests) in
    grind (arith, nat_tests)

dec_beyond : (b : ℕ) (bs : List ℕ) → is_ascii_digit b ≡ true → begins_hex (b ∷ bs) ≡ false → (j : Kind) (m : ℕ) → run_len is_ascii_digit bs < m → m ≤ length bs → spelled j (b ∷ take m bs) ≡ false
dec_beyond b bs digit h j m below within =
    only_numbers b (take m bs) digit (rw (digit, prefix_longer is_ascii_digit bs m below within) (no_hex (b ∷ bs) (suc m) h)) j

dec_longest : (b : ℕ) (bs : List ℕ) → is_ascii_digit b ≡ true → begins_hex (b ∷ bs) ≡ false → IsLongest (b ∷ bs) kind.Number (run_len is_ascii_digit (b ∷ bs))
dec_longest b bs digit h = rw digit (record {
  fits = omega (arith, prefix_le is_ascii_digit bs);
  spells = rw (digit, prefix_all is_ascii_digit bs) refl;
  longest = longest_at b bs (run_len is_ascii_digit bs) (dec_beyond b bs digit h);
})

-- ---- both

number_longest : (b : ℕ) (bs : List ℕ) → is_ascii_digit b ≡ true → IsLongest (b ∷ bs) kind.Number (number_len (b ∷ bs)) × (0 < number_len (b ∷ bs))
unfolding number_len
number_longest b bs digit =
    let P : ℕ → Type 0 = λ n. IsLongest (b ∷ bs) kind.Number n × (0 < n) in
    chosen P (begins_hex (b ∷ bs)) _ _ (hex_shape b bs digit) (λ no. (dec_longest b bs digit no, rw digit (omega arith)))

pub number_holds : (b : ℕ) (bs : List ℕ) → is_ascii_digit b ≡ true → Holds (b ∷ bs) (number_cut (b ∷ bs))
unfolding number_cut
number_holds b bs digit =
    let s : List ℕ = b ∷ bs in
    let n : ℕ = number_len s in
    let found = number_longest b bs digit in
    let P : Cut → Type 0 = Holds s in
    chosen P (nat_lt MAX_NUMBER (number_value (take n s))) _ _
    (λ big. (n, found.0, grind (arith, nat_tests)))
    (λ small. record { some = found.1; piece = found.0; in_range = λ _. grind (arith, nat_tests) })
