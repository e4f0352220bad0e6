-- The bytes of a number.
use Rattle.std.proofs.Common.{◌≡◌, ℕ, zero, suc, ◌+◌, ◌-◌, ◌*◌, ◌/◌, ◌%◌, ◌^◌, ◌<◌, ◌≤◌, List, [], ◌∷◌, length, reverse, take, drop, get_or, refl, sym, ap, ◌∙◌, subst, arith, bit_and, length-drop}
use Rattle.std.specs.List.{All, fold}
use Rattle.std.proofs.Math.Nat.{div-one}
use Rattle.std.proofs.lemmas.List.{get_or-reverse, get_or-take, get_or-drop, length-reverse, length-take}
use Rattle.std.proofs.lemmas.List.Elements.{All-head, All-tail, All-take, All-drop}
use Rattle.std.proofs.lemmas.Nat.{pow-add, shr-shr, and_shr, and_mod, pow_pos, shr_split, mod_below, and_le_l}
use Rattle.token_bits.specs.declared.tokens.Order.{Order}
use Rattle.token_bits.specs.declared.tokens.Order.TheVariants.{Big, Little}
use Rattle.token_bits.specs.Tokens.{number_of, in_order}
use Rattle.relation_cases.specs.Cases.{byte_at, bytes_below}

-- byte j of the number, the least significant one first
abbrev pub byte_of : ℕ → ℕ → ℕ
byte_of number j = number / 2 ^ (8 * j) % 256

later : (number j : ℕ) → byte_of number (suc j) ≡ byte_of (number / 256) j
later number j = let e : 8 * suc j ≡ 8 + 8 * j = omega arith in ap (λ k. number / 2 ^ k % 256) e ∙ sym (ap (λ n. n % 256) (shr-shr number 8 (8 * j)))

-- numbers of so many bytes are equal where their bytes are
pub same_from_bytes : (count a b : ℕ) → a < 2 ^ (8 * count) → b < 2 ^ (8 * count) → ((j : ℕ) → j < count → byte_of a j ≡ byte_of b j) → a ≡ b
same_from_bytes zero a b p q h = omega arith
same_from_bytes (suc count) a b p q h =
    let e : 8 * suc count ≡ 8 + 8 * count = omega arith in
    let split : 2 ^ (8 * suc count) ≡ 256 * 2 ^ (8 * count) = ap (λ k. 2 ^ k) e ∙ pow-add 2 8 (8 * count) in
    let low : a % 256 ≡ b % 256 = ap (λ n. n % 256) (sym (div-one a)) ∙ h 0 (omega arith) ∙ ap (λ n. n % 256) (div-one b) in
    let high : a / 256 ≡ b / 256 = same_from_bytes count (a / 256) (b / 256) (omega arith) (omega arith) (λ j l. sym (later a j) ∙ h (suc j) (omega arith) ∙ later b j) in
    omega arith

-- the bytes of what two numbers share
pub byte_of-and : (a b j : ℕ) → bit_and (byte_of a j) (byte_of b j) ≡ byte_of (bit_and a b) j
byte_of-and a b j = sym (ap (λ n. n % 256) (and_shr a b (8 * j)) ∙ and_mod (a / 2 ^ (8 * j)) (b / 2 ^ (8 * j)) 8)

tail_all : (x : ℕ) (xs : List ℕ) → All (λ b. b < 256) (x ∷ xs) → All (λ b. b < 256) xs
tail_all x xs h = All-tail (λ b. b < 256) x xs h

-- the number in front of the bytes
spelled_front : (start : ℕ) (bytes : List ℕ) → All (λ b. b < 256) bytes → fold (λ n b. 256 * n + b) start bytes / 2 ^ (8 * length bytes) ≡ start
spelled_front start [] h = div-one start
spelled_front start (x ∷ xs) h =
    let e : 8 * suc (length xs) ≡ 8 * length xs + 8 = omega arith in
    let l : x < 256 = All-head (λ b. b < 256) x xs h in
    ap (λ k. fold (λ n b. 256 * n + b) (256 * start + x) xs / 2 ^ k) e ∙ sym (shr-shr (fold (λ n b. 256 * n + b) (256 * start + x) xs) (8 * length xs) 8)
    ∙ ap (λ n. n / 256) (spelled_front (256 * start + x) xs (tail_all x xs h)) ∙ omega arith

spelled_at : (start : ℕ) (bytes : List ℕ) → All (λ b. b < 256) bytes → (k : ℕ) → k < length bytes
    → get_or bytes k 0 ≡ byte_of (fold (λ n b. 256 * n + b) start bytes) (length bytes - 1 - k)
spelled_at start [] h k l = absurd (omega arith)
spelled_at start (x ∷ xs) h zero l =
    let e : suc (length xs) - 1 - 0 ≡ length xs = omega arith in
    let b : x < 256 = All-head (λ b. b < 256) x xs h in
    sym (ap (byte_of (fold (λ n b. 256 * n + b) (256 * start + x) xs)) e ∙ ap (λ n. n % 256) (spelled_front (256 * start + x) xs (tail_all x xs h)) ∙ omega arith)
spelled_at start (x ∷ xs) h (suc k) l =
    let e : length xs - 1 - k ≡ suc (length xs) - 1 - suc k = omega arith in
    spelled_at (256 * start + x) xs (tail_all x xs h) k (omega arith) ∙ ap (byte_of (fold (λ n b. 256 * n + b) (256 * start + x) xs)) e

-- a number that bytes spell has no more bytes
pub number_of-fits : (bytes : List ℕ) → All (λ b. b < 256) bytes → number_of bytes < 2 ^ (8 * length bytes)
number_of-fits bytes h = zero_div_fits (number_of bytes) (8 * length bytes) (spelled_front 0 bytes h)
  where
    zero_div_fits : (n k : ℕ) → n / 2 ^ k ≡ 0 → n < 2 ^ k
    zero_div_fits n k e = let p = pow_pos k in omega (arith, shr_split n k, mod_below n (2 ^ k) p, ap (λ x. x * 2 ^ k) e)

reverse_bytes : (xs : List ℕ) → All (λ b. b < 256) xs → All (λ b. b < 256) (reverse xs)
reverse_bytes xs h k d l =
    let m : k < length xs = omega (arith, length-reverse xs) in
    let P : ℕ → Type 0 = λ b. b < 256 in
    subst P (sym (get_or-reverse xs k d m)) (h (length xs - 1 - k) d (omega arith))

-- the bytes of a token, where there are so many
spelled_byte : (order : Order) (xs : List ℕ) (count : ℕ) → length xs ≡ count → All (λ b. b < 256) xs → (k : ℕ) → k < count → get_or xs k 0 ≡ byte_at order count (number_of (in_order order xs)) k
spelled_byte Big xs count e h k l =
    let back : length xs - 1 - k ≡ count - 1 - k = omega arith in
    spelled_at 0 xs h k (omega arith) ∙ ap (byte_of (number_of xs)) back
spelled_byte Little xs count e h k l =
    let n = number_of (reverse xs) in
    let there : length xs - 1 - (count - 1 - k) ≡ k = omega arith in
    let back : length (reverse xs) - 1 - (count - 1 - k) ≡ k = omega (arith, length-reverse xs) in
    sym (ap (λ i. get_or xs i 0) there) ∙ sym (get_or-reverse xs (count - 1 - k) 0 (omega arith))
    ∙ spelled_at 0 (reverse xs) (reverse_bytes xs h) (count - 1 - k) (omega (arith, length-reverse xs)) ∙ ap (byte_of n) back

spelled_fits : (order : Order) (xs : List ℕ) (count : ℕ) → length xs ≡ count → All (λ b. b < 256) xs → number_of (in_order order xs) < 2 ^ (8 * count)
spelled_fits Big xs count e h = let P : ℕ → Type 0 = λ k. number_of xs < 2 ^ (8 * k) in subst P e (number_of-fits xs h)
spelled_fits Little xs count e h =
    let P : ℕ → Type 0 = λ k. number_of (reverse xs) < 2 ^ (8 * k) in
    subst P (length-reverse xs ∙ e) (number_of-fits (reverse xs) (reverse_bytes xs h))

-- the bytes of a window that make a token
module _ (window : List ℕ) (at count : ℕ) (bytes : All (λ b. b < 256) window) (within : at + count ≤ length window) where
  cut_length : length (take count (drop at window)) ≡ count
  cut_length = omega (arith, length-take count (drop at window), length-drop at window)

  cut_bytes : All (λ b. b < 256) (take count (drop at window))
  cut_bytes = All-take (λ b. b < 256) count (drop at window) (All-drop (λ b. b < 256) at window bytes)

  pub token_fits : (order : Order) → number_of (in_order order (take count (drop at window))) < 2 ^ (8 * count)
  token_fits order = spelled_fits order (take count (drop at window)) count cut_length cut_bytes

  pub window_byte : (order : Order) (k : ℕ) → k < count → get_or window (at + k) 0 ≡ byte_at order count (number_of (in_order order (take count (drop at window)))) k
  window_byte order k l =
      sym (get_or-take count (drop at window) k 0 l ∙ get_or-drop at window k 0) ∙ spelled_byte order (take count (drop at window)) count cut_length cut_bytes k l

-- the place of a byte that so many are below
pub bytes_below-back : (order : Order) (count j : ℕ) → j < count → (bytes_below order count j < count) × (bytes_below order count (bytes_below order count j) ≡ j)
bytes_below-back Big count j l = (omega arith, omega arith)
bytes_below-back Little count j l = (l, refl)

-- a token's bytes agree with those of a value under those of a mask where the token itself does
module _ (order : Order) (count n m v : ℕ) (few : n < 2 ^ (8 * count)) (fits : v < 2 ^ (8 * count)) where
  pub agrees_from : bit_and n m ≡ v → (k : ℕ) → k < count → bit_and (byte_at order count n k) (byte_at order count m k) ≡ byte_at order count v k
  agrees_from e k l = byte_of-and n m (bytes_below order count k) ∙ ap (λ x. byte_of x (bytes_below order count k)) e

  pub agrees_to : ((k : ℕ) → k < count → bit_and (byte_at order count n k) (byte_at order count m k) ≡ byte_at order count v k) → bit_and n m ≡ v
  agrees_to h =
      let less = and_le_l n m in
      same_from_bytes count (bit_and n m) v (omega arith) fits (λ j l.
      let b = bytes_below-back order count j l in
      let P : ℕ → Type 0 = λ i. byte_of (bit_and n m) i ≡ byte_of v i in
      subst P b.1 (sym (byte_of-and n m (bytes_below order count (bytes_below order count j))) ∙ h (bytes_below order count j) b.0))
