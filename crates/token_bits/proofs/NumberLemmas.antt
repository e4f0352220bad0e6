-- Numbers that bytes spell, as the definitions here and those of `byteorder` say them.
use Rattle.std.proofs.Common.{ℕ, suc, ◌≡◌, ◌+◌, ◌*◌, ◌/◌, ◌^◌, ◌<◌, ◌≤◌, inl, inr, List, [], ◌∷◌, length, reverse, take, slice_index, sym, ap, ◌∙◌, subst, refl, arith}
use Rattle.std.specs.List.{fold}
use Rattle.std.specs.Int.{bytes_high_first, bytes_low_first}
use Rattle.std.proofs.Math.Nat.{pow-suc, add-mul, pow-le-pow_right}
use Rattle.std.proofs.lemmas.List.{length-take, append-nil, reverse-append}
use Rattle.std.proofs.lemmas.Grind.{fold-append}
use Rattle.byteorder.specs.Endian.{big_from, big_number, little_number}
use Rattle.byteorder.specs.Numbers.{big_from-cons, little_from-cons, big_from-take, little_from-take, big_number-reads_back, little_number-reads_back, length-bytes_high_first, length-bytes_low_first, big_from-lt, little_from-lt}
use Rattle.token_bits.specs.declared.tokens.Order.{Order}
use Rattle.token_bits.specs.declared.tokens.Order.TheVariants.{Big, Little}
use Rattle.token_bits.specs.Tokens.{number_of, in_order, IsWidth}
use Rattle.token_bits.specs.Bytes.{number_bytes}

-- bytes behind a number
more_bytes : (a : ℕ) (xs : List ℕ) → fold (λ n byte. 256 * n + byte) a xs ≡ a * 256 ^ length xs + big_from 0 (length xs) xs
more_bytes a [] = omega arith
more_bytes a (x ∷ xs) =
    more_bytes (256 * a + x) xs
    ∙ ap (λ m. m + big_from 0 (length xs) xs) (add-mul (256 * a) x (256 ^ length xs))
    ∙ (let shifted : 256 * a * 256 ^ length xs ≡ a * 256 ^ suc (length xs) = rw (pow-suc 256 (length xs)) (omega arith) in
    let moved = big_from-cons 0 (length xs) x xs in omega (arith, shifted, moved))

number_of-all : (xs : List ℕ) → number_of xs ≡ big_number (length xs) xs
number_of-all xs = more_bytes 0 xs ∙ omega arith

number_of-reverse : (xs : List ℕ) → number_of (reverse xs) ≡ little_number (length xs) xs
number_of-reverse [] = refl
number_of-reverse (x ∷ xs) = ap number_of (reverse-append (x ∷ []) xs) ∙ fold-append (λ n byte. 256 * n + byte) 0 (reverse xs) (x ∷ []) ∙ (let ih = number_of-reverse xs in let moved = little_from-cons 0 (length xs) x xs in omega (arith, ih, moved))

taken : (k : ℕ) (xs : List ℕ) → k ≤ length xs → length (take k xs) ≡ k
taken k xs h = length-take k xs ∙ omega arith

-- the number of the first bytes, most significant first
pub number_of-big : (k : ℕ) (xs : List ℕ) → k ≤ length xs → big_number k xs ≡ number_of (in_order Big (take k xs))
number_of-big k xs h = sym (number_of-all (take k xs) ∙ ap (λ n. big_number n (take k xs)) (taken k xs h) ∙ big_from-take 0 k k xs (omega arith))

-- and least significant first
pub number_of-little : (k : ℕ) (xs : List ℕ) → k ≤ length xs → little_number k xs ≡ number_of (in_order Little (take k xs))
number_of-little k xs h = sym (number_of-reverse (take k xs) ∙ ap (λ n. little_number n (take k xs)) (taken k xs h) ∙ little_from-take 0 k k xs (omega arith))

-- four bytes spell no more than 32 bits
pub four_below : (n k : ℕ) → n < 256 ^ k → k ≤ 4 → n < 2 ^ 32
four_below n k h l = let m : 256 ^ k ≤ 256 ^ 4 = pow-le-pow_right (omega arith) {i = k} {j = 4} l in omega arith

pub big_below : (k : ℕ) (xs : List ℕ) → ((i : ℕ) → slice_index xs i < 256) → big_number k xs < 256 ^ k
big_below k xs h = big_from-lt 0 k xs h

pub little_below : (k : ℕ) (xs : List ℕ) → ((i : ℕ) → slice_index xs i < 256) → little_number k xs < 256 ^ k
little_below k xs h = little_from-lt 0 k xs h

pub length-number_bytes : (order : Order) (k n : ℕ) → length (number_bytes order k n) ≡ k
length-number_bytes Big k n = length-bytes_high_first k n
length-number_bytes Little k n = length-bytes_low_first 0 k n

-- a number's bytes spell it
pub number_of-bytes : (order : Order) (k n : ℕ) → n < 256 ^ k → number_of (in_order order (number_bytes order k n)) ≡ n
number_of-bytes Big k n h =
    number_of-all (bytes_high_first k n) ∙ ap (λ m. big_number m (bytes_high_first k n)) (length-bytes_high_first k n)
    ∙ ap (big_number k) (sym (append-nil (bytes_high_first k n))) ∙ big_number-reads_back k n [] h
number_of-bytes Little k n h =
    number_of-reverse (bytes_low_first 0 k n) ∙ ap (λ m. little_number m (bytes_low_first 0 k n)) (length-bytes_low_first 0 k n)
    ∙ ap (little_number k) (sym (append-nil (bytes_low_first 0 k n))) ∙ little_number-reads_back k n [] h

-- bytes spell a number of as many bits
pub width_bytes : (w : ℕ) → IsWidth w → 2 ^ w ≡ 256 ^ (w / 8)
width_bytes w (inl e) = subst (λ (n : ℕ). 2 ^ n ≡ 256 ^ (n / 8)) (sym e) refl
width_bytes w (inr (inl e)) = subst (λ (n : ℕ). 2 ^ n ≡ 256 ^ (n / 8)) (sym e) refl
width_bytes w (inr (inr e)) = subst (λ (n : ℕ). 2 ^ n ≡ 256 ^ (n / 8)) (sym e) refl

pub width_count : (w : ℕ) → IsWidth w → (1 ≤ w / 8) × (w / 8 ≤ 4)
width_count w (inl e) = (omega arith, omega arith)
width_count w (inr (inl e)) = (omega arith, omega arith)
width_count w (inr (inr e)) = (omega arith, omega arith)
