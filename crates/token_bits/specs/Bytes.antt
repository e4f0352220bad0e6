-- The bytes of a token's number, and a number with some of its bits put anew.
use Rattle.std.specs.Prelude.{ℕ, ◌+◌, ◌-◌, ◌*◌, ◌/◌, ◌%◌, ◌^◌, List}
use Rattle.std.specs.Int.{bytes_high_first, bytes_low_first}
use Rattle.token_bits.specs.declared.tokens.Order.{Order}
use Rattle.token_bits.specs.declared.tokens.Order.TheVariants.{Big, Little}

-- the lowest k bytes of n, in this order
abbrev pub number_bytes : Order → ℕ → ℕ → List ℕ
number_bytes Big k n = bytes_high_first k n
number_bytes Little k n = bytes_low_first 0 k n

-- n with this value in bits lo to hi
abbrev pub with_bits : ℕ → ℕ → ℕ → ℕ → ℕ
with_bits lo hi value n = (n / 2 ^ (hi + 1) * 2 ^ (hi - lo + 1) + value) * 2 ^ lo + n % 2 ^ lo
