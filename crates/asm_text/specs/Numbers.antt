-- Numbers as text.
use Rattle.std.specs.Prelude.{ℕ, List, ℤ}
use Rattle.std.specs.Fmt.{signed_decimal}

-- in decimal, without zeros in front, and with `-` in front where the number is negative
abbrev pub number_text : ℤ → List ℕ
number_text n = signed_decimal n
