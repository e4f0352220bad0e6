-- The measures of a pattern that stands among no constructors.
use Rattle.std.specs.Prelude.{ℕ, []}
use Rattle.token_bits.specs.declared.tokens.Tokens.{Tokens}
use Rattle.sled_model.specs.declared.pattern.Pattern.{Pattern}
use Rattle.sled_model.specs.Measures.{weight, size, longest}

abbrev pub lone_weight : Tokens → Pattern → ℕ
lone_weight tokens p = weight tokens [] (λ k. 0) p

abbrev pub lone_size : Pattern → ℕ
lone_size p = size [] (λ k. 0) p

abbrev pub lone_len : Tokens → Pattern → ℕ
lone_len tokens p = longest tokens [] (λ k. 0) p
