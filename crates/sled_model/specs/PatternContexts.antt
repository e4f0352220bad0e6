-- What a pattern stands among, as a program holds it: with the results of the known bodies at each offset of a list of bytes.
use Rattle.std.specs.Prelude.{ℕ, ◌≡◌, ◌+◌, ◌^◌, ◌<◌, ◌≤◌, List, [], map, length}
use Rattle.std.specs.List.{range_with_len}
use Rattle.token_bits.specs.Tokens.{AreTokens}
use Rattle.sled_model.specs.declared.raw.Match.{Match}
use Rattle.sled_model.specs.declared.context.PatternContext.{PatternContext}
use Rattle.sled_model.specs.Results.{Meaning, Known, Context, known_from}

-- the results at each offset, that of the end too
abbrev pub row_of : List ℕ → Meaning → List (List Match)
row_of bytes m = map (m bytes) (range_with_len 0 (length bytes + 1))

abbrev pub table_of : List ℕ → List Known → List (List (List Match))
table_of bytes known = map (λ (c : Known). row_of bytes c.body) known

abbrev pub known_in : PatternContext → List Known
known_in near = known_from near.tokens.now [] near.constructors.now

abbrev pub context_in : PatternContext → Context
context_in near = record { tokens = near.tokens.now; operands = near.operands.now; known = known_in near }

pub record IsPatternContext (near : PatternContext) : Type 0 where
  pub tokens : AreTokens near.tokens.now
  pub few : length near.constructors.now ≤ 2 ^ 32
  pub window : length near.window.now < 256
  pub bodies : near.bodies.now ≡ table_of near.window.now (known_in near)
