-- What is unmet of conditions 12 and 13, of one constructor and of those that a declaration makes.
use Rattle.std.specs.Prelude.{ℕ, ◌≡◌, ◌⊎◌, List, Option, Some, None, All}
use Rattle.token_bits.specs.declared.tokens.Tokens.{Tokens}
use Rattle.sled_model.specs.declared.constructor.Constructor.{Constructor}
use Rattle.sled_model.specs.SolvingOrder.{IsDetermined}
use Rattle.sled_model.specs.Solved.{IsSolved}

-- the first of conditions 12 and 13 that the constructor does not meet
abbrev pub IsPlanUnmet : Tokens → Constructor → Option ℕ → Type 0
IsPlanUnmet tokens c None = IsDetermined c × IsSolved tokens c
IsPlanUnmet tokens c (Some n) = ((n ≡ 12) × (IsDetermined c → ⊥)) ⊎ ((n ≡ 13) × IsDetermined c × (IsSolved tokens c → ⊥))

-- The first of conditions 12 and 13 that the constructors do not all meet. Over `fields of b (8) x 0:7 y 0:3`, `c(n) { n = x } is x` meets both,
-- `c(n) { n = x + y } is x & y` does not meet condition 12, and `c(n) { n@[0:7] = x } is x` meets 12 and not 13.
abbrev pub ArePlansUnmet : Tokens → List Constructor → Option ℕ → Type 0
ArePlansUnmet tokens cs None = All IsDetermined cs × All (IsSolved tokens) cs
ArePlansUnmet tokens cs (Some n) = ((n ≡ 12) × (All IsDetermined cs → ⊥)) ⊎ ((n ≡ 13) × All IsDetermined cs × (All (IsSolved tokens) cs → ⊥))
