-- Laws on what statements tell of places.
use Rattle.std.specs.Prelude.{ℕ, ◌^◌, ◌≡◌, ◌<◌, List}
use Rattle.sled_model.specs.declared.spec.Spec.{Spec}
use Rattle.sled_model.specs.declared.statement.Statement.{Statement}
use Rattle.match_meaning.specs.Matchable.{IsMatchable}
use Rattle.image_listing.specs.Listing.{Taking}
use Rattle.disassembler.specs.Disassembly.{IsTakingOf}

-- two takings of a statement say the same of each place that has an address
abbrev pub OneTaking : Type 0
OneTaking = (spec : Spec) (statement : Statement) (one other : Taking) → IsMatchable spec statement → IsTakingOf spec statement one → IsTakingOf spec statement other
    → (place : ℕ) (bytes : List ℕ) → place < 2 ^ 32 → one place bytes ≡ other place bytes

-- a statement has a taking
abbrev pub TakingOf : Type 0
TakingOf = (spec : Spec) (statement : Statement) → IsMatchable spec statement → (taking : Taking) × IsTakingOf spec statement taking
