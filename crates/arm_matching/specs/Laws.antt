-- Which bytes decide.
use Rattle.std.specs.Prelude.{ℕ, ◌≡◌, List, take}
use Rattle.sled_model.specs.declared.spec.Spec.{Spec}
use Rattle.sled_model.specs.declared.statement.Statement.{Statement}
use Rattle.sled_model.specs.First.{first}
use Rattle.match_meaning.specs.Matchable.{IsMatchable}

-- the first 32 bytes decide the first result
abbrev pub FirstOnFront : Type 0
FirstOnFront = (spec : Spec) (statement : Statement) (bytes : List ℕ) → IsMatchable spec statement → first spec statement (take 32 bytes) ≡ first spec statement bytes
