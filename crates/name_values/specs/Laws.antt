-- Laws on what names stand for.
use Rattle.std.specs.Prelude.{ℕ, ◌^◌, ◌≡◌, ◌<◌, List, All, Some}
use Rattle.sled_model.specs.declared.instance.Operand.{Operand}
use Rattle.sled_model.specs.declared.raw.Match.{Match}
use Rattle.sled_model.specs.declared.raw.RawEntry.{RawEntry}
use Rattle.sled_model.specs.declared.spec.Spec.{Spec}
use Rattle.sled_model.specs.declared.statement.Statement.{Statement}
use Rattle.sled_model.specs.First.{first}
use Rattle.match_meaning.specs.Matchable.{IsMatchable}
use Rattle.match_meaning.specs.Readable.{IsReadableSpec}
use Rattle.name_values.specs.Values.{IsBodyChoice, AreOnlyNameValues}

-- whatever the names: where each choice is of a result of its constructor's body, each name has one value at each location
abbrev pub OneValueEach : Type 0
OneValueEach = (spec : Spec) (location : ℕ) (entries : List RawEntry) (names : List (List ℕ)) → IsReadableSpec spec → location < 2 ^ 32 → All (IsBodyChoice spec) entries
    → (values : List Operand) × AreOnlyNameValues spec location entries names values

-- so is each choice in the first result of a statement that can be matched
abbrev pub ArmResultsMean : Type 0
ArmResultsMean = (spec : Spec) (statement : Statement) (bytes : List ℕ) (k : ℕ) (m : Match) → IsMatchable spec statement → first spec statement bytes ≡ Some (k, m) → All (IsBodyChoice spec) m.binds
