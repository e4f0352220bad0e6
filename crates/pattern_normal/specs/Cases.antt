-- What cases say of a window.
use Rattle.std.specs.Prelude.{ℕ, Bool, List, map, filter}
use Rattle.token_bits.specs.declared.tokens.Tokens.{Tokens}
use Rattle.sled_model.specs.declared.raw.RawEntry.{RawEntry}
use Rattle.sled_model.specs.declared.raw.Match.{Match}
use Rattle.bit_cases.specs.Bits.{meets}
use Rattle.pattern_normal.specs.declared.case.Case.{Case}
use Rattle.pattern_normal.specs.declared.alternative.Alternative.{Alternative}
use Rattle.pattern_normal.specs.Skeletons.{read_entries}

abbrev pub is_met : List ℕ → Case → Bool
is_met window case = meets case.bits.mask case.bits.value case.bits.len window

-- what a window that meets the case binds, and the length in bytes
abbrev pub told : Tokens → List ℕ → Case → List RawEntry × ℕ
told tokens window case = (read_entries tokens window case.bind.entries, case.bits.len)

-- what the cases that the window meets tell, in order
abbrev pub told_by_met : Tokens → List ℕ → List Case → List (List RawEntry × ℕ)
told_by_met tokens window cases = map (told tokens window) (filter (is_met window) cases)

-- a match without the mark loose
abbrev pub binds_and_len : Match → List RawEntry × ℕ
binds_and_len a = (a.binds, a.len)

-- an alternative without the mark loose
abbrev pub case_of : Alternative → Case
case_of a = record { bits = a.bits; bind = record { entries = a.spots } }
