-- Statements that are made ready to be matched.
use Rattle.std.specs.Prelude.{◌≡◌, ℕ, ◌+◌, List, [], ◌∷◌, ◌++◌, map, length, Option, if◌then◌else◌}
use Rattle.std.specs.List.{position_from}
use Rattle.bit_cases.specs.declared.byte_case.ByteCase.{ByteCase}
use Rattle.token_bits.specs.declared.tokens.Tokens.{Tokens}
use Rattle.sled_model.specs.declared.raw.Match.{Match}
use Rattle.sled_model.specs.declared.raw.RawEntry.{RawEntry}
use Rattle.sled_model.specs.declared.spec.Spec.{Spec}
use Rattle.sled_model.specs.declared.statement.Arm.{Arm}
use Rattle.sled_model.specs.Results.{arm_results}
use Rattle.pattern_normal.specs.declared.case.Case.{Case}
use Rattle.pattern_normal.specs.Alternatives.{IsBytes}
use Rattle.pattern_normal.specs.Cases.{is_met, told, told_by_met, binds_and_len}
use Rattle.pattern_normal.specs.Skeletons.{read_entries}
use Rattle.match_meaning.specs.Matchable.{IsMatchable}
use Rattle.arm_matching.specs.declared.matcher.Matcher.{Matcher}
use Rattle.arm_matching.specs.declared.matcher.ArmResult.{ArmResult}

-- what a result binds, and its length
abbrev pub Told : Type 0
Told = List RawEntry × ℕ

-- an arm's number with what its result binds, and the length
abbrev pub numbered : ℕ × Match → ℕ × Told
numbered (k, a) = (k, binds_and_len a)

-- the same of a result that is read from a window
abbrev pub result_told : Tokens → List ℕ → ArmResult → ℕ × Told
result_told tokens window r = (r.arm, (read_entries tokens window r.skeleton.now.entries, r.len))

-- what the results of an arm are on a window, without the mark loose
abbrev pub told_by_arm : Spec → List ℕ → Arm → List Told
told_by_arm spec window arm = map binds_and_len (arm_results spec arm window 0)

-- the same of all arms in order, with their numbers, the first of which is k
abbrev pub told_by_arms : Spec → List ℕ → ℕ → List Arm → List (ℕ × Told)
told_by_arms spec window k [] = []
told_by_arms spec window k (arm ∷ arms) = map (λ t. (k, t)) (told_by_arm spec window arm) ++ told_by_arms spec window (k + 1) arms

-- what the cases that the window meets tell, in order, with the numbers that stand beside them
abbrev pub told_beside : Tokens → List ℕ → List ℕ → List Case → List (ℕ × Told)
told_beside tokens window (k ∷ ks) (case ∷ cases) =
    if is_met window case then (k, told tokens window case) ∷ told_beside tokens window ks cases else told_beside tokens window ks cases
told_beside tokens window _ _ = []

abbrev pub bits_of : Case → ByteCase
bits_of case = case.bits

-- on every window, the cases that it meets tell the results of the arm, in order
abbrev pub AreCasesOf : Spec → Arm → List Case → Type 0
AreCasesOf spec arm cases = (window : List ℕ) → IsBytes window → told_by_met spec.tokens window cases ≡ told_by_arm spec window arm

-- a number stands beside each case, and on every window the cases that it meets tell the results of the arms, in order
pub record AreCasesOfArms (spec : Spec) (arms : List Arm) (numbers : List ℕ) (cases : List Case) : Type 0 where
  pub beside : length numbers ≡ length cases
  pub told : (window : List ℕ) → IsBytes window → told_beside spec.tokens window numbers cases ≡ told_by_arms spec window 0 arms

-- the statement can be matched, its arms have these cases, and the graph decides among them
pub record IsReady (matcher : Matcher) : Type 0 where
  pub matchable : IsMatchable matcher.spec.now matcher.statement.now
  pub cases : AreCasesOfArms matcher.spec.now matcher.statement.now.arms matcher.arms matcher.cases
  pub bits : matcher.tree.cases.items ≡ map bits_of matcher.cases

-- the place of the first case that the window meets
abbrev pub first_place : Matcher → List ℕ → Option ℕ
first_place matcher window = position_from (is_met window) 0 matcher.cases
