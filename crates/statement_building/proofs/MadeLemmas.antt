-- The arms of `match all`, and arms that can be matched.
use Rattle.std.proofs.Common.{◌≡◌, ℕ, ◌+◌, List, [], ◌∷◌, ◌++◌, length, map, All, Option, Some, None, sym, subst}
use Rattle.std.proofs.lemmas.List.Elements.{All-nil, All-cons, All-head, All-tail, All-append}
use Rattle.sled_model.specs.declared.constructor.Constructor.{Constructor}
use Rattle.sled_model.specs.declared.constructor.ConstructorId.{ConstructorId}
use Rattle.sled_model.specs.declared.constructor.TypeId.{TypeId}
use Rattle.sled_model.specs.declared.pattern.Argument.{Argument}
use Rattle.sled_model.specs.declared.pattern.Argument.TheBlock.{hidden-the_row-Argument-2}
use Rattle.sled_model.specs.declared.pattern.Argument.TheVariants.{Name}
use Rattle.sled_model.specs.declared.pattern.Pattern.{Row_of-Argument, end_of-Argument, more_of-Argument, items-the_row-Argument, items_hidden-the_row-Argument-2}
use Rattle.sled_model.specs.declared.pattern.Pattern.TheVariants.{Apply}
use Rattle.sled_model.specs.declared.spec.Spec.{Spec}
use Rattle.sled_model.specs.declared.statement.Arm.{Arm}
use Rattle.sled_model.specs.Specs.{IsSpec}
use Rattle.sled_model.proofs.ShapeApplied.{HaveInnerApplications, IsOpenOrApplied}
use Rattle.sled_model.proofs.ShapeSpecs.{AppliesRightly}
use Rattle.asm_text.specs.Actions.{NamesBelow}
use Rattle.match_meaning.specs.Matchable.{IsMatchableArm}
use Rattle.constructor_readings.specs.Accepted.{HasReadings}
use Rattle.matchable_arms.specs.Arms.{HasMatchLengths, AppliesInside, HasLengths}
use Rattle.matchable_arms.specs.Once.{OperandsStandOnce}
use Rattle.matchable_arms.proofs.Arms.{arm_matchable}
use Rattle.arm_meaning.specs.All.{all_arms, all_arms_from, arm_by_result, arm_that_writes, first_names, ActionsNameTheirNames}
use Rattle.std.specs.List.{range_with_len}

row_applied : {n : _} (row : Row_of-Argument n) → All IsOpenOrApplied (items-the_row-Argument _ row) → HaveInnerApplications row
row_applied end_of-Argument h = tt
row_applied (more_of-Argument a row) h =
    let rest = items-the_row-Argument _ row in (All-head IsOpenOrApplied a rest h, row_applied row (All-tail IsOpenOrApplied a rest h))

names_open : (ns : List ℕ) → All IsOpenOrApplied (map Name ns)
names_open [] = All-nil IsOpenOrApplied
names_open (n ∷ ns) = All-cons IsOpenOrApplied (Name n) (map Name ns) tt (names_open ns)

-- names alone hold no application
names_applied : (k : ConstructorId) (ns : List ℕ) → AppliesRightly (Apply k (map Name ns))
names_applied k ns =
    row_applied (hidden-the_row-Argument-2 (map Name ns)) (subst (All IsOpenOrApplied) (sym (items_hidden-the_row-Argument-2 (map Name ns))) (names_open ns))

arm_applied : (k : ConstructorId) (c : Constructor) → AppliesInside (arm_that_writes k c)
arm_applied k c = names_applied k (range_with_len 0 (length c.names))

by_result : (P : Arm → Type 0) (result : Option TypeId) (arm : Arm) → P arm → All P (arm_by_result result arm)
by_result P None arm h = All-cons P arm [] h (All-nil P)
by_result P (Some t) arm h = All-nil P

-- what holds of the arm of each constructor holds of each arm of `match all`
made_from : (P : Arm → Type 0) → ((k : ConstructorId) (c : Constructor) → P (arm_that_writes k c)) → (n : ℕ) (cs : List Constructor) → All P (all_arms_from n cs)
made_from P each n [] = All-nil P
made_from P each n (c ∷ cs) =
    All-append P (arm_by_result c.result (arm_that_writes (record { 0 = n }) c)) (all_arms_from (n + 1) cs)
    (by_result P c.result (arm_that_writes (record { 0 = n }) c) (each (record { 0 = n }) c)) (made_from P each (n + 1) cs)

pub all_applied : (spec : Spec) → All AppliesInside (all_arms spec)
all_applied spec = made_from AppliesInside arm_applied 0 spec.constructors

-- the action names the arm's names alone
abbrev pub NamesItsNames : Arm → Type 0
NamesItsNames arm = All (NamesBelow (length arm.names)) arm.action

pub all_named : ActionsNameTheirNames → (spec : Spec) → All NamesItsNames (all_arms spec)
all_named named spec = made_from NamesItsNames named 0 spec.constructors

-- arms with lengths in range, whose actions name their names, can be matched
pub all_matchable : (spec : Spec) → IsSpec spec → HasReadings spec → OperandsStandOnce spec → (arms : List Arm) → All (HasLengths spec) arms → All NamesItsNames arms → All (IsMatchableArm spec) arms
all_matchable spec sound readings once [] lengths named = All-nil (IsMatchableArm spec)
all_matchable spec sound readings once (arm ∷ arms) lengths named =
    All-cons (IsMatchableArm spec) arm arms
    (arm_matchable spec arm sound readings once (All-head (HasLengths spec) arm arms lengths) (All-head NamesItsNames arm arms named))
    (all_matchable spec sound readings once arms (All-tail (HasLengths spec) arm arms lengths) (All-tail NamesItsNames arm arms named))
