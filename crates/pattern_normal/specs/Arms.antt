-- Patterns that stand in arms.
use Rattle.std.specs.Prelude.{ℕ, ◌≤◌, ◌^◌, ◌⊎◌, [], length}
use Rattle.sled_model.specs.declared.spec.Spec.{Spec}
use Rattle.sled_model.specs.declared.pattern.Argument.{Argument}
use Rattle.sled_model.specs.declared.pattern.Argument.TheVariants.{Inner'}
use Rattle.sled_model.specs.declared.pattern.Pattern.{Pattern, Row_of-Argument, end_of-Argument, more_of-Argument}
use Rattle.sled_model.specs.declared.pattern.Pattern.TheVariants.{Apply'}
use Rattle.sled_model.specs.Leaves.{AllLeaves, NamesNoConstructor}
use Rattle.pattern_normal.specs.Operands.{ApplyNothing}
use Rattle.pattern_normal.specs.Surroundings.{Surroundings, open_weight}

-- the pattern names no constructor, or a number of 32 bits names each constructor that there is
abbrev pub NamesFew : Spec → Pattern → Type 0
NamesFew spec p = AllLeaves NamesNoConstructor p ⊎ (length spec.constructors ≤ 2 ^ 32)

-- what a pattern in an arm stands among
abbrev pub in_arm : Spec → Surroundings
in_arm spec = record { tokens = spec.tokens; constructors = spec.constructors; kinds = [] }

-- the weight of a pattern in an arm, where an application has the whole weight of its constructor
abbrev pub open_pattern_weight : Spec → Pattern → ℕ
open_pattern_weight spec p = open_weight (in_arm spec) p

abbrev pub IsOpen : Argument → Type 0
IsOpen (Inner' s p) = ⊥
IsOpen _ = Unit {0}

abbrev pub AreOpen : {n : _} → Row_of-Argument n → Type 0
AreOpen end_of-Argument = Unit {0}
AreOpen (more_of-Argument a arguments) = IsOpen a × AreOpen arguments

-- an application asks nothing of its operands, where no body holds an application
abbrev pub IsOpenLeaf : Spec → Pattern → Type 0
IsOpenLeaf spec (Apply' k s arguments) = AreOpen arguments × ApplyNothing spec.constructors
IsOpenLeaf spec _ = Unit {0}

-- no application in the pattern holds another
abbrev pub HasWholeWeight : Spec → Pattern → Type 0
HasWholeWeight spec p = AllLeaves (IsOpenLeaf spec) p
