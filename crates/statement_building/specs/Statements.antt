-- What the arms of a statement stand for.
use Rattle.std.specs.Prelude.{◌≡◌, ℕ, true, List, [], map, option_map, unwrap_or, All}
use Rattle.sled_lexer.specs.Spelled.{number_value}
use Rattle.sled_parser.specs.declared.tree.ArmTree.{ArmTree}
use Rattle.sled_parser.specs.declared.tree.ArmsTree.{ArmsTree}
use Rattle.sled_parser.specs.declared.tree.ArmsTree.TheVariants as arms
use Rattle.sled_parser.specs.declared.tree.MatchTree.{MatchTree}
use Rattle.sled_model.specs.declared.pattern.Pattern.{Pattern}
use Rattle.sled_model.specs.declared.spec.Spec.{Spec}
use Rattle.sled_model.specs.declared.statement.Arm.{Arm}
use Rattle.sled_model.specs.declared.statement.Statement.{Statement}
use Rattle.tree_meaning.specs.Scopes.{Declared}
use Rattle.tree_meaning.specs.Patterns.{has_all_in_range}
use Rattle.arm_actions.specs.Actions.{unquoted, action_pieces}
use Rattle.arm_meaning.specs.All.{all_arms}
use Rattle.arm_meaning.specs.Bound.{bound}
use Rattle.arm_meaning.specs.Patterns as meaning

-- the names that an arm binds, in the order in which they first stand there
abbrev pub arm_names : Declared → ArmTree → List (List ℕ)
arm_names declared arm = bound declared arm.pattern

-- the pattern of an arm: its labels, and the names in its applications, are numbered by their places among the names that it binds
abbrev pub arm_pattern : Spec → Declared → ArmTree → Pattern
arm_pattern spec declared arm = meaning.arm_pattern spec declared (arm_names declared arm) arm.pattern

abbrev pub arm_of : Spec → Declared → ArmTree → Arm
arm_of spec declared arm = record {
  pattern = arm_pattern spec declared arm;
  names = arm_names declared arm;
  action = unwrap_or (action_pieces (arm_names declared arm) (unquoted arm.action)) [];
}

-- those that are written out, or those of all instructions
abbrev pub arms_of : Spec → Declared → ArmsTree → List Arm
arms_of spec declared arms.All = all_arms spec
arms_of spec declared (arms.Listed as_they_stand) = map (arm_of spec declared) as_they_stand

-- the statement that arms make
abbrev pub statement_of : Spec → Declared → MatchTree → Statement
statement_of spec declared tree = record { arms = arms_of spec declared tree.arms; skip = option_map number_value tree.skip }

-- each Number of the arms' patterns is at most 4,294,967,295, as each in a text is
abbrev pub HasArmInRange : ArmTree → Type 0
HasArmInRange arm = has_all_in_range arm.pattern ≡ true

abbrev pub HaveArmsInRange : ArmsTree → Type 0
HaveArmsInRange arms.All = Unit {0}
HaveArmsInRange (arms.Listed as_they_stand) = All HasArmInRange as_they_stand
