-- What a statement has to meet, in the order of the conditions' numbers, and the first arm that does not meet one.
use Rattle.std.specs.Prelude.{ℕ, ◌+◌, Bool, ◌&&◌, nat_le, List, [], ◌∷◌, ◌++◌, Option, Some, None, is_some, if◌then◌else◌}
use Rattle.sled_lexer.specs.Spelled.{number_value}
use Rattle.sled_parser.specs.declared.tree.PatternTree.{PatternTree}
use Rattle.sled_parser.specs.declared.tree.ArmTree.{ArmTree}
use Rattle.sled_parser.specs.declared.tree.ArmsTree.{ArmsTree}
use Rattle.sled_parser.specs.declared.tree.ArmsTree.TheVariants as arms
use Rattle.sled_parser.specs.declared.tree.MatchTree.{MatchTree}
use Rattle.sled_model.specs.declared.pattern.Pattern.{Pattern}
use Rattle.sled_model.specs.declared.spec.Spec.{Spec}
use Rattle.sled_model.specs.declared.statement.Arm.{Arm}
use Rattle.sled_model.specs.Shapes.{spec_shapes, shapes, conjunctions_agree, chains_are_closed, are_closed, lengths_within}
use Rattle.sled_model.specs.Measures.{pattern_weight, pattern_size, pattern_len}
use Rattle.tree_meaning.specs.Names.{are_new}
use Rattle.tree_meaning.specs.Scopes.{Declared}
use Rattle.tree_meaning.specs.Parts.{labels, numbers_fit, generates_nothing}
use Rattle.constructor_meaning.specs.Unmet.{first_unmet}
use Rattle.arm_actions.specs.Actions.{unquoted, action_pieces}
use Rattle.arm_meaning.specs.All.{all_arms}
use Rattle.arm_meaning.specs.Bound.{binds_once, sides_bind_alike}
use Rattle.arm_meaning.specs.Patterns.{are_known_in_arm}
use Rattle.statement_building.specs.Statements.{arm_names, arm_pattern}

-- ---- conditions of an arm

-- Condition 1, names are declared once: over `fields of b (8) x 0:7`, `case L: x = 1` meets it, `case x: x = 1` does not.
-- Condition 2, names are known: with a constructor `k(x) is x`, `case x` and `case k(a)` meet it, `case y`, `case j(a)` and `case k(a, b)` do
-- not.
-- Condition 4, numbers fit their fields: `case x = 255` meets it, `case x = 256` does not.
-- Condition 5, an arm has no generating expression: `case x = {1 to 3}` does not meet it.
abbrev pub naming_conditions : Spec → Declared → PatternTree → List (ℕ × Bool)
naming_conditions spec declared tree =
    (1, are_new declared.names (labels tree))
    ∷ (2, are_known_in_arm spec declared tree)
    ∷ (4, numbers_fit spec.tokens declared tree)
    ∷ (5, generates_nothing tree)
    ∷ []

-- an arm has no loose end: `case x = 1` meets it, `case x = 1 ...` does not
abbrev pub is_closed_arm : Spec → Pattern → Bool
is_closed_arm spec p = chains_are_closed (spec_shapes spec) p && are_closed (shapes (spec_shapes spec) p)

-- of the pattern p that a tree stands for

-- Condition 6, conjunctions agree: with `fields of h (16) y 0:15`, `case x = 1 & x = 2` meets it, `case x = 1 & y = 2` does not.
-- Condition 7, what stands before a `;` is closed, and so is the whole: `case x = 1 ; x = 2` meets it, `case x = 1 ... ; x = 2` does not.
abbrev pub form_conditions : Spec → Pattern → List (ℕ × Bool)
form_conditions spec p = (6, conjunctions_agree (spec_shapes spec) p) ∷ (7, is_closed_arm spec p) ∷ []

-- Condition 8, the sides of a disjunction bind the same names: `case k(a) | k(b)` does not meet it.
-- Condition 9, no name is bound twice in an alternative: `case k(a) ; k(a)` does not meet it.
abbrev pub binding_conditions : Declared → PatternTree → List (ℕ × Bool)
binding_conditions declared tree = (8, sides_bind_alike declared tree) ∷ (9, binds_once declared tree) ∷ []

-- each alternative has 1 to 32 bytes, and the longest that there is where applications have their whole length has no more
abbrev pub has_lengths : Spec → Pattern → Bool
has_lengths spec p = lengths_within 1 32 spec.tokens (shapes (spec_shapes spec) p) && nat_le (pattern_len spec p) 32

-- the weight is at most 4,096 and with those of the arms before at most 16,384, and the size is at most 256
abbrev pub has_measure : Spec → ℕ → Pattern → Bool
has_measure spec before p = nat_le (pattern_weight spec p) 4096 && nat_le (pattern_size spec p) 256 && nat_le (before + pattern_weight spec p) 16384

-- Condition 14, lengths: `case x = 1` meets it, `case epsilon` does not.
-- Condition 15, weights and sizes, where the arms before weigh so much.
abbrev pub measure_conditions : Spec → ℕ → Pattern → List (ℕ × Bool)
measure_conditions spec before p = (14, has_lengths spec p) ∷ (15, has_measure spec before p) ∷ []

abbrev pub forming_conditions : Spec → Declared → ℕ → PatternTree → Pattern → List (ℕ × Bool)
forming_conditions spec declared before tree p = form_conditions spec p ++ (binding_conditions declared tree ++ measure_conditions spec before p)

-- condition 16, an action names what is bound: `x => "{x}"` meets it, `x = 1 => "{x}"` and `x => "{"` do not
abbrev pub action_is_bound : Declared → ArmTree → Bool
action_is_bound declared arm = is_some (action_pieces (arm_names declared arm) (unquoted arm.action))

abbrev pub arm_conditions : Spec → Declared → ℕ → ArmTree → List (ℕ × Bool)
arm_conditions spec declared before arm =
    naming_conditions spec declared arm.pattern
    ++ (forming_conditions spec declared before arm.pattern (arm_pattern spec declared arm) ++ (16, action_is_bound declared arm) ∷ [])

-- the first condition that an arm does not meet, where those before it weigh so much
abbrev pub arm_unmet : Spec → Declared → ℕ → ArmTree → Option ℕ
arm_unmet spec declared before arm = first_unmet (arm_conditions spec declared before arm)

-- An arm that `match all` stands for is written as the conditions ask, so that only those on its pattern are left.
abbrev pub made_unmet : Spec → ℕ → Arm → Option ℕ
made_unmet spec before arm = first_unmet (form_conditions spec arm.pattern ++ measure_conditions spec before arm.pattern)

-- ---- the first arm that does not meet a condition, by its number, and the condition

-- number n with its condition, where one is unmet, or else what is found later
abbrev pub first_or : ℕ → Option ℕ → Option (ℕ × ℕ) → Option (ℕ × ℕ)
first_or n None later = later
first_or n (Some condition) later = Some (n, condition)

-- condition 14 of the tail: a skip has 1 to 32 bytes
abbrev pub skip_unmet : Option (List ℕ) → Option ℕ
skip_unmet None = None
skip_unmet (Some number) = if nat_le 1 (number_value number) && nat_le (number_value number) 32 then None else Some 14

-- from arm number n on, where those before it weigh so much; the tail counts as the arm past the last
abbrev pub arms_unmet : {A : Type 0} → (ℕ → A → Option ℕ) → (A → ℕ) → ℕ → ℕ → List A → Option (List ℕ) → Option (ℕ × ℕ)
arms_unmet unmet weight n before [] skip = first_or n (skip_unmet skip) None
arms_unmet unmet weight n before (arm ∷ arms) skip = first_or n (unmet before arm) (arms_unmet unmet weight (n + 1) (before + weight arm) arms skip)

abbrev pub tree_weight : Spec → Declared → ArmTree → ℕ
tree_weight spec declared arm = pattern_weight spec (arm_pattern spec declared arm)

abbrev pub arm_weight : Spec → Arm → ℕ
arm_weight spec arm = pattern_weight spec arm.pattern

abbrev pub written_unmet : Spec → Declared → ArmsTree → Option (List ℕ) → Option (ℕ × ℕ)
written_unmet spec declared arms.All skip = arms_unmet (made_unmet spec) (arm_weight spec) 1 0 (all_arms spec) skip
written_unmet spec declared (arms.Listed as_they_stand) skip = arms_unmet (arm_unmet spec declared) (tree_weight spec declared) 1 0 as_they_stand skip

-- the first arm that does not meet a condition, and which
abbrev pub statement_unmet : Spec → Declared → MatchTree → Option (ℕ × ℕ)
statement_unmet spec declared tree = written_unmet spec declared tree.arms tree.skip
