-- The arms that `match all` stands for: one for each constructor of an instruction, in the order of declaration.
use Rattle.std.specs.Prelude.{ℕ, ◌+◌, ◌≡◌, ◌==◌, if◌then◌else◌, List, [], ◌∷◌, ◌++◌, length, map, codes, slice_get, Option, Some, None, All}
use Rattle.std.specs.List.{flat_map, range_with_len}
use Rattle.sled_model.specs.declared.constructor.Constructor.{Constructor}
use Rattle.sled_model.specs.declared.constructor.ConstructorId.{ConstructorId}
use Rattle.sled_model.specs.declared.constructor.TypeId.{TypeId}
use Rattle.sled_model.specs.declared.instance.Instance.{Instance}
use Rattle.sled_model.specs.declared.instance.Operand.{Operand}
use Rattle.sled_model.specs.declared.pattern.Argument.{Argument}
use Rattle.sled_model.specs.declared.pattern.Argument.TheVariants.{Name}
use Rattle.sled_model.specs.declared.pattern.Pattern.TheVariants.{Apply}
use Rattle.sled_model.specs.declared.raw.RawEntry.{RawEntry}
use Rattle.sled_model.specs.declared.raw.RawEntry.TheVariants.{Choice}
use Rattle.sled_model.specs.declared.spec.Spec.{Spec}
use Rattle.sled_model.specs.declared.statement.Arm.{Arm}
use Rattle.sled_model.specs.declared.statement.Piece.{Piece}
use Rattle.sled_model.specs.declared.statement.Piece.TheVariants.{Words, Bound}
use Rattle.sled_model.specs.Instances.{Means}
use Rattle.match_meaning.specs.Names.{AreNameValues}
use Rattle.asm_text.specs.Actions.{NamesBelow, action_text}
use Rattle.asm_text.specs.Instances.{separator, instance_text}

-- so many names, in order
abbrev pub first_names : ℕ → List Argument
first_names count = map Name (range_with_len 0 count)

-- the words before the name of this number
abbrev pub words_before : List ℕ → ℕ → List ℕ
words_before name k = if k == 0 then name ++ codes "(" else separator

-- a name, behind the words before it
abbrev pub name_piece : List ℕ → ℕ → List Piece
name_piece name k = Words (words_before name k) ∷ Bound k ∷ []

-- the pieces of the action `k({a}, {b})`, which has so many names
abbrev pub written_pieces : List ℕ → ℕ → List Piece
written_pieces name count =
    if count == 0 then Words (name ++ codes "()") ∷ []
    else (flat_map (name_piece name) (range_with_len 0 count) ++ Words (codes ")") ∷ [])

-- `case k(a, b) => "k({a}, {b})"`, where `a` and `b` are the names of the constructor's operands
abbrev pub arm_that_writes : ConstructorId → Constructor → Arm
arm_that_writes k c = record {
  pattern = Apply k (first_names (length c.names));
  names = c.names;
  action = written_pieces c.name (length c.names);
}

-- a constructor with no type makes instructions, and has an arm
abbrev pub arm_by_result : Option TypeId → Arm → List Arm
arm_by_result None arm = arm ∷ []
arm_by_result (Some t) arm = []

-- the arms of the constructors, the first of which has number k
abbrev pub all_arms_from : ℕ → List Constructor → List Arm
all_arms_from k [] = []
all_arms_from k (c ∷ cs) = arm_by_result c.result (arm_that_writes (record { 0 = k }) c) ++ all_arms_from (k + 1) cs

-- the arms that `match all` stands for
abbrev pub all_arms : Spec → List Arm
all_arms spec = all_arms_from 0 spec.constructors

-- ---- what the arm of a constructor does

-- Whatever the operands, one for each name: the action's text, where they are the values of the names, is that of the instance which
-- they make.
abbrev pub ActionsWriteInstances : Type 0
ActionsWriteInstances =
    (spec : Spec) (k : ConstructorId) (c : Constructor) (operands : List Operand) → slice_get spec.constructors k.0 ≡ Some c
    → length operands ≡ length c.names
    → action_text spec (arm_that_writes k c) operands ≡ instance_text spec (record { constructor = k; operands = operands })

-- The arm's names stand for the operands: in a result that is a choice of the constructor, whose entries mean the instance, the values of
-- the names are the instance's operands.
abbrev pub NamesAreOperands : Type 0
NamesAreOperands =
    (spec : Spec) (location : ℕ) (c : Constructor) (inner : List RawEntry) (i : Instance) → Means spec location inner i
    → length i.operands ≡ length c.names
    → AreNameValues spec location (Choice i.constructor (record { entries = inner }) (first_names (length c.names)) ∷ []) 0 c.names i.operands

-- the action names the arm's names alone
abbrev pub ActionsNameTheirNames : Type 0
ActionsNameTheirNames = (k : ConstructorId) (c : Constructor) → All (NamesBelow (length c.names)) (arm_that_writes k c).action
