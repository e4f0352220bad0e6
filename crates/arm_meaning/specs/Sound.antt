-- What is true of the pattern of an arm whose names are known and whose numbers fit.
use Rattle.std.specs.Prelude.{◌≡◌, ℕ, true, false, List, [], ◌∷◌, Option, Some, None, slice_get, All}
use Rattle.std.specs.Option.{option_map_or}
use Rattle.sled_parser.specs.declared.tree.PatternTree.{PatternTree}
use Rattle.sled_model.specs.declared.constructor.OperandKind.{OperandKind}
use Rattle.sled_model.specs.declared.constructor.TypeId.{TypeId}
use Rattle.sled_model.specs.declared.pattern.Argument.{Argument}
use Rattle.sled_model.specs.declared.pattern.Argument.TheVariants.{Inner'}
use Rattle.sled_model.specs.declared.pattern.Pattern.{Pattern, Row_of-Pattern, end_of-Pattern, more_of-Pattern, Row_of-Argument, end_of-Argument, more_of-Argument}
use Rattle.sled_model.specs.declared.pattern.Pattern.TheVariants.{Operand, Apply'}
use Rattle.sled_model.specs.declared.spec.Spec.{Spec}
use Rattle.sled_model.specs.Kinds.{is_of, type_in, kinds_of}
use Rattle.sled_model.specs.Leaves.{AllLeaves, HasLimitInField}
use Rattle.tree_meaning.specs.Parts.{numbers_fit}
use Rattle.tree_meaning.specs.Scopes.{Declared}
use Rattle.tree_meaning.specs.Sound.{NamesKnown, IsSoundMeaning}
use Rattle.arm_meaning.specs.Patterns.{are_known_in_arm, arm_pattern}

abbrev mutual
  -- the argument may stand for an operand of the kind: an inner application is of a constructor of the kind's type
  pub IsArgumentFor : Spec → OperandKind → Argument → Type 0
  IsArgumentFor spec kind (Inner' s p) = BoxAppliesType spec (type_in kind) p
  IsArgumentFor spec kind _ = Unit {0}

  pub BoxAppliesType : {n : _} → Spec → Option TypeId → Row_of-Pattern n → Type 0
  BoxAppliesType spec t end_of-Pattern = ⊥
  BoxAppliesType spec t (more_of-Pattern p ps) = AppliesType spec t p

  pub AppliesType : Spec → Option TypeId → Pattern → Type 0
  AppliesType spec t (Apply' k s arguments) = (option_map_or (is_of t) (slice_get spec.constructors k.0) false ≡ true) × RowIsFor spec (kinds_of spec k) arguments
  AppliesType spec t _ = ⊥

  -- one argument for each kind
  pub RowIsFor : {n : _} → Spec → Option (List OperandKind) → Row_of-Argument n → Type 0
  RowIsFor spec None arguments = ⊥
  RowIsFor spec (Some []) end_of-Argument = Unit {0}
  RowIsFor spec (Some []) (more_of-Argument a arguments) = ⊥
  RowIsFor spec (Some (kind ∷ kinds)) end_of-Argument = ⊥
  RowIsFor spec (Some (kind ∷ kinds)) (more_of-Argument a arguments) = IsArgumentFor spec kind a × RowIsFor spec (Some kinds) arguments

-- it is no operand, and where it is an application, its constructor is known, and each operand has an argument that may stand for it
abbrev pub AppliesKnown : Spec → Pattern → Type 0
AppliesKnown spec (Operand k) = ⊥
AppliesKnown spec (Apply' k s arguments) = RowIsFor spec (kinds_of spec k) arguments
AppliesKnown spec _ = Unit {0}

-- a leaf of an arm's pattern: it names what is known, its limit is a value of its field, and its application fits
pub record IsArmLeaf (spec : Spec) (p : Pattern) : Type 0 where
  pub known : NamesKnown spec.tokens p
  pub limit : HasLimitInField spec.tokens p
  pub applies : AppliesKnown spec p

-- Whatever the names that an arm binds: where the declared names stand for something of the description, no name is local, the names in
-- the tree are known and its numbers fit, each leaf of the pattern is such a one.
abbrev pub PatternsAreSound : Type 0
PatternsAreSound =
    (spec : Spec) (declared : Declared) (names : List (List ℕ)) (tree : PatternTree) → All (IsSoundMeaning spec.tokens) declared.meanings
    → declared.local_meanings ≡ [] → are_known_in_arm spec declared tree ≡ true → numbers_fit spec.tokens declared tree ≡ true
    → AllLeaves (IsArmLeaf spec) (arm_pattern spec declared names tree)
